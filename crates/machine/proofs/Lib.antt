mod Giving
mod Judged
mod Kept
mod Refused
