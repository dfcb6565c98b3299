mod Cut
mod Found
mod Numbers
mod Parts
mod Told
