mod Local
mod NamesApart
mod Numbers
mod Plain
mod Reading
mod Rules
mod Subcommands
mod Values
