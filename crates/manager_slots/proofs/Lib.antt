mod Lent
mod Loops
mod Starting
mod Turns
