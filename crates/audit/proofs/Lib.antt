mod Each
mod Longs
mod Noting
