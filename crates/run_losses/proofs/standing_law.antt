mod Lowest
mod Lapsing
mod Holding
mod Standing
