mod Alone
mod Slots
mod Breaking
mod Losing
mod Counts
mod Told
mod Laws
