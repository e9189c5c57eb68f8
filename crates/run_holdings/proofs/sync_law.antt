mod Always
mod Clean
mod Settling
