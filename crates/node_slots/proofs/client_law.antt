pub mod Emptying
mod Grouping
mod Asking
mod Effects
mod Quiet
pub mod Keeping
mod Sounding
mod Arriving
mod Packets
mod Calls
pub mod Happening
mod Writing
mod Puts
mod Giving
mod Orders
mod Caching
mod CachingSteps
mod CachingThrough
mod Versions
mod Unsettled
mod UnsettledSteps
mod UnsettledAlways
mod Fetching
pub mod Groups
mod Standing
mod Unserving
mod Stamps
pub mod Empty
pub mod Grouped
