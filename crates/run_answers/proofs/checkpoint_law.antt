mod Passing
mod Desk
mod Writing
mod Turning
mod Serving
mod Events
mod Runs
