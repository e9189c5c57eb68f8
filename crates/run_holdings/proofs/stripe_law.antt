mod Joining
mod Runs
