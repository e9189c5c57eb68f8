mod Joins
mod Clean
mod Rows
mod Tables
mod Runs
