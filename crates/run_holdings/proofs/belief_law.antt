mod Small
mod Fronts
mod Runs
