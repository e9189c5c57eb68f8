mod Lying
mod Every
