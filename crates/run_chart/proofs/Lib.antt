mod Arrows
mod Moments
mod Numbers
mod Standing
