mod Weights
mod Keeping
