mod Least
mod Idle
