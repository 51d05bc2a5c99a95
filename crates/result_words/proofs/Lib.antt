mod Lists
mod Seats
mod Steps
