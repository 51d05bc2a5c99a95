mod Seats
mod ClientSteps
mod ServiceSteps
mod SeatSteps
mod Keeping
mod Answering
