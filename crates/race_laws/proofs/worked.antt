-- Worked cases, computed by the definitions: for each premise of a law two histories that keep all others and differ.
mod Tests
mod Said
mod InFlight
mod ClosesAhead
mod OneMakes
mod TooManyTexels
mod WithoutMemory
mod CrossedWaits
