pub mod SeatLemmas
mod Words
