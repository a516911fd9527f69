pub mod Driving
pub mod Fetched
pub mod Playing
pub mod Plays
pub mod Seats
pub mod Standings
pub mod Words
pub mod Worlds
