pub mod FetchLemmas
mod Words
