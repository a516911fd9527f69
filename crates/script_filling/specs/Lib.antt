pub mod Filled
pub mod Filling
pub mod Private
pub mod Results
