pub mod Results
pub mod Written
