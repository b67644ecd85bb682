pub mod Answer
pub mod Rows
pub mod Demand
pub mod EarlierSheets
pub mod LimitFound
pub mod OneNumber
