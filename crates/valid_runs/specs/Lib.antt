pub mod ValidRuns
