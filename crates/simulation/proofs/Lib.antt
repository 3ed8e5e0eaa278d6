pub mod Judged
pub mod Capacity
pub mod Runs
pub mod RunsBy
pub mod Streamed
