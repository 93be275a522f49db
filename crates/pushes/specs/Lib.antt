pub mod Judging
pub mod Pushing
pub mod Reading
pub mod Writing
