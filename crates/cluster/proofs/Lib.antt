pub mod Begun
pub mod Drawn
pub mod Issued
pub mod Makes
pub mod Quiet
pub mod Runs
pub mod Theorem
