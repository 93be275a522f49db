pub mod Counts
pub mod Hints
pub mod Passes
pub mod Ranges
pub mod Rules
pub mod Slots
pub mod Tests
