pub mod Entries
pub mod Heads
pub mod Ordinary
