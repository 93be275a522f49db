pub mod Apart
pub mod Deciding
pub mod Judging
pub mod Keys
