pub mod Answers
pub mod Forms
pub mod Held
pub mod Outputs
pub mod Passing
pub mod Refusals
