pub mod Clocks
pub mod Ids
pub mod Laws
pub mod Nodes
