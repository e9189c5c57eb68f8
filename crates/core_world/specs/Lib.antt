pub mod AnyNode
pub mod Clocks
pub mod Serving
