pub mod node_tie
pub mod node_index_tie
pub mod owner_index_tie
pub mod client_law
