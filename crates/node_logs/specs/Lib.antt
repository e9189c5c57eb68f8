pub mod opening_law
pub mod node_log_tie
pub mod client_log_tie
pub mod cleaner_log_tie
pub mod manager_log_tie
