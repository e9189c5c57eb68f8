pub mod Lasting
pub mod Numbers
pub mod SlotTable
pub mod Slots
pub mod Takeovers
pub mod Tokens
