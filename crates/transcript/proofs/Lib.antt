mod Lines
mod NodeOrder
mod Tables
