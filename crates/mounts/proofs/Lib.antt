pub mod Acted
pub mod Going
pub mod Handing
pub mod Joined
pub mod Made
pub mod Said
