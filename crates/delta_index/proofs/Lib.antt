pub mod EntryAlgebra
pub mod FirstGreatest
pub mod HeldRows
pub mod IndexJoin
pub mod IndexOfJoin
pub mod JoinAlgebra
