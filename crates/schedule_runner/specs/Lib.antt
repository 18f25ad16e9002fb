-- What contracts say of a run.
pub mod Revivals
pub mod Histories
pub mod Progress
pub mod Served
