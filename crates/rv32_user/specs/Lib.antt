-- The definitions that the contracts cite: how the program's answers stand for those of a step.
pub mod Action
pub mod Step
