-- What a new kernel begins with, what is set of its frames, what is read of them then, and how many stores that takes.
pub mod Blank
pub mod Plan
pub mod Sets
pub mod Reading
pub mod Counts
