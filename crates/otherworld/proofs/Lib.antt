-- Lemmas of the program.
pub mod ArmedWorlds
pub mod Agrees
pub mod Tops
pub mod Worked
pub mod Texts
