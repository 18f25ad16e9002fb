-- Lemmas on screens, on the ring of a terminal's rows, and on what the records show, also after a byte.
pub mod Screens
pub mod RowRing
pub mod Showing
pub mod ShownScreens
