-- What the records of a terminal show, and what a patch does to it that draws a byte.
pub mod Shown
pub mod Drawing
pub mod Strokes
