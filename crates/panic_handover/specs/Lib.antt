-- What contracts say of the hand-over of a panic.
pub mod HandOver
