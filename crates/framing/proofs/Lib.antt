pub mod Agreement
pub mod Grid
pub mod Interleaver
pub mod Subframe
