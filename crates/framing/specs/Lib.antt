pub mod Frame
pub mod Grid
pub mod Interleaver
pub mod Sync
