pub mod Input
pub mod Navic
