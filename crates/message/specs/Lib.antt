pub mod Numbers
pub mod Raw
pub mod Records
