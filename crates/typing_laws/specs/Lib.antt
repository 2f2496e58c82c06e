pub mod Written
pub mod Count
