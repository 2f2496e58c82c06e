pub mod Words
pub mod CodeCommand
