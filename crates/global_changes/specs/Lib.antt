pub mod GlobalChange
