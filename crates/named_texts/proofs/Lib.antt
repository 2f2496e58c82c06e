pub mod Types
pub mod Operators
pub mod Scopes
pub mod Operands
pub mod Declarations
pub mod Trees
pub mod Statements
pub mod Units
