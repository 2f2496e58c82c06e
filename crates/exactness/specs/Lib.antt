pub mod Exact
pub mod Triple
pub mod SteadyUnits
