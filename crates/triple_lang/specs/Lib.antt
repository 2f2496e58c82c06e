pub mod Entail
pub mod Deriv
pub mod Triple
pub mod CodeEntail
pub mod CodeDeriv
