pub mod OnWords
pub mod OnNumbers
pub mod Verdicts
pub mod Formed
pub mod UnitVerdicts
pub mod WellFormed
pub mod Along
