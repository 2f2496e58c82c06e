pub mod PlaceTypes
pub mod WholeParts
pub mod Arguments
