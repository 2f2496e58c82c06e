pub mod OneEnd
pub mod Continues
pub mod Filled
pub mod WithFronts
pub mod Agreeing
pub mod AgreeingValues
pub mod AgreeingSorts
pub mod Given
