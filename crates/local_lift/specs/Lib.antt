pub mod Live
pub mod LiftedByLive
pub mod CodeRows
pub mod CodeNames
pub mod CodePlan
pub mod CodeLists
pub mod CodeLifted
pub mod Ready
