pub mod Written
pub mod Trial
pub mod Answer
pub mod CodeTasks
pub mod CodeTrouble
