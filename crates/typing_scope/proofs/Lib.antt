pub mod Tables
pub mod Blocks
pub mod InnermostBlock
pub mod MemberNames
pub mod NothingDeclared
