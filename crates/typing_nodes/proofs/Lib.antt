pub mod MembersLeft
