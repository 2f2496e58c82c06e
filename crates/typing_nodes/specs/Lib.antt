pub mod CodeTail
