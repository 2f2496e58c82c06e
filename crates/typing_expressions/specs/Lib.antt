pub mod CodeBehind
