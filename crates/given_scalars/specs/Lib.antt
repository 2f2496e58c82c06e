pub mod CodeScalars
