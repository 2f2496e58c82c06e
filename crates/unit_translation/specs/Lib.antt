pub mod CodeTranslated
pub mod Forms
