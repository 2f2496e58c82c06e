-- Lemmas.
pub mod ChangedParts
pub mod PartsHad
pub mod PeeledParts
pub mod PutTables
pub mod ReadsUnmade
pub mod RebuiltParts
pub mod ScalarEnds
pub mod UnmadeParts
