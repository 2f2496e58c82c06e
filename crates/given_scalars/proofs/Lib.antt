pub mod PointLaws
pub mod ScalarLaws
pub mod SortedLaws
