pub mod CompareLaws
pub mod StageLaws
