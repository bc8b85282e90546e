pub mod GatherLaws
pub mod DisplayLaws
