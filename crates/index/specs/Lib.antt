-- What has to be believed: what an index is, its refusal tables, and what a build and an edit keep to.
pub mod Index
pub mod Table
pub mod Kept
-- Indexes, tables and edits, computed.
pub mod Cases
-- Why.
pub mod WayLaws
pub mod PartLaws
pub mod SidewaysLaws
pub mod TableLaws
pub mod IndexedLaws
pub mod JudgedLaws
pub mod HeldLaws
pub mod KeptLaws
-- Why each contract admits a single answer.
pub mod Lists
pub mod OneAnswer
