-- Which entries change when an arc gets another near node.
pub mod Relist
-- What the functions inside promise each other.
pub mod Inner
-- Places, computed.
pub mod Cases
-- Why.
pub mod InnerLaws
pub mod AwayLaws
pub mod RelistLaws
-- Why the contract admits a single answer.
pub mod OneAnswer
