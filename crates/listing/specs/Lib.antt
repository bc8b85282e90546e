-- What has to be believed: one way of an index.
pub mod Listing
-- What the functions inside promise each other.
pub mod Stages
-- Listings, computed.
pub mod Cases
-- Why.
pub mod ListingLaws
pub mod PartLaws
-- Why each contract admits a single answer.
pub mod OneAnswer
