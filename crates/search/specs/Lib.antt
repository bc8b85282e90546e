-- What a query leaves, and what is demanded of it.
pub mod Promise
pub mod Demands
-- The lists that the code goes over.
pub mod Lists
-- What the functions inside promise each other.
pub mod Answered
-- What queries leave, computed.
pub mod Cases
-- Why.
pub mod DemandLaws
pub mod CappedLaws
