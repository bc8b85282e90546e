-- what the contracts speak of
pub mod Fields
-- why the contract admits a single answer
pub mod OneAnswer
