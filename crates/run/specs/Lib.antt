-- What the code's values stand for, and where a search stops.
pub mod Run
-- The same over the lists of the two sides.
pub mod Sides
-- Why its contract admits a single answer.
pub mod OneAnswer
