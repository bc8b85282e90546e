-- What the functions ask and leave.
pub mod Tables
pub mod Sides
-- Why, and that each contract admits a single answer.
pub mod TablesLaws
pub mod OneAnswer
