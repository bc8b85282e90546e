-- When a search at a cap stops, and what it then answers.
pub mod Stop
-- The same, computed.
pub mod Cases
-- Why: what each stop says of the search, and that each contract admits a single answer.
pub mod StopLaws
