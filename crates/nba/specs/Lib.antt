-- What has to be believed stands in four files: what a search keeps, the search step by step, what is read off its end or off its
-- state at a cap, and what is demanded of it.
pub mod State
pub mod Search
pub mod Result
pub mod Demands
-- The cases (docs/RULES.md, "Cases"), with and without a cap, and readings that go wrong, computed by these definitions.
pub mod Cases
-- Why the demands are met, as far as proofs/Why rests on it. Nothing below has to be believed: the checker reads it.
pub mod Why
