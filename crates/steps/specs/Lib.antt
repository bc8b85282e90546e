-- Steps 3 and 4 on bare numbers, and what the code's candidate stands for.
pub mod Steps
-- Why these are the steps of `nba`.
pub mod StepsLaws
-- Why each contract admits a single answer.
pub mod OneAnswer
