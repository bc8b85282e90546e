-- What a list of entries has to do with the numbers that it stands for.
pub mod Tournament
-- Tournaments, computed.
pub mod Cases
-- Why a put keeps it so, and why the first entry is the least.
pub mod TournamentLaws
-- Why each contract admits a single answer.
pub mod OneAnswer
