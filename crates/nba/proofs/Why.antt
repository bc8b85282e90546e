-- Why the demands are met (docs/RULES.md, "The three demands" and "Capped queries"): what is proved of the search step by step. The
-- measures, relations and invariants that this is said in, and their own laws, are in specs/Why.
--     TablesKept                 the tables keep their lengths
--     LeastLaws, TurnLaws        the choice of step 3, and a turn as one relation between two states
--     RunLaws                    the invariants together, before every turn; the search ends
--     ByMarkLaws                 the search by marks is the search
--     EndLaws                    the state at a cap and at the end, start equal to end included
--     Theorems                   the demands, of every sound query
--     Capped                     how an answer at a cap reads, and what is demanded of it
--     Accepted                   all of it, of every accepted query
--     LongestReached             the largest shortest length is reached
-- Assumes nothing.
pub mod TablesKept
pub mod LeastLaws
pub mod TurnLaws
pub mod RunLaws
pub mod ByMarkLaws
pub mod EndLaws
pub mod Theorems
pub mod Capped
pub mod Accepted
pub mod LongestReached
