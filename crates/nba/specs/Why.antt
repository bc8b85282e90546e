-- Why the demands are met (docs/RULES.md, "The three demands" and "Capped queries"): what the proofs are said in, with its laws. The
-- theorems that rest on one another about the search itself are in proofs/Why.
--     ByMark                                  the search as the code makes it: the mark for what is missing, compared as a number
--     Tabled, StateLaws, CodeLaws, CountLaws  tables, states put together over the side, counts of states
--     Measures, MeasureLaws                   the numbers that are compared
--     LookLaws, Moved, MovedLaws              what a turn does, as one relation between two states
--     UndecidedWalk, BeginningLaws            walks over undecided nodes, and the tables before the first turn
--     Ways, Trails, Settled, Exact            the invariants, each with the proof that a turn keeps it
--     Invariant                               all of them together
--     TrailLaws, PathLaws, ShortWalk          trails and paths as lists, and walks without repetition
--     Fits                                    what holds of entries, figures and path, so that a program can keep them
--     ExcessLaws, ReadLaws                    the excess, and how an answer at a cap reads
--     Longest                                 the chain by which the largest shortest length is reached
-- Assumes nothing.
pub mod ByMark
pub mod Tabled
pub mod StateLaws
pub mod CodeLaws
pub mod CountLaws
pub mod Measures
pub mod MeasureLaws
pub mod LookLaws
pub mod Moved
pub mod MovedLaws
pub mod UndecidedWalk
pub mod BeginningLaws
pub mod Ways
pub mod Trails
pub mod Settled
pub mod Exact
pub mod Invariant
pub mod TrailLaws
pub mod PathLaws
pub mod ShortWalk
pub mod Fits
pub mod ExcessLaws
pub mod ReadLaws
pub mod Longest
