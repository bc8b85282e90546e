-- A node and its key as one number.
pub mod Code
-- What a queue holds.
pub mod Queue
-- Why codes compare as keys and nodes.
pub mod CodeLaws
-- Why the least number of a queue is the node that the side takes.
pub mod LeastLaws
-- Why a queue stays one while nodes enter and leave.
pub mod QueueLaws
-- Why each contract admits a single answer.
pub mod OneAnswer
-- Cases by hand.
pub mod Cases
