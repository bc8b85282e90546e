-- What has to be believed: a file by its lines, when each of its refusals is given, and what differs for the display; and the
-- same file byte by byte, with what a step of the code promises of it.
pub mod File
pub mod Lines
pub mod FileGiven
pub mod SecondQuery
pub mod Reader
pub mod Lists
-- What the functions inside promise each other.
pub mod Inner
-- Why: the laws of all these. Nothing of it has to be believed, the checker reads it.
pub mod ReaderLaws
pub mod IndexLaws
pub mod TakenLaws
pub mod HoldLaws
pub mod QueryLaws
pub mod CappedLaws
pub mod StepCases
pub mod FileLaws
pub mod LinesLaws
pub mod FileGivenLaws
pub mod SecondQueryLaws
pub mod NeverEmpty
pub mod QueryRefusals
pub mod PrintedLines
pub mod LastPrinted
pub mod PrintedNumbers
pub mod OneAnswer
pub mod PrintLaws
-- Files with their answers, computed by these definitions.
pub mod Cases
pub mod LinesCases
