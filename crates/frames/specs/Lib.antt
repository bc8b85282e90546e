-- what the contracts and the laws speak of
pub mod Digits
pub mod Signed
pub mod Frame
pub mod Room
pub mod AnswerLines
pub mod FrameLine
-- laws: the promises about them, and the steps that the proofs lean on
pub mod DigitLaws
pub mod SignedLaws
pub mod FieldSteps
pub mod FieldLaws
pub mod FrameCases
pub mod FrameLaws
pub mod RoomLaws
pub mod PatternLaws
pub mod AnswerLaws
pub mod OneAnswer
pub mod Cases
