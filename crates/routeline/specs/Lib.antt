pub mod Talk
pub mod TalkLaws
pub mod Speaker
pub mod SpeakerLaws
pub mod Cases
