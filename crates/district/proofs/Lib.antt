pub mod OtherFrames
