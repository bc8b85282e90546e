pub mod ExcessLaws
