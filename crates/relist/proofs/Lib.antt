pub mod PlaceLaws
mod MoveLaws
