-- Why the demands are met, as far as it is proved of the search itself.
pub mod Why
