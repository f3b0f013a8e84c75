-- Reading: what is held of standard input.
pub mod Reading
