-- Chunks: one chunk more.
pub mod Chunks
