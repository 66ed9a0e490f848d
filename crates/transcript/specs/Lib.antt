-- Laws of the run of a transcript.
pub mod Run
