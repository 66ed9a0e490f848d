-- Laws of bytes put into a buffer.
pub mod Lines
pub mod Put
