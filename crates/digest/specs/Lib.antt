-- What the digest's contracts cite: the bytes and their digest; and the law of its parts.
pub mod Bytes
pub mod Parts
