-- What calls of devices do to their counts and, where they are known, to their bytes.
pub mod Devices
pub mod Streams
pub mod Texts
