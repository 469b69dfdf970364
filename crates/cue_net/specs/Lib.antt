-- What the words over a network answer.
pub mod Inner
pub mod Doors
pub mod Halts
pub mod Loops
pub mod Printed
pub mod Replies
pub mod Sockets
pub mod Talks
pub mod Told
pub mod Truth
