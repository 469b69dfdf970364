pub mod Changes
pub mod JoinedFiles
pub mod Lines
pub mod Results
pub mod Rows
