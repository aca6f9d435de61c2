pub mod Marks
pub mod Utf16
pub mod Windows1252
pub mod Encodings
pub mod Texts
pub mod Workbooks
