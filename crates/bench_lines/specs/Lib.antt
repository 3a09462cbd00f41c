pub mod Places
pub mod Fields
pub mod Cursor
pub mod Compared
pub mod Agreed
pub mod Walk
pub mod Names
