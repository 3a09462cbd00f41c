-- tests, and what truth tables show
pub mod Tests
pub mod Truth
-- lists and their places
pub mod Lists
pub mod Places
pub mod Tabled
-- a function again and again, and events one after the other
pub mod Iterate
pub mod Runs
-- bits of a byte, and bytes in a buffer
pub mod Laws
pub mod Laying
