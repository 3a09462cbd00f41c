pub mod Claim
pub mod Examples
