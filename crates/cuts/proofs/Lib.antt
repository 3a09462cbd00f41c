pub mod Night
pub mod NightZ8536
pub mod NightRow
pub mod Account
pub mod NightCtc
