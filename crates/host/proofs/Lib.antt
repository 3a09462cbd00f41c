pub mod Calls
pub mod Wholes
pub mod Fresh
pub mod Chain
pub mod HostZ8036
pub mod HostZ8536
pub mod HostCtc
