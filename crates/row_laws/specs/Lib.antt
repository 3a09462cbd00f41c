pub mod Desk
pub mod RowTicks
