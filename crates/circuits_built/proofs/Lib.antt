pub mod Rooms
pub mod Asking
pub mod Cases
