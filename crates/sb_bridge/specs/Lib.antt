pub mod Calls
pub mod Ports
pub mod Works
pub mod Openings
pub mod Sides
pub mod Crews
pub mod Left
