pub mod BridgeEnds
pub mod BridgeLaws
pub mod Brought
pub mod BytesGiven
pub mod FewGiven
pub mod LineBytes
pub mod LineSends
pub mod Weights
