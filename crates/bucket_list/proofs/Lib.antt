pub mod Chains
pub mod Counts
pub mod ListInvariant
pub mod Ranges
