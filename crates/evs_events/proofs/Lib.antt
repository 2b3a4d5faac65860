pub mod MapInPlace
