pub mod Asked
pub mod Box
