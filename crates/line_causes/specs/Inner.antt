pub mod Explaining
pub mod TurnsWithCauses
