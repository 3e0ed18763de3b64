pub mod EveryRole
pub mod GoingBehind
pub mod Handing
pub mod Refusing
