pub mod FieldLaws
pub mod TargetLaws
pub mod InstrLaws
pub mod Names
pub mod RegisterNames
pub mod RowLaws
pub mod TextLaws
