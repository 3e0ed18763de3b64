pub mod Access
pub mod Harts
pub mod Machine
pub mod MachineInside
pub mod Refusals
pub mod Here
pub mod Execution
pub mod Steps
