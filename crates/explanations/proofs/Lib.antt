mod Checks
mod Ends
mod EnoughRam
mod Faults
mod Nearest
mod Printed
