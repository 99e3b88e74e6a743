-- The parts of a line of a script.
pub mod Lines
pub mod Decimal
pub mod Hexadecimal
pub mod Names
pub mod Shapes
pub mod Printed
