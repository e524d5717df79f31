-- The bytes of each line that the program prints, which is what to believe; then what the functions that store its parts find.
pub mod Lines
pub mod Inner
