-- What C is told: that it is what the library promises, for every call, and demands 2 and 3 of what C lends and reads.
pub mod Calls
pub mod Demands
