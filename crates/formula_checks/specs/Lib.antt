-- All of it is inner: where the naming of the variables of a block stops.
pub mod InnerNames
