-- What the inner functions of this crate promise; nothing of it is cited by a call.
pub mod InnerSizes
pub mod InnerNotes
