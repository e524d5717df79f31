-- Laws of explain: distances and what is read off them, choices made entry by entry, the chains, and the search.
pub mod Distances
pub mod Openings
pub mod Choosing
pub mod Queue
pub mod Flagging
pub mod Searches
pub mod Counting
pub mod Tying
pub mod Writing
pub mod Answers
pub mod Reasons
pub mod Demands
