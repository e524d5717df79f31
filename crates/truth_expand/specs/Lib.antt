-- What is asked of the members by which a universal is expanded; and the story of a search that begins too far in.
pub mod Serves
pub mod Story
