-- What the call for a resolution-path set promises, which is what to believe; then what its inner functions find, the walk and the ends of paths.
pub mod Paths
pub mod InnerWalk
pub mod InnerEnds
