-- Which sets an added clause changes: Changed is what to believe, since the promise of the call cites it; the other is inner.
pub mod Changed
pub mod InnerChanged
