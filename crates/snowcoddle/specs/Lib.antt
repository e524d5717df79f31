-- What each call for C promises is in Promises, in the words of Told and Filed.
pub mod Told
pub mod Filed
pub mod Promises
