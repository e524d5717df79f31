-- Writing the file of a forest: its parts; what the call promises is defined in `file_format`.
pub mod InnerParts
