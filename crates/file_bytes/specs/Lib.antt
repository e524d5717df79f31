-- The bytes of a record as they are written in parts; which bytes a record has is defined in `file_format`.
pub mod InnerParts
