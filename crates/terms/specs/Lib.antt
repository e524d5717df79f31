-- What to believe of the words of the library: limits, literals, refusals, ascending lists and answers.
pub mod Limits
pub mod Literals
pub mod Says
pub mod Refusals
pub mod Listed
pub mod Overwritten
pub mod Answers
-- Inner, which nobody needs to believe.
pub mod InnerLiteralRows
pub mod InnerPairs
pub mod InnerLimits
