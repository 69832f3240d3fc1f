pub mod EngineLaws
pub mod SignLaws
pub mod MoveLaws
pub mod ClassLaws
pub mod JoinedLaws
pub mod BestLaws
pub mod FirstLaws
pub mod DigitLaws
