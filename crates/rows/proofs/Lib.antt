pub mod KeyLaws
pub mod StandingLaws
pub mod OneRow
