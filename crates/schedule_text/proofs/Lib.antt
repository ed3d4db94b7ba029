pub mod ListLaws
pub mod ScheduleLaws
