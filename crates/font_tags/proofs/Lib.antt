pub mod Good
pub mod TagLaws
pub mod TagText
pub mod VersionLaws
pub mod VersionText
pub mod Written
