pub mod CountLaws
pub mod FollowLaws
pub mod LineLaws
pub mod ReportLaws
