pub mod LesserPart
pub mod Deciding
