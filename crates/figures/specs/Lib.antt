pub mod Progress
pub mod Figures
pub mod Answers
pub mod Carried
pub mod Cameras
pub mod Along
