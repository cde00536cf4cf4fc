pub mod Folds
pub mod Saves
pub mod Page
