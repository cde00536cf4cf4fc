pub mod Awarding
