mod Rows
pub mod RulesAgree
