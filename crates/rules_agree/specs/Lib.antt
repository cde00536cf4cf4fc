pub mod RulesAgree
