pub mod ExactSets
