-- The calls that hold their own row: what `parse` and `upgrade` promise, said without it.
pub mod Asked
pub mod Told
