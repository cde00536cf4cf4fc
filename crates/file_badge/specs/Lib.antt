pub mod FileBadge
pub mod Starting
