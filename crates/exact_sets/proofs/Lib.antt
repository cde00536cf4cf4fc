pub mod Computed
pub mod LongPauses
pub mod DeviceIds
pub mod Long
