pub mod Seconds
mod Error
mod Trip
mod Parts
mod Fractions
mod Bits
mod Rules
mod Worked
