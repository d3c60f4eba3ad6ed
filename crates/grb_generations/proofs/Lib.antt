mod AtEnd
mod Chained
mod Keeping
mod Lasting
mod Living
mod Lossless
mod Moving
mod Opening
pub mod Ending
