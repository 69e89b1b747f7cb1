pub mod Descending
pub mod Every
pub mod Everywhere
pub mod Walking
pub mod Answering
pub mod Nesting
pub mod Beside
pub mod WellPlaced
pub mod LeafHolds
pub mod Seam
pub mod InnerNests
pub mod NodesHold
pub mod WideLeaves
pub mod WideSame
pub mod WideParts
pub mod WideAnswer
pub mod BoxLimits
pub mod LeftOut
mod Told
mod Narrowing
pub mod Pushing
mod Bits
pub mod Together
