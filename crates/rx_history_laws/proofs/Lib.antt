mod Aligned
mod Barriers
mod Front
mod Heads
mod HeadsCovered
mod HeadsStep
mod KeptPaths
mod LawsHold
mod Lies
mod Lines
mod Losses
mod Made
mod Masked
mod NestedTerm
pub mod Paths
mod Says
mod Stacks
mod StillOpen
mod Story
pub mod Straight
pub mod TermCode
pub mod TermOrder
mod Ties
mod TiesStep
mod ToldOnce
mod ToldPairs
mod Turns
mod Opening
mod Numbered
mod Owners
mod Governed
mod Rows
mod Kept
mod KeptStep
mod KeptBirth
mod HistoryOrder
mod HistoryPairs
mod Events
mod Here
mod Newborn
mod JournalPairs
mod JournalOrder
