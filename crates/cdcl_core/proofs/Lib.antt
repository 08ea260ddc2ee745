mod Marks
mod Analyses
mod Justified
mod Backjumps
mod Answering
pub mod Solutions
mod Reductions
mod Orders
mod Thawing
mod Resolvents
mod Steps
