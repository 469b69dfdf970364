mod Adding
mod Aligning
mod Behind
mod Changing
mod Copying
mod Fields
mod Filling
mod Hanging
mod Last
mod Merging
mod MetBranches
mod Nearing
mod Owned
mod RefusedDrafts
mod Resting
mod Rising
mod Settling
mod Sides
mod Sweeping
pub mod ByHalves
pub mod Alike
pub mod AtOneStep
pub mod Branches
pub mod Beyond
pub mod Closing
pub mod Drafting
pub mod Depth
pub mod Exact
pub mod Finding
pub mod Gaps
pub mod GoingOn
pub mod Joined
pub mod Lattice
pub mod Listed
pub mod Listing
pub mod ListingRows
pub mod Loosened
pub mod MetTables
pub mod Nodes
pub mod Order
pub mod RestBegins
pub mod RowLists
pub mod RunPlaces
pub mod SlotOrder
pub mod Under
pub mod Spanned
pub mod Stretches
pub mod ValidWalks
pub mod Validity
pub mod Ways
