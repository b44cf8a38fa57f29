-- The roots: what the contract of each theorem names, in a file for each. `JoinedHeadline` is what three of them share.
pub mod Cover
pub mod Headline
pub mod HonestLink
pub mod Joined
pub mod JoinedHeadline
pub mod PairIsJoined
pub mod PremisesAreMet
pub mod PrimaryAlone
pub mod PrimaryReflects
pub mod Refusals
pub mod SecondaryAlone
pub mod WriteOrder
