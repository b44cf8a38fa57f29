-- How many of a client's requests are under way at most.
pub mod RequestBudget
