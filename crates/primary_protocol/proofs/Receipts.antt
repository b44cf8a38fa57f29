-- A caller takes a receipt.
pub mod Journal
pub mod Receipts
