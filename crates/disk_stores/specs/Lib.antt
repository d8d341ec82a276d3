-- What a changing call stores, record by record.
pub mod Pieces
pub mod Stores
pub mod Order
