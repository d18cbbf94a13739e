pub mod Laws
pub mod LiveStores
pub mod PackedBlocks
pub mod Stores
