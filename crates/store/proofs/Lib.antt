pub mod Laws
pub mod LiveStores
pub mod Touching
