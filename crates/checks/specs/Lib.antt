pub mod Contents
pub mod Filling
pub mod Laws
