pub mod Tried
pub mod AddUp
pub mod AnyOrder
pub mod CountedByCalls
pub mod NoneAborts
pub mod Harmless
pub mod SomeSetting
pub mod NeverBoth
