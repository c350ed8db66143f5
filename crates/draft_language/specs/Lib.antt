pub mod Draft
pub mod Order
pub mod Chain
pub mod WeightBound
pub mod StoppedAct
pub mod Unwatched
