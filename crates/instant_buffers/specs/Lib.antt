pub mod HandedOver
