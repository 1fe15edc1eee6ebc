pub mod Items
pub mod State
