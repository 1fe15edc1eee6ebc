pub mod Drawing
