pub mod Cells
pub mod ReadCells
