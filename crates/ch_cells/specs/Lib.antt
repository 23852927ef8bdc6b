pub mod Cell
pub mod CellOrder
pub mod CellRef
pub mod Number
pub mod Row
