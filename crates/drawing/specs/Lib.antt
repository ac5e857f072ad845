-- What the contracts of create and paint cite.
pub mod Create
pub mod Paint
pub mod PaintSteps
