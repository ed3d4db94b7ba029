pub mod Dragging
pub mod DraggingLaws
pub mod Walks
