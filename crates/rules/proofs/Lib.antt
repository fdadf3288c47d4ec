pub mod Marked
pub mod MarkedRows
pub mod MarkedViews
