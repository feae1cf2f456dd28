pub mod Boards
pub mod Printing
pub mod Serving
