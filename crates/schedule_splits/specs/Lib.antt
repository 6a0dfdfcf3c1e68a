pub mod Stay
