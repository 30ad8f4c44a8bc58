pub mod Polygon
