pub mod Imaging
