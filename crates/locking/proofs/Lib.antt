pub mod Weakening
