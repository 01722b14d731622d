pub mod Preparations
