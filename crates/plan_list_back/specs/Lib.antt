pub mod ListBack
pub mod Texts
