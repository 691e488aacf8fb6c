pub mod Symbols
pub mod Lists
pub mod Verdicts
pub mod Layouts
pub mod Readings
pub mod Judgements
