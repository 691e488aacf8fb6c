pub mod Taking
pub mod Watching
pub mod Verdicts
pub mod WatchLists
pub mod States
pub mod Publisher
pub mod Runs
