pub mod Collect
pub mod Merge
pub mod Rising
pub mod Search
pub mod Seen
pub mod Sorted
