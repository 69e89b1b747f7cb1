pub mod Keeping
pub mod Results
pub mod Chosen
pub mod TriangleLimits
pub mod BoxLimits
pub mod StoredBack
pub mod StoredLimits
pub mod StoredAgain
