pub mod Instances
pub mod InstanceReading
pub mod Contents
pub mod Keeping
pub mod Laws
pub mod Trees
