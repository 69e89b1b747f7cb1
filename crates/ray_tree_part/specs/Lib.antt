pub mod TreeParts
