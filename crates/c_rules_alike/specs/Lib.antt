pub mod PartsThere
