pub mod NamesThere
