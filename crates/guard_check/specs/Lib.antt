pub mod InBodies
