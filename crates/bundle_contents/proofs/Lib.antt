pub mod Contents
mod Attributes
mod Accepted
mod Walking
mod Inside
mod Finding
mod Tests
