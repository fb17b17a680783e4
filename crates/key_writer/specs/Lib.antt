pub mod KeyWriter
