pub mod KeyReader
