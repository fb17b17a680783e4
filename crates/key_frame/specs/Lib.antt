pub mod KeyFrame
