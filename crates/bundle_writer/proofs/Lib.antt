mod Parts
mod Lines
mod Writing
