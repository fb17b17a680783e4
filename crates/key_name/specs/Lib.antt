pub mod Ndf64
