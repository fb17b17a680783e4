pub mod CheckedCases
