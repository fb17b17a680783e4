mod BitLaws
mod Steps
mod Calls
