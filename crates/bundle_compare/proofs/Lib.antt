mod Finding
mod Listing
mod Filling
mod Comparing
