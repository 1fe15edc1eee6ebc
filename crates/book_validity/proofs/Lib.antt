mod Ends
mod Parts
