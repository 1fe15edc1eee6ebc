mod Begun
mod Stepped
mod Blocks
