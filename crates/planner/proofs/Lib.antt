mod Keeping
mod Following
