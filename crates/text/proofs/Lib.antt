mod Groups
mod Inverse
