mod FileRows
mod Rows
