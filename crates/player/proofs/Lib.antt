mod Printing
mod Pauses
mod Sections
