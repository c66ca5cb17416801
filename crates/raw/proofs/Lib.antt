mod Asked
mod Fields
mod Heard
mod Moves
mod Pairs
mod Quick
