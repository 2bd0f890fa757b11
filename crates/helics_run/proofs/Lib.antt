mod Once
mod Stuck
