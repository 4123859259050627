mod Clashes
mod Counts
mod Firsts
mod Names
mod Steps
mod TwoMetas
