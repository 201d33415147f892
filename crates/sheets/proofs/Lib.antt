mod Steps
mod Blank
mod Laws
