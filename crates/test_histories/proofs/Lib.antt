mod Below
mod Grown
