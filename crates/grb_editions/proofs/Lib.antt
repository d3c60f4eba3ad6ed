mod Begins
mod SameCalls
mod Taken
