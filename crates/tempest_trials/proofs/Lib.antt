mod NoMemory
mod Ones
