mod Executed
mod Flat
mod Said
