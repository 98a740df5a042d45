mod Fitting
mod Stretching
mod Telling
