mod Lists
mod Queueing
mod Keeping
mod Calling
