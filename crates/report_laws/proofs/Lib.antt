mod Keywords
mod Laying
