mod Beginning
mod Growing
mod Seeking
