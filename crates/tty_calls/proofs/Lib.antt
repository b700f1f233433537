mod Growing
mod Keeping
mod Learning
