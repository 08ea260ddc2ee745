mod Fronts
mod Sends
