mod Choosing
mod Linking
mod Lowest
mod Missing
mod Settling
mod Sweeping
mod Worked
