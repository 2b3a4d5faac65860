mod Changes
mod NumberedPipes
mod Order
mod Searches
