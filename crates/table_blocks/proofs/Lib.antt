mod Keeps
mod NewStores
mod TableOpenings
mod Places
mod Sets
mod Store
