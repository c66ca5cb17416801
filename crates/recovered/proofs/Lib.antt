mod ForC
mod InitForC
mod SetForC
