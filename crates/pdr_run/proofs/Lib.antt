mod Cycles
mod Certificates
mod Answering
mod SamePairs
mod Unknown
mod Promise
