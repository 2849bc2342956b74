mod Empty
mod Kept
mod Sent
mod Told
