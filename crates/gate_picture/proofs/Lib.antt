mod Few
mod Empty
