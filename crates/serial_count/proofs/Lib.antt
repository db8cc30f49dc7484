pub mod DonesAgo
