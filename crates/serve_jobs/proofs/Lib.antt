pub mod JobsCross
