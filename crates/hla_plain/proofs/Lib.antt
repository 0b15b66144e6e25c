-- Values one after another
mod Pieces
