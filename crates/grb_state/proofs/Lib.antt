mod Folded
mod LentDiagonal
mod Totals
