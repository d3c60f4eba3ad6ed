mod Arrays
mod RowsWritten
