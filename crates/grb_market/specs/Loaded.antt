-- believed: What was loaded, as a matrix.
use Rattle.grb_core.specs.Contents.{Matrix}
use Rattle.grb_core.specs.Entries.{cells_of}
use Rattle.grb_market.specs.declared.loaded.Loaded.{Loaded}

abbrev pub matrix_loaded : Loaded → Matrix
matrix_loaded loaded = record { domain = loaded.domain; nrows = loaded.nrows; ncols = loaded.ncols; entries = cells_of loaded.tuples }
