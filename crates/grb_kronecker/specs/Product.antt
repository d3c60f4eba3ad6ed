-- inside: no public contract names it. The Kronecker product of two whole matrices (own).
use Rattle.std.specs.Prelude.{◌*◌}
use Rattle.grb_core.specs.declared.operator.BinaryOp.{BinaryOp}
use Rattle.grb_core.specs.Contents.{Matrix}
use Rattle.grb_core.specs.Maps.{kronecker_of}

-- the product: it has the products of the rows and of the columns
abbrev pub product_matrix : BinaryOp → Matrix → Matrix → Matrix
product_matrix op a b =
    record {
      domain = a.domain;
      nrows = a.nrows * b.nrows;
      ncols = a.ncols * b.ncols;
      entries = kronecker_of op b.nrows b.ncols (a.nrows * b.nrows) (a.ncols * b.ncols) a.entries b.entries;
    }
