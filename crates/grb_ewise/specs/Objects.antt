-- inside: no public contract names it. What a vector and a matrix have in common (own): a domain, a number of rows and of columns, where
-- a vector is one row, and a map from places, which are indices or cells, to values.
use Rattle.std.specs.Prelude.{◌≡◌, ℕ, Bool, true, List}
use Rattle.grb_core.specs.declared.domain.Domain.{Domain}
use Rattle.grb_core.specs.declared.value.Value.{Value}
use Rattle.grb_core.specs.Entries.{Cell}
use Rattle.grb_sparse.specs.Vector.{SparseVectorView}
use Rattle.grb_sparse.specs.Matrix.{SparseMatrixView}

-- an object as what is done to both sees it
pub record Contents (Place : Type 0) : Type 0 where
  pub domain : Domain
  pub nrows : ℕ
  pub ncols : ℕ
  pub entries : List (Place × Value)
  pub assembled : Bool

module _ {Place : Type 0} where
  -- two objects of the same dimensions, in which no change waits
  pub record AreAlike (a b : Contents Place) : Type 0 where
    pub first : a.assembled ≡ true
    pub second : b.assembled ≡ true
    pub rows : b.nrows ≡ a.nrows
    pub columns : b.ncols ≡ a.ncols

  -- an object like another one, with these entries
  pub record IsLike (old : Contents Place) (made : List (Place × Value)) (new : Contents Place) : Type 0 where
    pub entries : new.entries ≡ made
    pub domain : new.domain ≡ old.domain
    pub rows : new.nrows ≡ old.nrows
    pub columns : new.ncols ≡ old.ncols
    pub assembled : new.assembled ≡ true

abbrev pub contents_of_vector : SparseVectorView → Contents ℕ
contents_of_vector v = record { domain = v.vector.domain; nrows = 1; ncols = v.vector.size; entries = v.vector.entries; assembled = v.assembled }

abbrev pub contents_of_matrix : SparseMatrixView → Contents Cell
contents_of_matrix a = record { domain = a.matrix.domain; nrows = a.matrix.nrows; ncols = a.matrix.ncols; entries = a.matrix.entries; assembled = a.assembled }
