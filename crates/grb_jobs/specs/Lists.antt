-- inside: no public contract above names it. Flat lists of the first rows of a product that is made by blocks of rows (own).
use Rattle.std.specs.Prelude.{◌≡◌, ◌≤◌, ℕ, List}
use Rattle.grb_core.specs.declared.value.Value.{Value}
use Rattle.grb_ewise.specs.Rows.{flat_entries}
use Rattle.grb_mxm.specs.Rows.{AreBelow, rows_between}
use Rattle.grb_jobs.specs.Blocks.{Product, made_by}

-- the lists have the rows of the product that are below a number
pub record IsSoFar {V : Type 0} (tv : V → Value) (p : Product) (upto : ℕ) (rows starts columns : List ℕ) (values : List V) : Type 0 where
  pub within : upto ≤ p.nrows
  pub lists : AreBelow upto rows starts columns values
  pub entries : flat_entries tv rows starts columns values ≡ rows_between 0 upto (made_by p)
