-- believed: What is known of the list of a build without a walk of it (own).
use Rattle.std.specs.Prelude.{◌≡◌, ℕ, Bool, true, nat_lt, List, map}
use Rattle.std.specs.List.{list_all}
use Rattle.std.specs.Option.{option_map_or}
use Rattle.grb_core.specs.declared.domain.Domain.{Domain}
use Rattle.grb_core.specs.declared.domain.Domain.TheVariants as domain
use Rattle.grb_core.specs.declared.value.Value.{Value}
use Rattle.grb_core.specs.Value.{value_domain}
use Rattle.grb_core.specs.Entries.{MatrixEntries}
use Rattle.grb_tuples.specs.SameDomain.{same_domain}
use Rattle.grb_tuples.specs.declared.known.Domains.{Domains}
use Rattle.grb_tuples.specs.declared.known.Largest.{Largest}

-- the entries of a matrix as tuples of a row, a column and a value
abbrev pub tuples_of : MatrixEntries → List (ℕ × ℕ × Value)
tuples_of es = map (λ e. (e.0.0, e.0.1, e.1)) es

-- whether all values are of the domain, by what is known of both domains
abbrev pub are_of : Domains → Domain → Bool
are_of known domain.Bool = known.bools
are_of known domain.Uint64 = known.numbers

-- whether all numbers are below the bound, by the largest of them
abbrev pub are_below : Largest → ℕ → Bool
are_below largest n = option_map_or (λ i. nat_lt i n) largest.number true

-- these are the domains of the values, and that is the largest index
pub record IsVectorList (tuples : List (ℕ × Value)) (domains : Domains) (indices : Largest) : Type 0 where
  pub of : (d : Domain) → are_of domains d ≡ list_all (same_domain d) (map (λ e. value_domain e.1) tuples)
  pub within : (n : ℕ) → are_below indices n ≡ list_all (λ e. nat_lt e.0 n) tuples

-- these are the domains of the values, and those are the largest row and the largest column
pub record IsMatrixList (tuples : List (ℕ × ℕ × Value)) (domains : Domains) (rows columns : Largest) : Type 0 where
  pub of : (d : Domain) → are_of domains d ≡ list_all (same_domain d) (map (λ e. value_domain e.2) tuples)
  pub rows_within : (n : ℕ) → are_below rows n ≡ list_all (λ e. nat_lt e.0 n) tuples
  pub columns_within : (n : ℕ) → are_below columns n ≡ list_all (λ e. nat_lt e.1 n) tuples
