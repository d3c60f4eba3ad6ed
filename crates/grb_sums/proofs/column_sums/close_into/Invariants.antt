use Rattle.std.proofs.Common.{◌≡◌, ◌+◌, ◌++◌, length}
use Rattle.grb_kernels.specs.Typed.{first_entries}
use Rattle.grb_sums.proofs.MarkedPlaces.{from_word}
use Rattle.grb_sums.proofs.column_sums.close_into.Given as goal

-- the entries so far, and those of the words that are left
abbrev pub invariant-words : goal.invariant-words
invariant-words g l =
    let tv = g.T.Scalar.value in
    let names = g.C.Columns.names l.columns in
    record {
      count : l.k + length (from_word tv names l.words l.sums l.w) ≡ length l.indices;
      so_far : first_entries tv l.k l.indices l.values ++ from_word tv names l.words l.sums l.w ≡ from_word tv names l.words l.sums 0;
    }
