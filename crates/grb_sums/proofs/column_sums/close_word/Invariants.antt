use Rattle.std.proofs.Common.{◌≡◌, ◌+◌, ◌++◌, ℕ, true, length}
use Rattle.grb_kernels.specs.Typed.{first_entries}
use Rattle.grb_kernels.specs.Bits.{has_bit}
use Rattle.grb_sums.specs.Bits.{word_values}
use Rattle.grb_sums.proofs.column_sums.close_word.Given as goal

-- the entries so far, and those of the bits that are left
abbrev pub invariant-bits : goal.invariant-bits
invariant-bits g l =
    let tv = g.T.Scalar.value in
    let names = g.C.Columns.names l.columns in
    record {
      among : (t : ℕ) → has_bit l.left t ≡ true → has_bit l.word t ≡ true;
      count : l.k + length (word_values tv names l.left l.base l.sums) ≡ l.fn.k + length (word_values tv names l.word l.base l.sums);
      so_far : first_entries tv l.k l.indices l.values ++ word_values tv names l.left l.base l.sums
          ≡ first_entries tv l.fn.k l.fn.indices l.fn.values ++ word_values tv names l.word l.base l.sums;
    }

abbrev pub decreases-bits : goal.decreases-bits
decreases-bits g l = l.left
