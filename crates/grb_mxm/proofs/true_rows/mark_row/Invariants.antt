use Rattle.std.proofs.Common.{◌≡◌, ◌<◌, ℕ, Bool, true, false, length, get_or}
use Rattle.std.specs.Prelude.{◌||◌, is_some}
use Rattle.std.specs.Ordering.{nat_cmp}
use Rattle.std.specs.FinMap.{find}
use Rattle.grb_core.specs.declared.value.Value.TheVariants as value
use Rattle.grb_kernels.specs.Typed.{entries_of, entries_from}
use Rattle.grb_sums.specs.Bits.{is_marked}
use Rattle.grb_sums.specs.Marks.{touched, AreTops}
use Rattle.grb_mxm.proofs.true_rows.mark_row.Given as goal

-- the marks so far with what is left of the row are all
abbrev pub invariant-row : goal.invariant-row
invariant-row l =
    let cs = l.row.indices.now in
    let vs = l.row.values.now in
    record {
      marked : (p : ℕ) → (is_marked l.words p || is_some (find nat_cmp p (entries_from (λ (b : Bool). value.Bool b) l.i cs vs))) ≡ (is_marked l.fn.words p || is_some (find nat_cmp p (entries_of (λ (b : Bool). value.Bool b) cs vs)));
      tops : AreTops l.words l.tops;
      before : l.before < length l.words → get_or (touched l.words) l.before false ≡ true;
    }
