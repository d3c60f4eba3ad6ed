use Rattle.std.proofs.Common.{ℕ, Bool, refl}
use Rattle.std.specs.Prelude.{map}
use Rattle.grb_core.specs.declared.value.Value.TheVariants as value
use Rattle.grb_core.specs.Entries.{values_of}
use Rattle.grb_rows.specs.Pending.{changed}
use Rattle.grb_semirings.proofs.Lent.{total_of}
use Rattle.grb_folds.proofs.reduce_totals.reduce_matrix.Goals as goal

pub returns-then-not-is_assembled : goal.returns-then-not-is_assembled
returns-then-not-is_assembled c =
    let entries = changed c.layers.result.base.now.entries c.layers.result.changes.now.entries in
    total_of c.args.monoid c.reduce_changed.result (values_of entries) entries c.args.matrix.now.matrix.entries c.reduce_changed.ensures refl c.layers.ensures.entries

pub returns-in-Bool : goal.returns-in-Bool
returns-in-Bool c =
    total_of c.args.monoid (value.Bool c.fold.result) (map (λ (b : Bool). value.Bool b) c.of_lists.result.now) c.lists-lists.result.now.entries c.args.matrix.now.matrix.entries
    c.fold.ensures c.of_lists.ensures c.lists-lists.ensures.entries

pub returns-in-Uint64 : goal.returns-in-Uint64
returns-in-Uint64 c =
    total_of c.args.monoid (value.Uint64 c.fold-in-Uint64.result) (map (λ (n : ℕ). value.Uint64 n) c.of_lists-in-Uint64.result.now) c.lists-lists.result.now.entries c.args.matrix.now.matrix.entries
    c.fold-in-Uint64.ensures c.of_lists-in-Uint64.ensures c.lists-lists.ensures.entries
