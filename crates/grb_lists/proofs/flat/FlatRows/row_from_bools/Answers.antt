use Prim.{search}
use Rattle.std.proofs.Common.{rules, ◌∙◌, List, ℕ, Bool, sym, ap, subst}
use Rattle.std.specs.Prelude.{IsTrue, map}
use Rattle.std.specs.Ordering.{nat_cmp}
use Rattle.std.specs.FinMap.{is_sorted}
use Rattle.grb_core.specs.declared.value.Value.TheVariants as value
use Rattle.grb_lists.specs.Stored.{paired}
use Rattle.grb_lists.proofs.OneRow.{codes-first_row}
use Rattle.grb_lists.proofs.flat.FlatRows.row_from_bools.Goals as goal

pub from_bools-requires-clause-ordered : goal.from_bools-requires-clause-ordered
from_bools-requires-clause-ordered c =
    subst (λ (ks : List ℕ). IsTrue (is_sorted nat_cmp (paired ks (map (λ (x : Bool). value.Bool x) c.args.bools.items))))
    (sym (codes-first_row c.in_ok-rows.rows.items c.in_ok-rows.starts.items c.args.columns.items c.in_ok-rows.ensures.rows c.in_ok-rows.ensures.starts)) c.requires.ordered

pub returns-clause-entries : goal.returns-clause-entries
returns-clause-entries c =
    c.from_bools.ensures.entries
    ∙ ap (λ (ks : List ℕ). paired ks (map (λ (x : Bool). value.Bool x) c.args.bools.items))
    (codes-first_row c.in_ok-rows.rows.items c.in_ok-rows.starts.items c.args.columns.items c.in_ok-rows.ensures.rows c.in_ok-rows.ensures.starts)

pub returns-then-is_empty-clause-domain : goal.returns-then-is_empty-clause-domain
returns-then-is_empty-clause-domain c = search rules
