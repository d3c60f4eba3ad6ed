use Rattle.std.proofs.Common.{sym, ap, subst, ◌∙◌, arith, get_or, take, drop, ◌≡◌, ◌-◌, ◌<◌, ◌≤◌, ℕ, length, map, List}
use Rattle.grb_core.specs.declared.value.Value.{Value as Stored}
use Rattle.grb_core.specs.Entries.{values_of}
use Rattle.grb_lists.specs.Cells.{row_at}
use Rattle.grb_lists.specs.Values.{values_list}
use Rattle.grb_lists.specs.Stored.{RowView}
use Rattle.std.proofs.lemmas.List.{length-map}
use Rattle.grb_lists.proofs.FlatCells.{length-codes}
use Rattle.grb_core.specs.Results.{row_of}
use Rattle.grb_lists.specs.Cells.{decoded}
use Rattle.grb_core.specs.declared.value.Value.TheVariants as value
use Rattle.grb_lists.proofs.CellLists.{row_values-are, map-part}
use Rattle.grb_lists.proofs.flat.FlatRows.row_bools.Goals as goal

pub part-requires-clause-within : goal.part-requires-clause-within
part-requires-clause-within c =
    let i = c.self.inside in
    let codes = length-codes i.rows.items i.starts.items i.columns.items c.self.invariant.2 in
    let same = c.self.invariant.0 in
    let within : c.bounds-start.result.1 ≤ length i.columns.items = rw c.deref-3.ensures.value at c.bounds-start.ensures.within in
    let long : length (map (λ b. value.Bool b) c.deref-in-Bool.result.now) ≡ length (values_list i.values) = ap length (ap (map (λ b. value.Bool b)) c.deref-in-Bool.ensures.value ∙ ap values_list (sym c.in-Bool.is)) in
    let each = length-map c.deref-in-Bool.result.now (λ b. value.Bool b) in
    omega (arith, codes, same, within, long, each)

pub returns : goal.returns
returns c =
    let i = c.self.inside in
    let rows = i.rows.items in
    let starts = i.starts.items in
    let columns = i.columns.items in
    let vs = values_list i.values in
    let same = c.self.invariant.0 in
    let flat = c.self.invariant.2 in
    let s = c.bounds-start.result.0 in
    let e = c.bounds-start.result.1 in
    let k = get_or rows c.args.k 0 in
    let inside : (p : ℕ) → s ≤ p → p < e → row_at p 0 rows starts ≡ k = rw c.deref.ensures.value at (rw c.deref-2.ensures.value at c.bounds-start.ensures.inside) in
    let outside : (p : ℕ) → p < length columns → row_at p 0 rows starts ≡ k → (s ≤ p) × (p < e) = rw c.deref.ensures.value at (rw c.deref-2.ensures.value at (rw c.deref-3.ensures.value at c.bounds-start.ensures.outside)) in
    let within : e ≤ length columns = rw c.deref-3.ensures.value at c.bounds-start.ensures.within in
    subst (λ (r : RowView). map (λ b. value.Bool b) c.part.result.now ≡ values_of (row_of (get_or r.rows c.args.k 0) (decoded r.entries))) c.self.view_is
    (ap (map (λ b. value.Bool b)) (c.part.ensures ∙ ap (λ x. take (e - s) (drop s x)) c.deref-in-Bool.ensures.value)
    ∙ map-part (λ b. value.Bool b) _ s (e - s) ∙ ap (λ (x : List Stored). take (e - s) (drop s x)) (ap values_list (sym c.in-Bool.is))
    ∙ row_values-are rows starts columns flat vs same k s e inside outside within)
