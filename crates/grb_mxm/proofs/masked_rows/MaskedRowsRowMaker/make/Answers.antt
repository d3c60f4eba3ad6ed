use Rattle.std.proofs.Common.{◌<◌, ap, sym, subst, ◌∙◌, ℕ, List, length, get_or}
use Rattle.std.specs.Ordering.{nat_cmp}
use Rattle.std.specs.FinMap.{find}
use Rattle.std.proofs.lemmas.List.Elements.{recursion_from_All}
use Rattle.grb_core.specs.Semiring.{SemiringParts}
use Rattle.grb_core.specs.Entries.{VectorEntries, restricted}
use Rattle.grb_core.specs.Mask.{selects}
use Rattle.grb_core.specs.Results.{row_of}
use Rattle.grb_kernels.specs.Typed.{entries_of}
use Rattle.grb_lists.specs.Cells.{decoded}
use Rattle.grb_ewise.proofs.RowEntries.{row_in_order}
use Rattle.grb_semirings.specs.Open.{marked_at}
use Rattle.grb_sums.specs.Naming.{name_in}
use Rattle.grb_mxm.specs.RowProducts.{picked, product_row}
use Rattle.grb_sums.proofs.Cleared.{none_marked}
use Rattle.grb_mxm.proofs.MaskedProduct.{picked_row, row_of-selected}
use Rattle.grb_mxm.proofs.States.{among_allowed}
use Rattle.grb_mxm.specs.AllowedSums.{AreSelected, allowed_of, summed_of}
use Rattle.grb_mxm.proofs.masked_rows.MaskedRowsRowMaker.make.Goals as goal

pub sum_row-requires-clause-sound : goal.sum_row-requires-clause-sound
sum_row-requires-clause-sound g c =
    let ready = c.requires.ready in
    record {
      long = c.allow-places.ensures.long ∙ ready.states_long ∙ sym ready.long;
      clear = λ p l n. ready.clear p l;
    }

pub sum_row-requires-clause-none : goal.sum_row-requires-clause-none
sum_row-requires-clause-none g c p = none_marked g.T.Scalar.value (summed_of c.allow-places.new.states.items) c.args.work.now.sums.items c.allow-places.ensures.selected.none p

pub returns-clause-entries : goal.returns-clause-entries
returns-clause-entries g c =
    let tv = g.T.Scalar.value in
    let s : SemiringParts = record { monoid = g.M.MonoidOver.monoid; op = g.O.Operator.op } in
    let self = c.args.self.now in
    let b = self.b.now in
    let names = b.names.now in
    let mask = self.mask.now in
    let a = decoded self.a.now.lists.now.entries in
    let number = get_or mask.lists.now.rows c.args.place 0 in
    let m = row_of number (decoded mask.lists.now.entries) in
    let row = c.row_numbered-row.result in
    let places = c.allow-places.result.now in
    let made = c.sum_row.new.sums in
    let selected : AreSelected names mask.structure m c.allow-places.new.states.items places = subst (λ (ns : List ℕ). AreSelected ns mask.structure m c.allow-places.new.states.items places) self.names c.allow-places.ensures.selected in
    c.take_picked.ensures.entries
    ∙ ap (λ (m : List ℕ). picked (name_in names) (marked_at tv (summed_of m) c.as_mut_slice-2.result.now) places) c.as_mut_slice.ensures.value
    ∙ ap (λ (ss : List g.row.T.Denot). picked (name_in names) (marked_at tv (summed_of made.states.items) ss) places) c.as_mut_slice-2.ensures.value
    ∙ picked_row tv (length names) (name_in names) mask.structure s (entries_of tv row.indices.now row.values.now) (decoded b.lists.now.entries) m row.rising (row_in_order number (decoded mask.lists.now.entries) mask.ordered)
    (allowed_of made.states.items) (summed_of made.states.items) made.sums.items places (λ p l. c.sum_row.ensures.asks p ∙ selected.allowed p l) (among_allowed made.states.items) c.sum_row.ensures.sums
    selected.named (recursion_from_All (λ p. p < length names) places selected.in_range)
    ∙ ap (λ (x : VectorEntries). restricted (λ j. selects mask.structure (find nat_cmp j m)) (product_row s x (decoded b.lists.now.entries)))
    (c.row_numbered-row.ensures ∙ ap (λ (ns : List ℕ). row_of (get_or ns c.args.place 0) a) c.rows.ensures.list)
    ∙ sym (row_of-selected s mask.structure (decoded mask.lists.now.entries) a (decoded b.lists.now.entries) number)
