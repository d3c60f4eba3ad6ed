use Rattle.std.proofs.Common.{◌<◌, ◌≡◌, ℕ, List, refl, ap, sym, subst, ◌∙◌, length, get_or, arith}
use Rattle.std.specs.List.{AllByRecursion}
use Rattle.std.specs.Ordering.{nat_cmp}
use Rattle.std.specs.FinMap.{find}
use Rattle.std.proofs.lemmas.List.Elements.{recursion_from_All}
use Rattle.grb_core.specs.declared.value.Value.{Value}
use Rattle.grb_core.specs.Value.{IsValueOf}
use Rattle.grb_core.specs.Operator.{value_of_op}
use Rattle.grb_core.specs.Fold.{fold_of_some}
use Rattle.grb_core.specs.Semiring.{SemiringParts}
use Rattle.grb_core.specs.Entries.{VectorEntries}
use Rattle.grb_core.specs.Results.{row_of}
use Rattle.grb_kernels.specs.Typed.{entries_of}
use Rattle.grb_lists.specs.Cells.{decoded}
use Rattle.grb_semirings.specs.Open.{marked_at}
use Rattle.grb_sums.specs.Open.{marked_from}
use Rattle.grb_sums.specs.Naming.{name_in}
use Rattle.grb_mxm.specs.RowProducts.{product_row}
use Rattle.grb_sums.specs.Marks.{marks_of, IsCleared, AreOpenSums}
use Rattle.grb_sums.proofs.Cleared.{none_marked}
use Rattle.grb_sums.proofs.MarksOf.{length-marks_of, none_of_zeros, zeros_are_marks}
use Rattle.grb_mxm.proofs.OpenRow.{open_row}
use Rattle.grb_mxm.proofs.ProductRows.{row_of-mxm}
use Rattle.grb_sums.proofs.Reach.{products-none}
use Rattle.grb_sums.proofs.Renamed.{holds}
use Rattle.grb_mxm.proofs.ScaledRow.{one_entry, scaled_row}
use Rattle.grb_sums.proofs.Tops.{no_tops}
use Rattle.grb_mxm.proofs.whole_rows.WholeRowsRowMaker.make.Goals as goal

-- where nothing lies open, a row may be summed
open_sums : {V : Type 0} (value : V → Value) (v : Value) (n : ℕ) (sums : List V) (words : List ℕ) → IsCleared value v n sums words → AreOpenSums value v sums words
open_sums value v n sums words ready = record {
  words_long = omega (arith, ready.long, ready.words_long);
  words_few = ready.words_few;
  bits = zeros_are_marks words ready.none (length sums);
  clear = λ p l n. ready.clear p l;
}

pub returns-then-row-eq1-clause-entries : goal.returns-then-row-eq1-clause-entries
returns-then-row-eq1-clause-entries g c =
    let tv = g.T.Scalar.value in
    let s : SemiringParts = record { monoid = g.M.MonoidOver.monoid; op = g.O.Operator.op } in
    let a = c.args.self.now.a.now.lists.now in
    let b = c.args.self.now.b.now in
    let entries = decoded b.lists.now.entries in
    let first = c.row-row.result in
    let number = get_or first.indices.now 0 0 in
    let x = get_or first.values.now 0 c.index-row-0.result in
    let one : length first.indices.now ≡ 1 = omega arith in
    c.scale_row.ensures.entries
    ∙ scaled_row s number (tv x) entries (holds _ b.ordered) (subst (λ d. AllByRecursion (λ e. IsValueOf d (value_of_op s.op (tv x) e.1)) (row_of number entries)) (sym g.met.M.MonoidOver.same_domain) c.scale_row.ensures.of_domain)
    ∙ ap (λ (m : VectorEntries). product_row s m entries) (sym (one_entry tv first.indices.now first.values.now x one first.same (ap (get_or first.values.now 0) c.index-row-0.is)) ∙ c.row-row.ensures)
    ∙ sym (row_of-mxm s (decoded a.entries) entries (get_or a.rows c.args.place 0))

pub sum_row-requires-clause-sound : goal.sum_row-requires-clause-sound
sum_row-requires-clause-sound g c =
    let lower = c.args.work.now.lower in
    let ready = c.requires.ready in
    (open_sums _ _ _ lower.sums.items lower.words.items ready.0, no_tops lower.words.items c.args.work.now.tops.items ready.0.none ready.1)

pub sum_row-requires-clause-none : goal.sum_row-requires-clause-none
sum_row-requires-clause-none g c p =
    let lower = c.args.work.now.lower in
    none_marked g.T.Scalar.value (marks_of (length lower.sums.items) lower.words.items) lower.sums.items (none_of_zeros lower.words.items c.requires.ready.0.none (length lower.sums.items)) p

pub sum_row-requires-2-clause-sound : goal.sum_row-requires-2-clause-sound
sum_row-requires-2-clause-sound g c =
    let lower = c.args.work.now.lower in
    open_sums _ _ _ lower.sums.items lower.words.items c.requires.ready.0

pub sum_row-requires-2-clause-none : goal.sum_row-requires-2-clause-none
sum_row-requires-2-clause-none g c p =
    let lower = c.args.work.now.lower in
    none_marked g.T.Scalar.value (marks_of (length lower.sums.items) lower.words.items) lower.sums.items (none_of_zeros lower.words.items c.requires.ready.0.none (length lower.sums.items)) p

pub reached-from-requires : goal.reached-from-requires
reached-from-requires g c = let ready = c.requires.ready in record { enough = omega (arith, ready.0.words_long, ready.1.long) }

pub take_topped-requires-clause-outside : goal.take_topped-requires-clause-outside
take_topped-requires-clause-outside g c p l out =
    let tv = g.T.Scalar.value in
    let b = c.args.self.now.b.now in
    let first = c.row-row.result in
    let made = c.sum_row.new.sums.lower in
    let inside : p < length b.names.now = omega (arith, l, c.sum_row.ensures.width) in
    ap (λ (ws : List ℕ). marked_at tv (marks_of (length c.as_mut_slice-then-has_few_products-2.result.now) ws) c.as_mut_slice-then-has_few_products-2.result.now p) c.as_mut_slice-then-has_few_products.ensures.value
    ∙ ap (λ (ss : List g.row.T.Denot). marked_at tv (marks_of (length ss) made.words.items) ss p) c.as_mut_slice-then-has_few_products-2.ensures.value
    ∙ c.sum_row.ensures.sums p inside refl
    ∙ ap (fold_of_some g.M.MonoidOver.monoid) (products-none tv g.O.Operator.op (λ k. find nat_cmp (name_in b.names.now p) (row_of k (decoded b.lists.now.entries))) first.indices.now first.values.now (λ k m. c.reached-from.ensures.none k p m inside out))

pub returns-then-has_few_products-clause-entries : goal.returns-then-has_few_products-clause-entries
returns-then-has_few_products-clause-entries g c =
    let tv = g.T.Scalar.value in
    let s : SemiringParts = record { monoid = g.M.MonoidOver.monoid; op = g.O.Operator.op } in
    let a = c.args.self.now.a.now.lists.now in
    let b = c.args.self.now.b.now in
    let names = b.names.now in
    let first = c.row-row.result in
    let made = c.sum_row.new.sums.lower in
    let words = made.words.items in
    let sums = made.sums.items in
    c.take_topped.ensures.taken.entries
    ∙ ap (λ (ws : List ℕ). marked_from tv (name_in names) 0 (marks_of (length c.as_mut_slice-then-has_few_products-2.result.now) ws) c.as_mut_slice-then-has_few_products-2.result.now) c.as_mut_slice-then-has_few_products.ensures.value
    ∙ ap (λ (ss : List g.row.T.Denot). marked_from tv (name_in names) 0 (marks_of (length ss) words) ss) c.as_mut_slice-then-has_few_products-2.ensures.value
    ∙ open_row tv (length names) (name_in names) b.ranks.now (marks_of (length sums) words) sums s (entries_of tv first.indices.now first.values.now) (decoded b.lists.now.entries)
    b.rising first.rising (omega (arith, length-marks_of words (length sums), c.sum_row.ensures.width)) b.named (recursion_from_All (λ r. r < length names) b.ranks.now b.in_range) (λ p l. c.sum_row.ensures.sums p l refl)
    ∙ ap (λ (x : VectorEntries). product_row s x (decoded b.lists.now.entries)) c.row-row.ensures
    ∙ sym (row_of-mxm s (decoded a.entries) (decoded b.lists.now.entries) (get_or a.rows c.args.place 0))

pub returns-clause-entries : goal.returns-clause-entries
returns-clause-entries g c =
    let tv = g.T.Scalar.value in
    let s : SemiringParts = record { monoid = g.M.MonoidOver.monoid; op = g.O.Operator.op } in
    let a = c.args.self.now.a.now.lists.now in
    let b = c.args.self.now.b.now in
    let names = b.names.now in
    let first = c.row-row.result in
    let made = c.sum_row-2.new.sums in
    let words = made.words.items in
    let sums = made.sums.items in
    c.take_words.ensures.entries
    ∙ ap (λ (ws : List ℕ). marked_from tv (name_in names) 0 (marks_of (length c.as_mut_slice-3.result.now) ws) c.as_mut_slice-3.result.now) c.as_mut_slice-2.ensures.value
    ∙ ap (λ (ss : List g.row.T.Denot). marked_from tv (name_in names) 0 (marks_of (length ss) words) ss) c.as_mut_slice-3.ensures.value
    ∙ open_row tv (length names) (name_in names) b.ranks.now (marks_of (length sums) words) sums s (entries_of tv first.indices.now first.values.now) (decoded b.lists.now.entries)
    b.rising first.rising (omega (arith, length-marks_of words (length sums), c.sum_row-2.ensures.width)) b.named (recursion_from_All (λ r. r < length names) b.ranks.now b.in_range) (λ p l. c.sum_row-2.ensures.sums p l refl)
    ∙ ap (λ (x : VectorEntries). product_row s x (decoded b.lists.now.entries)) c.row-row.ensures
    ∙ sym (row_of-mxm s (decoded a.entries) (decoded b.lists.now.entries) (get_or a.rows c.args.place 0))
