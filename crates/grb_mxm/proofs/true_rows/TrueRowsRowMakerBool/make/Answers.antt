use Rattle.std.proofs.Common.{◌<◌, ◌≡◌, ℕ, Bool, List, false, ap, sym, subst, ◌∙◌, length, get_or, arith}
use Rattle.std.specs.Prelude.{Option}
use Rattle.std.specs.List.{AllByRecursion}
use Rattle.std.specs.Ordering.{nat_cmp}
use Rattle.std.specs.FinMap.{find}
use Rattle.std.specs.Vec.{with_items}
use Rattle.std.proofs.lemmas.List.{get_or_default, with_items_is}
use Rattle.std.proofs.lemmas.List.Elements.{recursion_from_All}
use Rattle.grb_core.specs.declared.value.Value.{Value}
use Rattle.grb_core.specs.declared.value.Value.TheVariants as value
use Rattle.grb_core.specs.Value.{IsValueOf}
use Rattle.grb_core.specs.Operator.{value_of_op}
use Rattle.grb_core.specs.Semiring.{SemiringParts}
use Rattle.grb_core.specs.Entries.{Cell, VectorEntries}
use Rattle.grb_core.specs.Results.{row_of}
use Rattle.grb_core.proofs.Made.{of-row}
use Rattle.grb_kernels.specs.Typed.{kept, entries_of}
use Rattle.grb_lists.specs.Cells.{decoded}
use Rattle.grb_semirings.specs.Products.{is_any}
use Rattle.grb_sums.specs.Bits.{value_at}
use Rattle.grb_sums.specs.Marks.{marks_of, IsCleared, AreNoTops}
use Rattle.grb_sums.specs.Naming.{name_in}
use Rattle.grb_sums.proofs.MarksOf.{length-marks_of}
use Rattle.grb_sums.proofs.Renamed.{holds}
use Rattle.grb_sums.proofs.Tops.{no_tops}
use Rattle.grb_mxm.specs.RowProducts.{product_row}
use Rattle.grb_mxm.proofs.OpenRow.{open_row}
use Rattle.grb_mxm.proofs.ProductRows.{row_of-mxm}
use Rattle.grb_mxm.proofs.ScaledRow.{one_entry, scaled_row}
use Rattle.grb_mxm.proofs.TrueRows.{are_marks, found_true, keys_of, none_any, sum_at, true_fold, truth}
use Rattle.grb_mxm.proofs.true_rows.TrueRowsRowMakerBool.make.Goals as goal

abbrev tv : Bool → Value
tv b = value.Bool b

pub returns-then-row-eq1-clause-entries : goal.returns-then-row-eq1-clause-entries
returns-then-row-eq1-clause-entries g c =
    let s : SemiringParts = record { monoid = g.M.MonoidOver.monoid; op = g.O.Operator.op } in
    let a = c.args.self.now.a.now.lists.now in
    let b = c.args.self.now.b.now in
    let entries = decoded b.lists.now.entries in
    let first = c.row-row.result in
    let number = get_or first.indices.now 0 0 in
    let x = get_or first.values.now 0 false in
    let one : length first.indices.now ≡ 1 = omega arith in
    c.scale_row.ensures.entries
    ∙ scaled_row s number (tv x) entries (holds _ b.ordered) (subst (λ d. AllByRecursion (λ e. IsValueOf d (value_of_op s.op (tv x) e.1)) (row_of number entries)) (sym g.met.M.MonoidOver.same_domain) c.scale_row.ensures.of_domain)
    ∙ ap (λ (m : VectorEntries). product_row s m entries) (sym (one_entry tv first.indices.now first.values.now x one first.same (get_or_default first.values.now 0 false x (omega (arith, one, first.same)))) ∙ c.row-row.ensures)
    ∙ sym (row_of-mxm s (decoded a.entries) entries (get_or a.rows c.args.place 0))

pub mark_rows-requires-clause-tops : goal.mark_rows-requires-clause-tops
mark_rows-requires-clause-tops g c =
    let ready = c.requires.ready in
    let words = ap length c.as_mut_slice-words.ensures.value in
    let tops = ap length c.as_mut_slice-tops.ensures.value in
    no_tops c.as_mut_slice-words.result.now c.as_mut_slice-tops.result.now (λ w. ap (λ (l : List ℕ). get_or l w 0) c.as_mut_slice-words.ensures.value ∙ ready.0.none w)
    (record { long = omega (arith, words, tops, ready.1.long); none = λ h. ap (λ (l : List ℕ). get_or l h 0) c.as_mut_slice-tops.ensures.value ∙ ready.1.none h })

pub take_topped-requires-clause-outside : goal.take_topped-requires-clause-outside
take_topped-requires-clause-outside g c p l out =
    let b = c.args.self.now.b.now in
    let ready = c.requires.ready in
    let sums = c.as_mut_slice-sums.result.now in
    let long = ap length c.as_mut_slice-sums.ensures.value in
    let inside : p < length b.names.now = omega (arith, l, long, ready.0.long) in
    sum_at c.mark_rows.new.words sums p false
    (λ q h. ap (λ (ss : List Bool). value_at tv ss q) c.as_mut_slice-sums.ensures.value ∙ ready.0.clear q (omega (arith, h, long))) l
    (c.mark_rows.ensures.marked p inside
    ∙ none_any (λ k. find nat_cmp (name_in b.names.now p) (row_of k (decoded b.lists.now.entries))) c.row-row.result.indices.now (λ k m. c.reached-from.ensures.none k p m inside out))

pub take_topped-requires-clause-sound : goal.take_topped-requires-clause-sound
take_topped-requires-clause-sound g c =
    let ready = c.requires.ready in
    let sums = c.as_mut_slice-sums.result.now in
    let words = c.mark_rows.new.words in
    let long = ap length c.as_mut_slice-sums.ensures.value in
    let words_long = ap length c.as_mut_slice-words.ensures.value in
    let named : length sums ≡ length c.args.self.now.b.now.names.now = omega (arith, long, ready.0.long) in
    record {
      bits = are_marks words (length sums) (λ p e. let l = c.mark_rows.ensures.within p e in omega (arith, l, named));
      words_long = omega (arith, words_long, c.mark_rows.auto.words, ready.0.words_long, named);
      words_few = omega (arith, words_long, c.mark_rows.auto.words, ready.0.words_few);
      clear = λ q h n. ap (λ (ss : List Bool). value_at tv ss q) c.as_mut_slice-sums.ensures.value ∙ ready.0.clear q (omega (arith, h, long));
      named = named;
      room = omega (arith, named, c.requires.room);
      room_same = c.requires.room_same;
    }

pub returns-clause-ready : goal.returns-clause-ready
returns-clause-ready g c =
    let work = c.args.work.now in
    let n = length c.args.self.now.b.now.names.now in
    let sums = c.take_topped.new.sums in
    let words = c.take_topped.new.words in
    let tops = c.take_topped.new.tops in
    let sums_is = with_items_is work.lower.sums sums (omega (arith, c.take_topped.auto.sums, ap length c.as_mut_slice-sums.ensures.value)) in
    let words_is = with_items_is work.lower.words words (omega (arith, c.take_topped.auto.words, c.mark_rows.auto.words, ap length c.as_mut_slice-words.ensures.value)) in
    let tops_is = with_items_is work.tops tops (omega (arith, c.take_topped.auto.tops, c.mark_rows.auto.tops, ap length c.as_mut_slice-tops.ensures.value)) in (
      subst (λ (ss : List Bool). IsCleared tv truth n ss (with_items work.lower.words words).items) (sym sums_is)
          (subst (λ (ws : List ℕ). IsCleared tv truth n sums ws) (sym words_is) c.take_topped.ensures.taken.ready),
      subst (λ (ws : List ℕ). AreNoTops ws (with_items work.tops tops).items) (sym words_is)
          (subst (λ (ts : List ℕ). AreNoTops words ts) (sym tops_is) c.take_topped.ensures.none),
    )

pub returns-clause-entries : goal.returns-clause-entries
returns-clause-entries g c =
    let s : SemiringParts = record { monoid = g.M.MonoidOver.monoid; op = g.O.Operator.op } in
    let self = c.args.self.now in
    let ready = c.requires.ready in
    let a = self.a.now.lists.now in
    let b = self.b.now in
    let names = b.names.now in
    let entries = decoded b.lists.now.entries in
    let first = c.row-row.result in
    let x = entries_of tv first.indices.now first.values.now in
    let sums = c.as_mut_slice-sums.result.now in
    let words = c.mark_rows.new.words in
    let long = ap length c.as_mut_slice-sums.ensures.value in
    let named : length sums ≡ length names = omega (arith, long, ready.0.long) in
    let y : ℕ → ℕ → Option Value = λ p k. find nat_cmp (name_in names p) (row_of k entries) in
    let b_true = recursion_from_All (λ (e : Cell × Value). e.1 ≡ truth) entries self.b_true in
    let a_true = recursion_from_All (λ (e : Cell × Value). e.1 ≡ truth) (decoded a.entries) self.a_true in
    let x_true : AllByRecursion (λ e. e.1 ≡ truth) x = subst (λ (m : VectorEntries). AllByRecursion (λ e. e.1 ≡ truth) m) (sym c.row-row.ensures) (of-row (λ v. v ≡ truth) (get_or a.rows c.args.place 0) (decoded a.entries) a_true) in
    let of : IsValueOf _ truth = subst (λ d. IsValueOf d truth) (sym g.met.M.MonoidOver.same_domain) tt in
    c.take_topped.ensures.taken.entries
    ∙ open_row tv (length names) (name_in names) b.ranks.now (marks_of (length sums) words) sums s x entries b.rising first.rising (omega (arith, length-marks_of words (length sums), named)) b.named
    (recursion_from_All (λ r. r < length names) b.ranks.now b.in_range)
    (λ p l.
    sum_at words sums p (is_any (y p) first.indices.now) (λ q h. ap (λ (ss : List Bool). value_at tv ss q) c.as_mut_slice-sums.ensures.value ∙ ready.0.clear q (omega (arith, h, long))) (omega (arith, l, named))
    (c.mark_rows.ensures.marked p l)
    ∙ ap (λ (cs : List ℕ). kept truth (is_any (y p) cs)) (sym (keys_of first.indices.now first.values.now first.same))
    ∙ sym (true_fold s.op self.times (y p) (λ k v is. found_true (row_of k entries) (of-row (λ v. v ≡ truth) k entries b_true) (name_in names p) v is) s.monoid self.plus of x x_true))
    ∙ ap (λ (m : VectorEntries). product_row s m entries) c.row-row.ensures
    ∙ sym (row_of-mxm s (decoded a.entries) entries (get_or a.rows c.args.place 0))
