use Rattle.std.proofs.Common.{◌≡◌, ◌/◌, ◌<◌, ◌∙◌, ℕ, false, List, length, take, get_or, refl, ap, sym, subst, arith}
use Rattle.std.specs.Prelude.{slice_set}
use Rattle.std.proofs.lemmas.List.{take_more, take_all, length-take-le}
use Rattle.grb_core.specs.declared.value.Value.{Value}
use Rattle.grb_core.specs.declared.value.Value.TheVariants as value
use Rattle.grb_core.specs.Entries.{VectorEntries}
use Rattle.grb_codes.specs.Arrays.{written}
use Rattle.grb_codes.proofs.Arrays.{write-next}
use Rattle.grb_codes.proofs.RowsWritten.{Stands, stands-next, row_of_place, rows_of_cells}
use Rattle.grb_codes.proofs.written.write_rows.Goals as goal
use Rattle.grb_codes.proofs.written.write_rows.Goals.{then-at-end, else-at-end}

pub entries-init : goal.entries-init
entries-init c =
    let some = c.if-count-eq0.false in
    let inside : 0 < length c.args.lists.now.entries = omega (arith, some, c.len-count.ensures.len) in
    let first = c.rows-rows.ensures.first inside in
    record {
      rows = refl;
      among = first.0;
      within = c.row_end-end.ensures.within;
      upto = omega arith;
      here = λ p l m. c.row_end-end.ensures.row 0 p inside first l m;
      next = c.row_end-end.ensures.next;
    }

pub overflow_add-k : goal.overflow_add-k
overflow_add-k c =
    let next = (c.entries.invariant.next (omega (arith, c.if-at-end.true, c.entries-test.true, c.len-count.ensures.len))).0 in
    let few = c.rows-rows.type_inv.0 in
    let same = ap length c.rows-rows.ensures.list in
    record { fits = omega (arith, next, few, same) }

pub row_end-end-requires-then-at-end : goal.row_end-end-requires-then-at-end
row_end-end-requires-then-at-end c = (c.entries.invariant.next (omega (arith, c.if-at-end.true, c.entries-test.true, c.len-count.ensures.len))).0

pub offset_bounds-rows-k : goal.offset_bounds-rows-k
offset_bounds-rows-k c =
    let held = c.entries.invariant in
    let same = ap length c.rows-rows.ensures.list in
    elim c.if-at-end.branch [
      | then-at-end w ↦ let k = (held.next (omega (arith, w.if-at-end.true, c.entries-test.true, c.len-count.ensures.len))).0 in let is = w.k-is in record { fits = (let few = c.rows-rows.type_inv.1 in omega (arith, k, is, same, few)) }
      | else-at-end w ↦ let k = held.among in let is = w.k-is in record { fits = (let few = c.rows-rows.type_inv.1 in omega (arith, k, is, same, few)) }
    ]

pub bounds-rows-k : goal.bounds-rows-k
bounds-rows-k c =
    let held = c.entries.invariant in
    let same = ap length c.rows-rows.ensures.list in
    elim c.if-at-end.branch [
      | then-at-end w ↦ let k = (held.next (omega (arith, w.if-at-end.true, c.entries-test.true, c.len-count.ensures.len))).0 in let is = w.k-is in omega (arith, k, is, same)
      | else-at-end w ↦ let k = held.among in let is = w.k-is in omega (arith, k, is, same)
    ]

pub entries-preserved : goal.entries-preserved
entries-preserved c =
    let lists = c.args.lists.now in
    let es = lists.entries in
    let at = c.entries.at in
    let held = c.entries.invariant in
    let inside : at < length es = omega (arith, c.entries-test.true, c.len-count.ensures.len) in
    let stands : Stands lists at c.if-at-end.k c.if-at-end.end =
    elim c.if-at-end.branch [
      | then-at-end w ↦
          subst (λ (p : ℕ × ℕ). Stands lists at p.0 p.1) (λ i. (sym w.k-is i, sym w.end-is i))
          (stands-next lists at c.entries.k w.row_end-end-then-at-end.result c.entries.end w.if-at-end.true inside held.next w.row_end-end-then-at-end.ensures.within w.row_end-end-then-at-end.ensures.after w.row_end-end-then-at-end.ensures.row w.row_end-end-then-at-end.ensures.next)
      | else-at-end w ↦
          subst (λ (p : ℕ × ℕ). Stands lists at p.0 p.1) (λ i. (sym w.k-is i, sym w.end-is i))
          (record { among = held.among; within = held.within; upto = (let n = w.if-at-end.false in omega (arith, held.upto, n)); here = held.here; next = held.next })
    ] in
    let d : ℕ × Value = (0, value.Bool false) in
    let f : ℕ × Value → ℕ = λ e. e.0 / 4294967296 in
    let short = length-take-le at es (omega (arith, inside)) in
    let row : get_or c.rows-rows.result.now c.if-at-end.k 0 ≡ f (get_or es at d) = ap (λ (s : List ℕ). get_or s c.if-at-end.k 0) c.rows-rows.ensures.list ∙ sym (row_of_place lists at c.if-at-end.k c.if-at-end.end d stands) in
    record {
      rows = ap (λ (a : List ℕ). slice_set a at (get_or c.rows-rows.result.now c.if-at-end.k 0)) held.rows
          ∙ ap (λ n. slice_set (written f (take at es) c.args.array.now) at n) row
          ∙ ap (λ n. slice_set (written f (take at es) c.args.array.now) n (f (get_or es at d))) (sym short)
          ∙ write-next f (take at es) (get_or es at d) c.args.array.now (omega (arith, short, inside, c.requires))
          ∙ ap (λ (s : VectorEntries). written f s c.args.array.now) (sym (take_more es at d inside));
      among = stands.among;
      within = stands.within;
      upto = let l = stands.upto in omega (arith, l);
      here = λ p l m. stands.here p (omega (arith, l)) m;
      next = stands.next;
    }

pub returns : goal.returns
returns c =
    let es = c.args.lists.now.entries in
    c.entries.invariant.rows
    ∙ ap (λ (s : VectorEntries). written (λ (e : ℕ × Value). e.0 / 4294967296) s c.args.array.now) (take_all c.entries.at es (omega (arith, c.entries-test.false, c.len-count.ensures.len)))
    ∙ rows_of_cells es c.args.array.now
