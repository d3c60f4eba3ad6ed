use Rattle.std.proofs.Common.{◌≡◌, ◌<◌, ◌≤◌, ◌+◌, ℕ, List, [], ap, sym, subst, ◌∙◌, ◌++◌, length, get_or, take, arith}
use Rattle.grb_core.specs.declared.value.Value.{Value}
use Rattle.grb_core.specs.Entries.{MatrixEntries}
use Rattle.grb_core.specs.Results.{row_of}
use Rattle.grb_ewise.specs.Rows.{flat_entries}
use Rattle.grb_sums.proofs.Renamed.{holds}
use Rattle.grb_mxm.specs.Rows.{rows_between}
use Rattle.grb_mxm.proofs.Making.{IsMaking, made_row, making_ends, same_taken}
use Rattle.grb_mxm.proofs.Joining.{joining_begins, row_joined, below_pushed}
use Rattle.grb_mxm.proofs.rows.make_rows.Goals as goal

-- rows that are not among these are empty
unlisted : {V : Type 0} (row : ℕ → List V) (numbers ns : List ℕ) (from upto : ℕ) → ((i : ℕ) → ((k : ℕ) → k < length numbers → get_or numbers k 0 ≡ i → ⊥) → row i ≡ [])
    → ((i : ℕ) → from ≤ i → i < upto → ((k : ℕ) → k < length ns → get_or ns k 0 ≡ i → ⊥) → (q : ℕ) → q < length numbers → get_or numbers q 0 ≡ i → ⊥)
    → (i : ℕ) → from ≤ i → i < upto → ((k : ℕ) → k < length ns → get_or ns k 0 ≡ i → ⊥) → row i ≡ []
unlisted row numbers ns from upto h all i l m none = h i (all i l m none)

-- the same, where the lists are the same
same_lists : {V : Type 0} (tv : V → Value) (p : MatrixEntries) (ns rows starts columns rows2 starts2 columns2 : List ℕ) (values values2 : List V) → rows2 ≡ rows → starts2 ≡ starts → columns2 ≡ columns → values2 ≡ values
    → IsMaking tv p ns 0 rows starts columns values → IsMaking tv p ns 0 rows2 starts2 columns2 values2
same_lists tv p ns rows starts columns rows2 starts2 columns2 values values2 r s c v h =
    subst (λ (x : List ℕ). IsMaking tv p ns 0 x starts2 columns2 values2) (sym r)
    (subst (λ (x : List ℕ). IsMaking tv p ns 0 rows x columns2 values2) (sym s)
    (subst (λ (x : List ℕ). IsMaking tv p ns 0 rows starts x values2) (sym c)
    (subst (λ (x : List _). IsMaking tv p ns 0 rows starts columns x) (sym v) h)))

pub making-init : goal.making-init
making-init g c =
    let p = g.R.RowMaker.makes c.args.maker.now in
    let part = c.args.part in
    let listed = c.numbers.ensures in
    let chosen = c.numbers_between-first in
    let kept = c.reserve.ensures in
    record {
      ready = kept.ready;
      making = same_lists g.T.Scalar.value _ chosen.result.1.now _ _ _ _ _ _ _ _ kept.rows kept.starts kept.columns kept.values
          (joining_begins p (holds _ listed.sorted) part.from part.upto chosen.result.1.now chosen.ensures.rise
          (unlisted (λ i. row_of i p) c.numbers.result.now chosen.result.1.now part.from part.upto listed.all chosen.ensures.all)
          g.T.Scalar.value _ _ _ _ part.lists part.below chosen.ensures.from);
      below = λ n l.
          let m : n < length part.made.rows.items = subst (λ (s : List ℕ). n < length s) kept.rows l in
          let same = ap (λ (s : List ℕ). get_or s n 0) kept.rows in
          let b = part.lists.below n m in
          let rises = part.rises in
          omega (arith, same, b, rises);
    }

pub making-preserved : goal.making-preserved
making-preserved g c =
    let tv = g.T.Scalar.value in
    let p = g.R.RowMaker.makes c.args.maker.now in
    let part = c.args.part in
    let there = part.made in
    let w = flat_entries tv there.rows.items there.starts.items there.columns.items there.values.items in
    let chosen = c.numbers_between-first in
    let ns = chosen.result.1.now in
    let k = c.making.k in
    let lt = c.making-test.true in
    let done = c.make-count in
    let n = done.result in
    let pushed = c.in_ok-push_row.ensures in
    let cs = take n done.new.columns in
    let vs = take n done.new.values in
    let number = ap (λ (s : List ℕ). get_or s (chosen.result.0 + k) 0) (sym c.numbers.ensures.list) ∙ sym (chosen.ensures.same k lt) in
    let entries = done.ensures.entries ∙ ap (λ (i : ℕ). row_of i p) number
    ∙ sym (row_joined p w part.from part.upto (get_or ns k 0) part.below (chosen.ensures.from k lt) (chosen.ensures.upto k lt)) in
    record {
      ready = done.ensures.ready;
      making = made_row tv (w ++ rows_between part.from part.upto p) ns chosen.ensures.rise k
          c.making.made.rows.items c.making.made.starts.items c.making.made.columns.items c.push_row.new.made.rows.items c.push_row.new.made.starts.items c.push_row.new.made.columns.items cs
          c.making.made.values.items c.push_row.new.made.values.items vs
          c.making.invariant.making lt c.push_row.ensures.fit (same_taken n done.new.columns done.new.values done.ensures.room_same) entries
          pushed.rows_pushed pushed.starts_pushed pushed.rows_same pushed.starts_same pushed.columns pushed.values;
      below = below_pushed c.making.made.rows.items c.push_row.new.made.rows.items (get_or ns k 0) (length cs) part.upto pushed.rows_pushed pushed.rows_same (chosen.ensures.upto k lt) c.making.invariant.below;
    }

pub make-count-requires-clause-at : goal.make-count-requires-clause-at
make-count-requires-clause-at g c =
    subst (λ (s : List ℕ). c.numbers_between-first.result.0 + c.making.k < length s) c.numbers.ensures.list (c.numbers_between-first.ensures.at c.making.k c.making-test.true)

pub make-count-requires-clause-ready : goal.make-count-requires-clause-ready
make-count-requires-clause-ready g c = c.making.invariant.ready

pub returns : goal.returns
returns g c =
    let tv = g.T.Scalar.value in
    let part = c.args.part in
    let there = part.made in
    let w = flat_entries tv there.rows.items there.starts.items there.columns.items there.values.items in
    let chosen = c.numbers_between-first in
    let held = c.making.invariant in
    record {
      lists = record {
        flat = held.making.flat;
        same = held.making.same;
        below = held.below;
      };
      entries = making_ends tv (w ++ rows_between part.from part.upto (g.R.RowMaker.makes c.args.maker.now)) chosen.result.1.now chosen.ensures.rise c.making.k _ _ _ _ held.making c.making-test.false;
    }

pub overflow_add-first : goal.overflow_add-first
overflow_add-first g c = let fit = c.numbers_between-first.ensures.fit c.making.k c.making-test.true in omega (arith, fit)
