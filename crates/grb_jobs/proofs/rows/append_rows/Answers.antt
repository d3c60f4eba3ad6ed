use Rattle.std.proofs.Common.{◌≡◌, ◌<◌, ◌≤◌, ◌+◌, ℕ, List, [], ap, sym, subst, ◌∙◌, ◌++◌, length, get_or, arith}
use Rattle.grb_core.specs.Results.{row_of}
use Rattle.grb_lists.specs.Cells.{decoded}
use Rattle.grb_ewise.specs.Rows.{flat_entries}
use Rattle.grb_mxm.specs.Rows.{rows_between}
use Rattle.grb_core.proofs.ResultLaws.{passed}
use Rattle.grb_mxm.proofs.Making.{made_row, making_ends}
use Rattle.grb_mxm.proofs.Joining.{joining_begins, row_joined, below_pushed}
use Rattle.grb_jobs.proofs.rows.append_rows.Goals as goal

pub numbers_between-first-requires-clause-rise : goal.numbers_between-first-requires-clause-rise
numbers_between-first-requires-clause-rise g c =
    subst (λ (s : List ℕ). (i j : ℕ) → i < j → j < length s → get_or s i 0 < get_or s j 0) (sym c.rows.ensures.list) c.rows.ensures.rise

-- rows that are not among these are empty
unlisted : {V : Type 0} (row : ℕ → List V) (numbers listed ns : List ℕ) (from upto : ℕ) → numbers ≡ listed → ((i : ℕ) → ((k : ℕ) → k < length listed → get_or listed k 0 ≡ i → ⊥) → row i ≡ [])
    → ((i : ℕ) → from ≤ i → i < upto → ((k : ℕ) → k < length ns → get_or ns k 0 ≡ i → ⊥) → (q : ℕ) → q < length numbers → get_or numbers q 0 ≡ i → ⊥)
    → (i : ℕ) → from ≤ i → i < upto → ((k : ℕ) → k < length ns → get_or ns k 0 ≡ i → ⊥) → row i ≡ []
unlisted row numbers listed ns from upto e h all i l m none =
    h i (subst (λ (s : List ℕ). (q : ℕ) → q < length s → get_or s q 0 ≡ i → ⊥) e (all i l m none))

pub joining-init : goal.joining-init
joining-init g c =
    let tv = g.T.Scalar.value in
    let a = decoded c.args.m.now.lists.now.entries in
    let listed = c.rows.ensures in
    let part = c.numbers_between-first in
    record {
      making = joining_begins a (passed _ c.args.m.now.ordered) c.args.from c.args.upto part.result.1.now part.ensures.rise
          (unlisted (λ i. row_of i a) c.rows.result.now c.args.m.now.lists.now.rows part.result.1.now c.args.from c.args.upto listed.list listed.all part.ensures.all)
          tv _ _ _ _ c.requires.lists c.requires.below part.ensures.from;
      below = λ n l. let b = c.requires.lists.below n l in let rises = c.requires.rises in omega (arith, b, rises);
    }

pub joining-preserved : goal.joining-preserved
joining-preserved g c =
    let tv = g.T.Scalar.value in
    let a = decoded c.args.m.now.lists.now.entries in
    let w = flat_entries tv c.args.made.now.rows.items c.args.made.now.starts.items c.args.made.now.columns.items c.args.made.now.values.items in
    let p = w ++ rows_between c.args.from c.args.upto a in
    let listed = c.rows.ensures in
    let part = c.numbers_between-first in
    let ns = part.result.1.now in
    let k = c.joining.k in
    let lt = c.joining-test.true in
    let row = c.row_placed-row.result in
    let pushed = c.in_ok-push_row.ensures in
    let number = part.ensures.same k lt ∙ ap (λ (s : List ℕ). get_or s (part.result.0 + k) 0) listed.list in
    let entries = c.row_placed-row.ensures.entries ∙ ap (λ (i : ℕ). row_of i a) (sym number)
    ∙ sym (row_joined a w c.args.from c.args.upto (get_or ns k 0) c.requires.below (part.ensures.from k lt) (part.ensures.upto k lt)) in
    record {
      making = made_row tv p ns part.ensures.rise k
          c.joining.made.rows.items c.joining.made.starts.items c.joining.made.columns.items c.push_row.new.made.rows.items c.push_row.new.made.starts.items c.push_row.new.made.columns.items row.indices.now
          c.joining.made.values.items c.push_row.new.made.values.items row.values.now
          c.joining.invariant.making lt c.push_row.ensures.fit row.same entries
          pushed.rows_pushed pushed.starts_pushed pushed.rows_same pushed.starts_same pushed.columns pushed.values;
      below = below_pushed c.joining.made.rows.items c.push_row.new.made.rows.items (get_or ns k 0) (length row.indices.now) c.args.upto pushed.rows_pushed pushed.rows_same (part.ensures.upto k lt) c.joining.invariant.below;
    }

pub returns-clause-lists : goal.returns-clause-lists
returns-clause-lists g c = record {
  flat = c.joining.invariant.making.flat;
  same = c.joining.invariant.making.same;
  below = c.joining.invariant.below;
}

pub returns-clause-entries : goal.returns-clause-entries
returns-clause-entries g c =
    let tv = g.T.Scalar.value in
    let a = decoded c.args.m.now.lists.now.entries in
    let w = flat_entries tv c.args.made.now.rows.items c.args.made.now.starts.items c.args.made.now.columns.items c.args.made.now.values.items in
    let part = c.numbers_between-first in
    making_ends tv (w ++ rows_between c.args.from c.args.upto a) part.result.1.now part.ensures.rise c.joining.k _ _ _ _ c.joining.invariant.making c.joining-test.false
