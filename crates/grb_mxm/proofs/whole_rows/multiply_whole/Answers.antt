use Rattle.std.proofs.Common.{◌≡◌, ◌++◌, [], length, ap, sym, subst, ◌∙◌, arith}
use Rattle.std.specs.Prelude.{IfSome}
use Rattle.grb_core.specs.Semiring.{SemiringParts}
use Rattle.grb_core.specs.Entries.{MatrixEntries}
use Rattle.grb_core.specs.Results.{mxm_of}
use Rattle.grb_lists.specs.Cells.{decoded}
use Rattle.grb_mxm.specs.Rows.{AreAppended, rows_between}
use Rattle.grb_mxm.proofs.Joining.{no_entries}
use Rattle.grb_mxm.proofs.whole_rows.multiply_whole.Goals as goal

pub returns-in-Some : goal.returns-in-Some
returns-in-Some g c =
    let tv = g.T.Scalar.value in
    let part = c.args.part in
    let there = part.made in
    let s : SemiringParts = record { monoid = g.M.MonoidOver.monoid; op = g.O.Operator.op } in
    let p = mxm_of s (decoded c.args.a.now.lists.now.entries) (decoded c.args.b.now.lists.now.entries) in
    let made = subst (λ o. IfSome o (λ m. AreAppended tv [] part.from part.upto p m.rows.items m.starts.items m.columns.items m.values.items)) c.in-Some.is c.in_ok-in_bits.ensures in
    let none : length there.rows.items ≡ 0 = omega arith in
    record {
      lists = made.lists;
      entries = made.entries
          ∙ ap (λ (m : MatrixEntries). m ++ rows_between part.from part.upto p) (sym (no_entries tv part.from there.rows.items there.starts.items there.columns.items there.values.items part.lists none));
    }
