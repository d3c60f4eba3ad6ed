use Rattle.std.proofs.Common.{◌≡◌, ℕ, List, length, take, ap, sym, subst, ◌∙◌, arith}
use Rattle.std.specs.Prelude.{All, IsTrue}
use Rattle.std.specs.FinMap.{is_sorted}
use Rattle.std.proofs.lemmas.List.{length-take-le}
use Rattle.grb_core.specs.Value.{IsValueOf}
use Rattle.grb_core.specs.Entries.{Cell, MatrixEntries, cell_cmp}
use Rattle.grb_lists.specs.Cells.{decoded, IsFlat}
use Rattle.grb_ewise.specs.Rows.{flat_entries}
use Rattle.grb_ewise.proofs.Made.{cells_are}
use Rattle.grb_maps.proofs.Lists.{of_lent}
use Rattle.grb_core.proofs.Each.{holds, made_true, sorted-each}
use Rattle.grb_maps.proofs.Pushing.{all_made}
use Rattle.grb_maps.proofs.rows.make_rows.Goals as goal

pub keep-requires : goal.keep-requires
keep-requires g c =
    let tv = g.T.Scalar.value in
    let gives = g.E.Each.row_gives c.args.each.now in
    let m = decoded c.args.a.now.entries in
    let made = c.fill_rows-count.ensures in
    let n = c.fill_rows-count.result in
    let columns = c.fill_rows-count.new.columns in
    let values = c.fill_rows-count.new.values in
    let rows = c.fill_rows-count.new.rows.items in
    let starts = c.fill_rows-count.new.starts.items in
    let columns_long : length columns ≡ c.in_ok-columns.columns.len = omega (arith, c.fill_rows-count.auto.columns, ap length c.as_mut_slice.ensures.value, c.in_ok-columns.columns.ok.0) in
    let values_long : length values ≡ c.in_ok-values.values.len = omega (arith, c.fill_rows-count.auto.values, ap length c.as_mut_slice-2.ensures.value, c.in_ok-values.values.ok.0) in
    let columns_are : c.truncate.new.self.items ≡ take n columns = c.truncate.ensures.items ∙ of_lent n c.in_ok-columns.columns.len columns _ columns_long in
    let values_are : c.truncate-2.new.self.items ≡ take n values = c.truncate-2.ensures.items ∙ of_lent n c.in_ok-values.values.len values _ values_long in
    let same : length values ≡ length columns = omega (arith, columns_long, values_long, c.in_ok-columns.ensures.len, c.in_ok-values.ensures.len, c.in_ok-columns.columns.ok.0, c.in_ok-values.values.ok.0) in
    let is : flat_entries tv rows starts c.truncate.new.self.items c.truncate-2.new.self.items ≡ all_made gives m =
    ap (λ (s : List ℕ). flat_entries tv rows starts s c.truncate-2.new.self.items) columns_are ∙ ap (flat_entries tv rows starts (take n columns)) values_are ∙ made.entries in
    record {
      flat = subst (IsFlat rows starts) (sym columns_are) made.flat;
      same = ap length values_are ∙ length-take-le n values (omega (arith, same, made.within)) ∙ sym (ap length columns_are ∙ length-take-le n columns made.within);
      ordered = subst (λ (s : MatrixEntries). IsTrue (is_sorted cell_cmp s)) (sym is)
          (made_true _ (sorted-each cell_cmp (λ (k : Cell) v. gives k.0 k.1 v) m (holds _ c.requires.ordered)));
    }

pub returns-clause-of_domain : goal.returns-clause-of_domain
returns-clause-of_domain g c =
    subst (λ (m : MatrixEntries). All (λ e. IsValueOf g.T.Scalar.domain e.1) m) (sym c.keep.ensures.entries)
    (cells_are g.T.Scalar.value g.T.Scalar.domain _ c.truncate-2.new.self.items c.as_slice.result.now c.as_slice.ensures.value c.show.ensures)
