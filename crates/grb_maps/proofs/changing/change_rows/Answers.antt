use Rattle.std.proofs.Common.{◌≡◌, ◌∙◌, ℕ, List, length, ap, sym, subst, arith}
use Rattle.std.specs.Prelude.{All, IsTrue, map}
use Rattle.std.specs.FinMap.{is_sorted}
use Rattle.std.proofs.lemmas.List.{length-map}
use Rattle.grb_core.specs.declared.value.Value.{Value}
use Rattle.grb_core.specs.Value.{IsValueOf}
use Rattle.grb_core.specs.Entries.{Cell, MatrixEntries, cell_cmp}
use Rattle.grb_lists.specs.Cells.{decoded, IsFlat}
use Rattle.grb_lists.proofs.CellCodes.{length-decoded}
use Rattle.grb_ewise.specs.Rows.{flat_entries}
use Rattle.grb_ewise.proofs.Made.{cells_are}
use Rattle.grb_core.proofs.Each.{holds}
use Rattle.grb_maps.specs.Changed.{with_values}
use Rattle.grb_maps.proofs.Changed.{sorted-changed}
use Rattle.grb_maps.proofs.CopiedLists.{are_flat, changed_cells}
use Rattle.grb_maps.proofs.changing.change_rows.Goals as goal

pub keep-requires-clause-flat : goal.keep-requires-clause-flat
keep-requires-clause-flat g c =
    let m = c.args.a.now.entries in
    let rows = c.in_ok-rows.ensures ∙ c.rows.ensures.list in
    subst (λ (s : List ℕ). IsFlat s c.in_ok-starts.starts.items c.in_ok-columns.columns.items) (sym rows)
    (subst (λ (s : List ℕ). IsFlat c.args.a.now.rows s c.in_ok-columns.columns.items) (sym c.in_ok-starts.ensures)
    (subst (λ (s : List ℕ). IsFlat c.args.a.now.rows c.starts.result.now s) (sym c.in_ok-columns.ensures)
    (are_flat m c.args.a.now.rows c.starts.result.now c.columns.result.now (holds _ c.requires.ordered) c.rows.ensures.rise c.rows.ensures.all
    c.starts.ensures.len c.starts.ensures.rise c.starts.ensures.within c.starts.ensures.spans c.columns.ensures.columns)))

pub keep-requires-clause-same : goal.keep-requires-clause-same
keep-requires-clause-same g c =
    let m = c.args.a.now.entries in
    let tv = g.T.Scalar.value in
    let gives = g.C.Change.gives c.args.change.now in
    let column : Cell × Value → ℕ = λ e. e.0.1 in
    let second : ℕ × Value → Value = λ e. e.1 in
    let made = ap length c.in_ok-values.ensures in
    let read = ap length c.of_lists.ensures in
    let long = length-map c.in_ok-values.values.items tv in
    let given = length-map (map tv c.of_lists.result.now) gives in
    let all = length-map m second in
    let columns = ap length (c.in_ok-columns.ensures ∙ c.columns.ensures.columns) in
    let of_columns = length-map (decoded m) column in
    let cells = length-decoded m in
    omega (arith, made, read, long, given, all, columns, of_columns, cells)

-- the lists have the same cells, each with what is made of its value
written : (g : _) (c : goal.After-show g)
    → flat_entries g.T.Scalar.value c.in_ok-rows.rows.items c.in_ok-starts.starts.items c.in_ok-columns.columns.items c.in_ok-values.values.items
    ≡ with_values (g.C.Change.gives c.args.change.now) (decoded c.args.a.now.entries)
written g c =
    let m = c.args.a.now.entries in
    let tv = g.T.Scalar.value in
    let gives = g.C.Change.gives c.args.change.now in
    let ws = c.in_ok-values.values.items in
    ap (λ (s : List ℕ). flat_entries tv s c.in_ok-starts.starts.items c.in_ok-columns.columns.items ws) (c.in_ok-rows.ensures ∙ c.rows.ensures.list)
    ∙ ap (λ (s : List ℕ). flat_entries tv c.args.a.now.rows s c.in_ok-columns.columns.items ws) c.in_ok-starts.ensures
    ∙ ap (λ (s : List ℕ). flat_entries tv c.args.a.now.rows c.starts.result.now s ws) c.in_ok-columns.ensures
    ∙ changed_cells m c.args.a.now.rows c.starts.result.now c.columns.result.now (holds _ c.requires.ordered) c.rows.ensures.rise c.rows.ensures.all
    c.starts.ensures.len c.starts.ensures.rise c.starts.ensures.within c.starts.ensures.spans c.columns.ensures.columns
    tv gives ws (c.in_ok-values.ensures ∙ ap (map gives) c.of_lists.ensures)

pub keep-requires-clause-ordered : goal.keep-requires-clause-ordered
keep-requires-clause-ordered g c =
    subst (λ (s : MatrixEntries). IsTrue (is_sorted cell_cmp s)) (sym (written g c)) (sorted-changed cell_cmp (g.C.Change.gives c.args.change.now) (decoded c.args.a.now.entries) c.requires.ordered)

written_then : (g : _) (c : goal.After-keep g)
    → flat_entries g.T.Scalar.value c.in_ok-rows.rows.items c.in_ok-starts.starts.items c.in_ok-columns.columns.items c.in_ok-values.values.items
    ≡ with_values (g.C.Change.gives c.args.change.now) (decoded c.args.a.now.entries)
written_then g c =
    let m = c.args.a.now.entries in
    let tv = g.T.Scalar.value in
    let gives = g.C.Change.gives c.args.change.now in
    let ws = c.in_ok-values.values.items in
    ap (λ (s : List ℕ). flat_entries tv s c.in_ok-starts.starts.items c.in_ok-columns.columns.items ws) (c.in_ok-rows.ensures ∙ c.rows.ensures.list)
    ∙ ap (λ (s : List ℕ). flat_entries tv c.args.a.now.rows s c.in_ok-columns.columns.items ws) c.in_ok-starts.ensures
    ∙ ap (λ (s : List ℕ). flat_entries tv c.args.a.now.rows c.starts.result.now s ws) c.in_ok-columns.ensures
    ∙ changed_cells m c.args.a.now.rows c.starts.result.now c.columns.result.now (holds _ c.requires.ordered) c.rows.ensures.rise c.rows.ensures.all
    c.starts.ensures.len c.starts.ensures.rise c.starts.ensures.within c.starts.ensures.spans c.columns.ensures.columns
    tv gives ws (c.in_ok-values.ensures ∙ ap (map gives) c.of_lists.ensures)

pub returns-clause-entries : goal.returns-clause-entries
returns-clause-entries g c = c.keep.ensures.entries ∙ written_then g c

pub returns-clause-of_domain : goal.returns-clause-of_domain
returns-clause-of_domain g c =
    subst (λ (m : MatrixEntries). All (λ e. IsValueOf g.T.Scalar.domain e.1) m) (sym c.keep.ensures.entries)
    (cells_are g.T.Scalar.value g.T.Scalar.domain _ c.in_ok-values.values.items c.as_slice.result.now c.as_slice.ensures.value c.show.ensures)
