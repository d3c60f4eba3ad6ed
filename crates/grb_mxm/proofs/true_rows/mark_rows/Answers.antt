use Rattle.std.proofs.Common.{◌≡◌, ◌<◌, ◌/◌, ◌%◌, ◌∙◌, ℕ, Bool, true, false, length, get_or, ap, sym, arith}
use Rattle.std.specs.Prelude.{◌||◌, Option, is_some}
use Rattle.std.specs.Ordering.{nat_cmp}
use Rattle.std.specs.FinMap.{find}
use Rattle.std.proofs.lemmas.List.Elements.{recursion_from_All}
use Rattle.grb_core.specs.declared.value.Value.{Value}
use Rattle.grb_core.specs.declared.value.Value.TheVariants as value
use Rattle.grb_core.specs.Results.{row_of}
use Rattle.grb_kernels.specs.Typed.{entries_of}
use Rattle.grb_lists.specs.Cells.{decoded}
use Rattle.grb_semirings.specs.Products.{is_any}
use Rattle.grb_sums.specs.Bits.{is_marked}
use Rattle.grb_sums.specs.Naming.{name_in}
use Rattle.grb_sums.proofs.MarkedPlaces.{no_bit}
use Rattle.grb_sums.proofs.Renamed.{find-renamed}
use Rattle.grb_mxm.proofs.TrueRows.{found_below, rows_all, rows_more}
use Rattle.grb_mxm.proofs.true_rows.mark_rows.Goals as goal

differ : false ≡ true → ⊥
differ e = cc

pub entries-init : goal.entries-init
entries-init c =
    let none : (p : ℕ) → is_marked c.args.words.now p ≡ false = λ p. no_bit (get_or c.args.words.now (p / 64) 0) (p % 64) (c.requires.none (p / 64)) in
    let names = c.args.b.now.names.now in
    let b = decoded c.args.b.now.lists.now.entries in
    record {
      marked = λ p l. ap (λ x. x || is_any (λ k. find nat_cmp (name_in names p) (row_of k b)) c.args.first.now.indices.now) (none p);
      within = λ p e. absurd (differ (sym (none p) ∙ e));
      tops = c.requires.tops;
    }

pub mark_row-requires-clause-in_range : goal.mark_row-requires-clause-in_range
mark_row-requires-clause-in_range c k d l = let b = c.row-row.ensures.in_range k d l in omega (arith, b, c.requires.enough, c.entries.auto.words)

pub entries-preserved : goal.entries-preserved
entries-preserved c =
    let tv : Bool → Value = λ (b : Bool). value.Bool b in
    let names = c.args.b.now.names.now in
    let name = name_in names in
    let b = decoded c.args.b.now.lists.now.entries in
    let y : ℕ → ℕ → Option Value = λ p k. find nat_cmp (name p) (row_of k b) in
    let cs = c.args.first.now.indices.now in
    let i = c.entries.i in
    let row = c.row-row.result in
    let held = c.entries.invariant in
    let below = recursion_from_All (λ r. r < length names) row.indices.now c.row-row.ensures.in_range in
    let at : (p : ℕ) → p < length names → find nat_cmp p (entries_of tv row.indices.now row.values.now) ≡ y p (get_or cs i 0) =
    λ p l. find-renamed (length names) name c.args.b.now.rising tv p row.indices.now row.values.now l below ∙ ap (find nat_cmp (name p)) c.row-row.ensures.entries in
    record {
      marked = λ p l. rows_more (y p) cs i (is_marked c.entries.words p) (is_marked c.mark_row.new.words p) (is_some (find nat_cmp p (entries_of tv row.indices.now row.values.now))) c.entries-test.true (c.mark_row.ensures.marked p)
          (ap (λ (w : Option Value). is_some w) (at p l)) (held.marked p l);
      within = λ p e. found_below (length names) p row.indices.now row.values.now (is_marked c.entries.words p) (held.within p) (λ k l. c.row-row.ensures.in_range k 0 l) (sym (c.mark_row.ensures.marked p) ∙ e);
      tops = c.mark_row.ensures.tops;
    }

pub returns-clause-marked : goal.returns-clause-marked
returns-clause-marked c p l =
    let names = c.args.b.now.names.now in
    let b = decoded c.args.b.now.lists.now.entries in
    rows_all (λ k. find nat_cmp (name_in names p) (row_of k b)) c.args.first.now.indices.now c.entries.i (is_marked c.entries.words p) c.entries-test.false (c.entries.invariant.marked p l)
