use Rattle.std.proofs.Common.{◌<◌, ◌+◌, ◌/◌, Bool, List, true, false, ap, ◌∙◌, length, get_or, arith}
use Rattle.std.specs.Prelude.{◌||◌, is_some}
use Rattle.std.specs.Ordering.{nat_cmp}
use Rattle.std.specs.FinMap.{find}
use Rattle.std.proofs.lemmas.List.{get_or-set_same}
use Rattle.grb_core.specs.declared.value.Value.TheVariants as value
use Rattle.grb_kernels.specs.Typed.{entries_of, entries_from}
use Rattle.grb_kernels.proofs.Lists.{from-read, from-all}
use Rattle.grb_sums.specs.Bits.{is_marked}
use Rattle.grb_sums.specs.Marks.{touched}
use Rattle.grb_sums.proofs.SumsByColumn.{stands}
use Rattle.grb_sums.proofs.Tops.{length-touched, tops_marked}
use Rattle.grb_mxm.proofs.TrueRows.{marked_all, marked_more}
use Rattle.grb_mxm.proofs.true_rows.mark_row.Goals as goal

pub row-preserved : goal.row-preserved
row-preserved c =
    let tv : Bool → _ = λ (b : Bool). value.Bool b in
    let cs = c.args.row.now.indices.now in
    let vs = c.args.row.now.values.now in
    let ws = c.row.words in
    let ws2 = c.mark.new.words in
    let i = c.row.i in
    let q = get_or cs i 0 in
    let inside : i < length cs = c.row-test.true in
    let word : q / 64 < length ws = omega (arith, c.requires.in_range i 0 inside, c.row.auto.words) in
    let y = stands vs i (omega (arith, inside, c.args.row.now.same)) in
    record {
      marked = λ p. marked_more ws ws2 q (value.Bool y.0) (entries_from tv i cs vs) (entries_from tv (i + 1) cs vs) p (is_marked c.args.words.now p || is_some (find nat_cmp p (entries_of tv cs vs))) c.mark.ensures.here c.mark.ensures.others
          (from-read tv cs vs i y.0 inside c.args.row.now.same y.1) (c.row.invariant.marked p);
      tops = tops_marked ws ws2 c.row.tops c.mark_after.new.tops (q / 64) c.row.invariant.tops c.mark.ensures.touched
          (c.mark_after.ensures (touched ws) (omega (arith, length-touched ws, word))
          (λ e. ap (λ w. get_or (touched ws) w false) e ∙ c.row.invariant.before (omega (arith, word, e))) c.row.invariant.tops.bits) (omega arith);
      before = λ l. ap (λ (m : List Bool). get_or m (q / 64) false) c.mark.ensures.touched ∙ get_or-set_same (touched ws) (q / 64) true false (omega (arith, length-touched ws, word));
    }

pub returns-clause-marked : goal.returns-clause-marked
returns-clause-marked c p =
    let tv : Bool → _ = λ (b : Bool). value.Bool b in
    let cs = c.args.row.now.indices.now in
    let vs = c.args.row.now.values.now in
    marked_all c.row.words (entries_from tv c.row.i cs vs) p _ (from-all tv cs vs c.row.i c.row-test.false) (c.row.invariant.marked p)
