use Rattle.std.proofs.Common.{◌≡◌, ◌<◌, ◌+◌, ◌-◌, arith, ap, sym, ◌∙◌, length, get_or}
use Rattle.std.specs.Ordering.{nat_cmp}
use Rattle.std.specs.FinMap.{find}
use Rattle.grb_kernels.specs.Typed.{entries_from}
use Rattle.grb_kernels.proofs.Lists.{from-read}
use Rattle.grb_semirings.proofs.Marks.{scattered}
use Rattle.grb_pull.proofs.lookup.scatter.Goals as goal

pub down-preserved : goal.down-preserved
down-preserved g c =
    let tv = g.T.Scalar.value in
    let cs = c.args.indices.now in
    let vs = c.args.values.now in
    let i = c.down.i - 1 in
    let k = get_or cs i 0 in
    let x = c.index-values-i.result in
    let inside : i < length cs = omega arith in
    let one : c.down.i ≡ i + 1 = omega arith in
    let in_marks : k < length c.down.marks = omega (arith, c.requires.in_range i 0 inside) in
    let same : length c.down.marks ≡ length c.down.dense = omega arith in
    record {
      i = omega arith;
      open_from = λ j.
          scattered tv c.down.marks c.down.dense k x (entries_from tv (i + 1) cs vs) in_marks same
          (λ q. c.down.invariant.open_from q ∙ ap (λ n. find nat_cmp q (entries_from tv n cs vs)) one) j
          ∙ ap (find nat_cmp j) (sym (from-read tv cs vs i x inside c.requires.same c.index-values-i.is));
    }
