use Rattle.grb_kernels.proofs.Searching.{indices_rise}
use Rattle.grb_ewise.proofs.marks.is_cut.Goals as goal

pub have_marks-requires-clause-rising : goal.have_marks-requires-clause-rising
have_marks-requires-clause-rising g c =
    let x = c.args.x.now in
    indices_rise g.T.Scalar.value x.indices.now x.values.now x.same x.rising

pub have_marks-requires-then-have_marks-clause-rising : goal.have_marks-requires-then-have_marks-clause-rising
have_marks-requires-then-have_marks-clause-rising g c =
    let y = c.args.y.now in
    indices_rise g.U.Scalar.value y.indices.now y.values.now y.same y.rising
