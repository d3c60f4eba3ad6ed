use Rattle.std.proofs.Common.{◌≡◌, ◌+◌, ◌++◌, ◌∙◌, arith, length, get_or, set, ap, refl}
use Rattle.grb_core.specs.Operator.{value_of_op}
use Rattle.grb_kernels.specs.Typed.{first_entries, entries_from}
use Rattle.grb_kernels.proofs.Lists.{from-all, from-read, first-set_more}
use Rattle.grb_kernels.proofs.Merges.{nothing_more}
use Rattle.grb_kronecker.specs.Crossing.{shifted}
use Rattle.grb_kronecker.proofs.Crossed.{shifted_on}
use Rattle.grb_kronecker.proofs.crossing.cross_entry.Goals as goal

pub entries-preserved : goal.entries-preserved
entries-preserved g c =
    let tv = g.T.Scalar.value in
    let f = value_of_op g.O.Operator.op in
    let place = c.args.k + c.entries.at in
    let column = c.args.base + get_or c.args.js.now c.entries.at 0 in
    let rest = shifted f c.args.base (tv c.args.a) (entries_from tv (c.entries.at + 1) c.args.js.now c.args.vs.now) in
    let on : c.args.k + (c.entries.at + 1) ≡ place + 1 = omega arith in
    ap (λ n. first_entries tv n (set c.entries.columns place column) (set c.entries.values place c.apply.result) ++ rest) on
    ∙ shifted_on f c.args.base (tv c.args.a)
    (first_entries tv place c.entries.columns c.entries.values) (first_entries tv (place + 1) (set c.entries.columns place column) (set c.entries.values place c.apply.result))
    (get_or c.args.js.now c.entries.at 0) column (tv c.index-vs-at.result) (tv c.apply.result) _ _
    (from-read tv c.args.js.now c.args.vs.now c.entries.at c.index-vs-at.result c.entries-test.true c.requires.list c.index-vs-at.is)
    refl c.apply.ensures
    (first-set_more tv c.entries.columns c.entries.values place column c.apply.result
    (omega (arith, c.requires.room, c.entries-test.true, c.entries.auto.columns)) (omega (arith, c.entries.auto.columns, c.entries.auto.values, c.requires.same)))
    ∙ c.entries.invariant

pub returns-clause-entries : goal.returns-clause-entries
returns-clause-entries g c =
    let tv = g.T.Scalar.value in
    let end : c.args.k + length c.args.js.now ≡ c.args.k + c.entries.at = omega (arith, c.entries-test.false, c.entries.auto.at-end) in
    ap (λ n. first_entries tv n c.entries.columns c.entries.values) end
    ∙ nothing_more (first_entries tv (c.args.k + c.entries.at) c.entries.columns c.entries.values) _
    (ap (shifted (value_of_op g.O.Operator.op) c.args.base (tv c.args.a)) (from-all tv c.args.js.now c.args.vs.now c.entries.at c.entries-test.false))
    ∙ c.entries.invariant
