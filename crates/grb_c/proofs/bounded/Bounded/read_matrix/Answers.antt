use lib.Signed.{mag}
use Rattle.std.proofs.Common.{◌≡◌, ◌∙◌, ◌<◌, ℕ, ℤ, List, ap, sym, subst, arith, to_z, of_z, w32, to_z-of_z}
use Rattle.grb_sparse.specs.Matrix.{SparseMatrixView}
use Rattle.grb_call.specs.declared.call.Call.TheVariants as call
use Rattle.grb_call.specs.declared.wait_mode.WaitMode.TheVariants.{Complete}
use Rattle.grb_context.specs.Answered.{Answered}
use Rattle.grb_context.specs.Explains.{Answer}
use Rattle.grb_context.specs.Known.{Knowing, Shared}
use Rattle.grb_context.proofs.Waited.{left_matrix}
use Rattle.grb_codes.specs.Arrays.{PutsMatrix}
use Rattle.grb_c.specs.Bounded.{InStore}
use Rattle.grb_c.specs.Tuples.{ReadsMatrix}
use Rattle.grb_c.proofs.bounded.Bounded.read_matrix.Goals.{in-Ok+in-Some, in-Err}
use Rattle.grb_c.proofs.bounded.Bounded.read_matrix.Goals as goal

-- a status is what its bits say
put_code : (n : ℤ) → mag n < 2147483648 → n ≡ to_z w32 (of_z w32 n)
put_code n small = grind (arith, to_z-of_z, small)

pub returns : goal.returns
returns g c =
    let old : InStore = c.args.self.now in let new : Knowing = c.wait_matrix-waited.new.pass in
    let made : Answered old.context old.pass new (call.WaitMatrix c.args.a Complete) c.wait_matrix-waited.result =
    subst (λ (y : Shared × Knowing). Answered y.0 y.1 new (call.WaitMatrix c.args.a Complete) c.wait_matrix-waited.result)
    (λ i. ((c.deref.ensures ∙ ap (λ (o : InStore). o.context) c.self.view_is) i, (c.self.view_is i).pass)) c.wait_matrix-waited.ensures.answered in
    let reads : Answer → Type 0 = λ r. ReadsMatrix g.T.Item.domain g.T.Item.item new c.args.a r (to_z w32 c.match-waited.result-bits) c.args.rows.now c.args.columns.now c.args.values.now c.args.count.now c.match-waited.rows c.match-waited.columns c.match-waited.values c.match-waited.count in
    let by : reads c.wait_matrix-waited.result = elim c.match-waited.branch [
      | in-Ok+in-Some w ↦ subst reads (sym w.in-Ok.is) (
        w.in-Some.matrix.now.value,
        w.in-Some.ensures,
        subst (λ (y : SparseMatrixView × ℤ × List ℕ × List ℕ × List g.row.T.Denot × ℕ). PutsMatrix g.T.Item.domain g.T.Item.item y.0 y.1 c.args.rows.now c.args.columns.now c.args.values.now c.args.count.now y.2 y.3 y.4 y.5) (λ i. (w.deref-in-Some.ensures i, (put_code w.put_matrix.result w.put_matrix.type_inv ∙ sym w.result-is) i, sym w.rows-is i, sym w.columns-is i, sym w.values-is i, sym w.count-is i)) w.put_matrix.ensures,
      )
      | in-Err w ↦ subst reads (sym w.in-Err.is) (w.result-is ∙ sym (put_code w.refusal_code.result w.refusal_code.type_inv) ∙ w.refusal_code.ensures, w.rows-is, w.columns-is, w.values-is, w.count-is)
    ] in
    record {
      answer = c.wait_matrix-waited.result;
      context = ap (λ (o : InStore). o.context) c.self.view_is;
      answered = made;
      reads = by;
    }

pub unreachable-requires : goal.unreachable-requires
unreachable-requires g c =
    let old : InStore = c.args.self.now in let new : Knowing = c.wait_matrix-waited.new.pass in
    let made : Answered old.context old.pass new (call.WaitMatrix c.args.a Complete) c.wait_matrix-waited.result =
    subst (λ (y : Shared × Knowing). Answered y.0 y.1 new (call.WaitMatrix c.args.a Complete) c.wait_matrix-waited.result)
    (λ i. ((c.deref.ensures ∙ ap (λ (o : InStore). o.context) c.self.view_is) i, (c.self.view_is i).pass)) c.wait_matrix-waited.ensures.answered in
    c.in-None.ensures.1 (left_matrix old.context old.pass new c.args.a c.wait_matrix-waited.result c.in-Ok._done c.in-Ok.is made)
