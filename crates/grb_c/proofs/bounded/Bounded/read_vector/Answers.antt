use lib.Signed.{mag}
use Rattle.std.proofs.Common.{◌≡◌, ◌∙◌, ◌<◌, ℕ, ℤ, List, ap, sym, subst, arith, to_z, of_z, w32, to_z-of_z}
use Rattle.grb_sparse.specs.Vector.{SparseVectorView}
use Rattle.grb_call.specs.declared.call.Call.TheVariants as call
use Rattle.grb_call.specs.declared.wait_mode.WaitMode.TheVariants.{Complete}
use Rattle.grb_context.specs.Answered.{Answered}
use Rattle.grb_context.specs.Explains.{Answer}
use Rattle.grb_context.specs.Known.{Knowing, Shared}
use Rattle.grb_context.proofs.Waited.{left_vector}
use Rattle.grb_codes.specs.Arrays.{PutsVector}
use Rattle.grb_c.specs.Bounded.{InStore}
use Rattle.grb_c.specs.Tuples.{ReadsVector}
use Rattle.grb_c.proofs.bounded.Bounded.read_vector.Goals.{in-Ok+in-Some, in-Err}
use Rattle.grb_c.proofs.bounded.Bounded.read_vector.Goals as goal

-- a status is what its bits say
put_code : (n : ℤ) → mag n < 2147483648 → n ≡ to_z w32 (of_z w32 n)
put_code n small = grind (arith, to_z-of_z, small)

pub returns : goal.returns
returns g c =
    let old : InStore = c.args.self.now in let new : Knowing = c.wait_vector-waited.new.pass in
    let made : Answered old.context old.pass new (call.WaitVector c.args.v Complete) c.wait_vector-waited.result =
    subst (λ (y : Shared × Knowing). Answered y.0 y.1 new (call.WaitVector c.args.v Complete) c.wait_vector-waited.result)
    (λ i. ((c.deref.ensures ∙ ap (λ (o : InStore). o.context) c.self.view_is) i, (c.self.view_is i).pass)) c.wait_vector-waited.ensures.answered in
    let reads : Answer → Type 0 = λ r. ReadsVector g.T.Item.domain g.T.Item.item new c.args.v r (to_z w32 c.match-waited.result-bits) c.args.indices.now c.args.values.now c.args.count.now c.match-waited.indices c.match-waited.values c.match-waited.count in
    let by : reads c.wait_vector-waited.result = elim c.match-waited.branch [
      | in-Ok+in-Some w ↦ subst reads (sym w.in-Ok.is) (
        w.in-Some.vector.now.value,
        w.in-Some.ensures,
        subst (λ (y : SparseVectorView × ℤ × List ℕ × List g.row.T.Denot × ℕ). PutsVector g.T.Item.domain g.T.Item.item y.0 y.1 c.args.indices.now c.args.values.now c.args.count.now y.2 y.3 y.4) (λ i. (w.deref-in-Some.ensures i, (put_code w.put_vector.result w.put_vector.type_inv ∙ sym w.result-is) i, sym w.indices-is i, sym w.values-is i, sym w.count-is i)) w.put_vector.ensures,
      )
      | in-Err w ↦ subst reads (sym w.in-Err.is) (w.result-is ∙ sym (put_code w.refusal_code.result w.refusal_code.type_inv) ∙ w.refusal_code.ensures, w.indices-is, w.values-is, w.count-is)
    ] in
    record {
      answer = c.wait_vector-waited.result;
      context = ap (λ (o : InStore). o.context) c.self.view_is;
      answered = made;
      reads = by;
    }

pub unreachable-requires : goal.unreachable-requires
unreachable-requires g c =
    let old : InStore = c.args.self.now in let new : Knowing = c.wait_vector-waited.new.pass in
    let made : Answered old.context old.pass new (call.WaitVector c.args.v Complete) c.wait_vector-waited.result =
    subst (λ (y : Shared × Knowing). Answered y.0 y.1 new (call.WaitVector c.args.v Complete) c.wait_vector-waited.result)
    (λ i. ((c.deref.ensures ∙ ap (λ (o : InStore). o.context) c.self.view_is) i, (c.self.view_is i).pass)) c.wait_vector-waited.ensures.answered in
    c.in-None.ensures.1 (left_vector old.context old.pass new c.args.v c.wait_vector-waited.result c.in-Ok._done c.in-Ok.is made)
