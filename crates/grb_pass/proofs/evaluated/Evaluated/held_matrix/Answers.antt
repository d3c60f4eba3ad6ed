use Rattle.std.proofs.Common.{sym, subst, ◌∙◌, arith}
use Rattle.grb_pass.proofs.Prelude.{IfSome, calls_of, store_of, IsTableOf, Table, IsEvaluatedFor, LiesReady, known}
use Rattle.grb_call.specs.declared.ids.Object.TheVariants as object
use Rattle.grb_pass.proofs.Held.{lacks, lacks_unsettled, live_here, matrix_live, matched, table_here}
use Rattle.grb_pass.proofs.evaluated.Evaluated.held_matrix.Goals as goal

pub returns : goal.returns
returns g c =
    let p = c.args.reader.now in let t = c.self.inside.table in let o = object.Matrix c.args.a in
    let is : IsEvaluatedFor p t = subst (λ (x : Table). IsEvaluatedFor p x) (sym c.self.view_is) c.requires.evaluated in
    let ready : IfSome p.made.ready (LiesReady t) = subst (λ (x : Table). IfSome p.made.ready (LiesReady x)) (sym c.self.view_is) c.requires.ready in
    let of : IsTableOf (calls_of (known p)) t = table_here p t is (omega (arith, c.if-count-known.false, c.known.ensures.known, c.count.ensures)) in
    matched _ _ _ c.held_matrix.result (c.held_matrix.ensures.matrix (calls_of (known p)) of) (c.held_matrix.ensures.none (calls_of (known p)) of.table)
    (λ none. (λ there. lacks_unsettled p t is ready o none (live_here (calls_of (known p)) t o of ∙ matrix_live (store_of (known p)) c.args.a there), lacks p t is ready o none))
