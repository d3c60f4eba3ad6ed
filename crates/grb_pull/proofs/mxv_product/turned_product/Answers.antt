use Rattle.std.proofs.Common.{IfOk, ap, sym, ◌∙◌}
use Rattle.std.proofs.lemmas.Result.{IfOk-weaker}
use Rattle.grb_core.specs.Contents.{Vector}
use Rattle.grb_core.specs.Entries.{restricted}
use Rattle.grb_core.specs.Results.{mxv_of, turned}
use Rattle.grb_push.specs.Wanted.{is_wanted}
use Rattle.grb_push.proofs.Bounded.{made-same}
use Rattle.grb_push.proofs.PushedColumns.{pushed_of-exchanged}
use Rattle.grb_pull.proofs.mxv_product.turned_product.Goals as goal

pub returns-then-tran-clause-entries : goal.returns-then-tran-clause-entries
returns-then-tran-clause-entries c =
    let w = c.args.wanted.now in
    IfOk-weaker c.pushed_product.result _ _ (λ made h. made-same made.1 (is_wanted w.among w.names.now) _ _ made.0.vector.entries
    (pushed_of-exchanged c.args.semiring c.args.u.now.vector.entries c.args.a.now.matrix.entries
    ∙ ap (λ t. mxv_of c.args.semiring (turned t c.args.a.now.matrix.entries) c.args.u.now.vector.entries) (sym c.if-tran.true)) h)
    c.pushed_product.ensures.entries

pub returns-clause-entries : goal.returns-clause-entries
returns-clause-entries c =
    let w = c.args.wanted.now in
    ap (λ (v : Vector). v.entries) c.in_ok-made.ensures.vector
    ∙ ap (λ t. restricted (is_wanted w.among w.names.now) (mxv_of c.args.semiring (turned t c.args.a.now.matrix.entries) c.args.u.now.vector.entries)) (sym c.if-tran.false)
