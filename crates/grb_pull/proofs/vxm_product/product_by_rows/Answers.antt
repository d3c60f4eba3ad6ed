use Rattle.std.proofs.Common.{◌∙◌, ℕ, ap, refl, subst, sym}
use Rattle.std.specs.Prelude.{All}
use Rattle.std.proofs.lemmas.List.Elements.{recursion_from_All}
use Rattle.grb_core.specs.declared.domain.Domain.{Domain}
use Rattle.grb_core.specs.declared.value.Value.{Value}
use Rattle.grb_core.specs.Value.{IsValueOf}
use Rattle.grb_core.specs.Operator.{op_domain}
use Rattle.grb_core.specs.Entries.{Cell, MatrixEntries, restricted}
use Rattle.grb_core.specs.Contents.{Matrix, Vector}
use Rattle.grb_core.specs.Results.{vxm_of}
use Rattle.grb_push.specs.Wanted.{is_wanted, IsMade}
use Rattle.grb_pull.proofs.Exchanges.{mxv_exchanged}
use Rattle.grb_pull.proofs.vxm_product.product_by_rows.Goals as goal

pub product-requires-clause-a : goal.product-requires-clause-a
product-requires-clause-a c =
    record { assembled = c.requires.a.assembled; domain = c.requires.a.domain ∙ sym c.in-Some.ensures.1.domain; rows = c.requires.a.rows; columns = c.requires.a.columns }

pub product-requires-clause-u : goal.product-requires-clause-u
product-requires-clause-u c = record { assembled = c.requires.u.assembled; domain = c.requires.u.domain ∙ sym c.in-Some.ensures.1.domain; same_size = c.requires.u.same_size }

pub returns-in_ok-made-in-Some-clause-entries : goal.returns-in_ok-made-in-Some-clause-entries
returns-in_ok-made-in-Some-clause-entries c =
    let s = c.args.semiring in
    let u = c.args.u.now.vector in
    let a = c.args.a.now.matrix in
    let w = c.args.wanted.now in
    let of_u = subst (λ (d : Domain). All (λ (e : ℕ × Value). IsValueOf d e.1) u.entries) c.requires.u.domain c.dims.ensures.whole.of_domain in
    let of_a = subst (λ (d : Domain). All (λ (e : Cell × Value). IsValueOf d e.1) a.entries) c.requires.a.domain c.dims-in-Some.ensures.whole.of_domain in
    ap (λ (v : Vector). v.entries) c.in_ok-made-in-Some.ensures.vector
    ∙ ap (restricted (is_wanted w.among w.names.now))
    (mxv_exchanged s c.in-Some.other c.in-Some.ensures.0 c.in-Some.ensures.1 u.entries (recursion_from_All (λ (e : ℕ × Value). IsValueOf (op_domain s.op) e.1) u.entries of_u)
    c.transposed_exchanges_rows_and_columns.ensures.twice c.vxm_is_a_product_of_the_transposed.ensures.exchanged a.entries c.dims-in-Some.ensures.whole.ordered
    (recursion_from_All (λ (e : Cell × Value). IsValueOf (op_domain s.op) e.1) a.entries of_a))

pub pushed_product-requires-clause-a : goal.pushed_product-requires-clause-a
pushed_product-requires-clause-a c =
    record { assembled = c.in_ok-turned-in-None.ensures.assembled; domain = ap (λ (m : Matrix). m.domain) c.in_ok-turned-in-None.ensures.matrix ∙ c.requires.a.domain; rows = refl; columns = refl }

pub returns-in_ok-pushed-in-None-clause-entries : goal.returns-in_ok-pushed-in-None-clause-entries
returns-in_ok-pushed-in-None-clause-entries c =
    let w = c.args.wanted.now in
    subst (λ (m : MatrixEntries). IsMade c.in_ok-pushed-in-None.pushed.1 (is_wanted w.among w.names.now) (vxm_of c.args.semiring c.args.u.now.vector.entries m) c.in_ok-pushed-in-None.pushed.0.vector.entries)
    (ap (λ (m : Matrix). m.entries) c.in_ok-turned-in-None.ensures.matrix) c.in_ok-pushed-in-None.ensures.entries
