use Rattle.std.proofs.Common.{◌≡◌, ◌∙◌, ap, refl, subst, sym}
use Rattle.grb_core.specs.Results.{turned, vxm_of}
use Rattle.grb_ewise.specs.Premises.{columns_read, rows_read}
use Rattle.grb_push.specs.Wanted.{is_wanted, IsMade}
use Rattle.grb_pull.proofs.vxm_product.turned_product.Goals as goal

pub product_by_rows-requires-clause-a : goal.product_by_rows-requires-clause-a
product_by_rows-requires-clause-a c =
    record {
      assembled = c.requires.a.assembled;
      domain = c.requires.a.domain;
      rows = refl;
      columns = subst (λ t. rows_read t c.args.a.now.matrix ≡ c.args.u.now.vector.size) c.if-tran1.true c.requires.a.rows;
    }

pub returns-then-tran1-clause-size : goal.returns-then-tran1-clause-size
returns-then-tran1-clause-size c = c.in_ok-by_rows.ensures.size ∙ ap (λ t. columns_read t c.args.a.now.matrix) (sym c.if-tran1.true)

pub returns-then-tran1-clause-entries : goal.returns-then-tran1-clause-entries
returns-then-tran1-clause-entries c =
    let w = c.args.wanted.now in
    let made = c.in_ok-by_rows.by_rows in
    subst (λ t. IsMade made.1 (is_wanted w.among w.names.now) (vxm_of c.args.semiring c.args.u.now.vector.entries (turned t c.args.a.now.matrix.entries)) made.0.vector.entries) (sym c.if-tran1.true)
    c.in_ok-by_rows.ensures.entries

pub returns-clause-size : goal.returns-clause-size
returns-clause-size c = c.in_ok-made.ensures.size ∙ ap (λ t. columns_read t c.args.a.now.matrix) (sym c.if-tran1.false)

pub returns-clause-entries : goal.returns-clause-entries
returns-clause-entries c =
    let w = c.args.wanted.now in
    let made = c.in_ok-made.made in
    subst (λ t. IsMade made.1 (is_wanted w.among w.names.now) (vxm_of c.args.semiring c.args.u.now.vector.entries (turned t c.args.a.now.matrix.entries)) made.0.vector.entries) (sym c.if-tran1.false)
    c.in_ok-made.ensures.entries
