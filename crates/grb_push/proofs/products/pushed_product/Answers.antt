use Rattle.std.proofs.Common.{ℕ, Bool, ap, sym, ◌∙◌}
use Rattle.grb_core.specs.declared.domain.Domain.TheVariants as domain
use Rattle.grb_core.specs.declared.value.Value.TheVariants as value
use Rattle.grb_core.specs.Operator.{op_domain}
use Rattle.grb_kernels.specs.Typed.{entries_of}
use Rattle.grb_lists.specs.Cells.{decoded}
use Rattle.grb_push.specs.Wanted.{is_wanted}
use Rattle.grb_push.proofs.WholePushes.{pushed_whole}
use Rattle.grb_push.proofs.products.pushed_product.Goals as goal

pub keep_bools-requires : goal.keep_bools-requires
keep_bools-requires g c =
    let s = c.args.semiring in
    let made = c.in_ok-entries-in-Bool.entries in
    let lent = c.lend-lent in
    record {
      whole = pushed_whole s.monoid (g.S.Side.makes s.op) (op_domain s.op) (g.met.S.Side.closed s.op) (sym c.domain.ensures.monoid ∙ c.domain.ensures.op) c.in_ok-entries-in-Bool.whole (is_wanted c.args.wanted.now.among c.args.wanted.now.names.now) domain.Bool c.dims-nrows.result.1
          c.args.u.now.vector c.args.a.now.matrix (entries_of (λ (b : Bool). value.Bool b) lent.result.indices.now lent.result.values.now) (decoded c.lend_matrix.result.lists.now.entries)
          (entries_of (λ (b : Bool). value.Bool b) made.indices.items made.values.items) lent.ensures.whole c.lend_matrix.ensures.whole c.requires.u.domain c.requires.a.domain
          (sym c.in-Bool.is ∙ c.domain.ensures.op) (ap (λ p. p.1) c.dims-nrows.ensures.dims) lent.ensures.entries c.lend_matrix.ensures.entries
          c.in_ok-entries-in-Bool.ensures;
    }

pub keep_numbers-requires : goal.keep_numbers-requires
keep_numbers-requires g c =
    let s = c.args.semiring in
    let made = c.in_ok-entries-in-Uint64.entries in
    let lent = c.lend-lent-in-Uint64 in
    record {
      whole = pushed_whole s.monoid (g.S.Side.makes s.op) (op_domain s.op) (g.met.S.Side.closed s.op) (sym c.domain.ensures.monoid ∙ c.domain.ensures.op) c.in_ok-entries-in-Uint64.whole (is_wanted c.args.wanted.now.among c.args.wanted.now.names.now) domain.Uint64 c.dims-nrows.result.1
          c.args.u.now.vector c.args.a.now.matrix (entries_of (λ (n : ℕ). value.Uint64 n) lent.result.indices.now lent.result.values.now) (decoded c.lend_matrix-in-Uint64.result.lists.now.entries)
          (entries_of (λ (n : ℕ). value.Uint64 n) made.indices.items made.values.items) lent.ensures.whole c.lend_matrix-in-Uint64.ensures.whole c.requires.u.domain c.requires.a.domain
          (sym c.in-Uint64.is ∙ c.domain.ensures.op) (ap (λ p. p.1) c.dims-nrows.ensures.dims) lent.ensures.entries c.lend_matrix-in-Uint64.ensures.entries
          c.in_ok-entries-in-Uint64.ensures;
    }
