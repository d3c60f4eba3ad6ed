use Rattle.std.proofs.Common.{ℕ, Bool, ap, sym, ◌∙◌}
use Rattle.grb_core.specs.declared.domain.Domain.TheVariants as domain
use Rattle.grb_core.specs.declared.value.Value.TheVariants as value
use Rattle.grb_kernels.specs.Typed.{entries_of}
use Rattle.grb_lists.specs.Cells.{decoded}
use Rattle.grb_push.specs.Wanted.{is_wanted}
use Rattle.grb_pull.proofs.WantedResults.{mxv_made}
use Rattle.grb_pull.proofs.mxv_product.product.Goals as goal

pub keep_bools-requires : goal.keep_bools-requires
keep_bools-requires c =
    let made = c.in_ok-entries-in-Bool.entries in
    let lent = c.lend-lent in
    record {
      whole = mxv_made (is_wanted c.args.wanted.now.among c.args.wanted.now.names.now) c.args.semiring domain.Bool c.dims-nrows.result.0 c.args.a.now.matrix c.args.u.now.vector (decoded c.lend_matrix.result.lists.now.entries)
          (entries_of (λ (b : Bool). value.Bool b) lent.result.indices.now lent.result.values.now) (entries_of (λ (b : Bool). value.Bool b) made.indices.items made.values.items)
          c.lend_matrix.ensures.whole lent.ensures.whole (sym c.domain.ensures.monoid ∙ c.domain.ensures.op) c.requires.a.domain c.requires.u.domain (sym c.requires.a.columns)
          (sym c.in-Bool.is ∙ c.domain.ensures.op) (ap (λ p. p.0) c.dims-nrows.ensures.dims) c.lend_matrix.ensures.entries lent.ensures.entries
          c.in_ok-entries-in-Bool.ensures;
    }

pub keep_numbers-requires : goal.keep_numbers-requires
keep_numbers-requires c =
    let made = c.in_ok-entries-in-Uint64.entries in
    let lent = c.lend-lent-in-Uint64 in
    record {
      whole = mxv_made (is_wanted c.args.wanted.now.among c.args.wanted.now.names.now) c.args.semiring domain.Uint64 c.dims-nrows.result.0 c.args.a.now.matrix c.args.u.now.vector (decoded c.lend_matrix-in-Uint64.result.lists.now.entries)
          (entries_of (λ (n : ℕ). value.Uint64 n) lent.result.indices.now lent.result.values.now) (entries_of (λ (n : ℕ). value.Uint64 n) made.indices.items made.values.items)
          c.lend_matrix-in-Uint64.ensures.whole lent.ensures.whole (sym c.domain.ensures.monoid ∙ c.domain.ensures.op) c.requires.a.domain c.requires.u.domain (sym c.requires.a.columns)
          (sym c.in-Uint64.is ∙ c.domain.ensures.op) (ap (λ p. p.0) c.dims-nrows.ensures.dims) c.lend_matrix-in-Uint64.ensures.entries lent.ensures.entries
          c.in_ok-entries-in-Uint64.ensures;
    }
