use Rattle.std.proofs.Common.{◌≡◌, ℕ, Bool, ap, sym, ◌∙◌}
use Rattle.std.specs.Prelude.{if◌then◌else◌}
use Rattle.grb_core.specs.declared.domain.Domain.TheVariants as domain
use Rattle.grb_core.specs.declared.value.Value.TheVariants as value
use Rattle.grb_kernels.specs.Typed.{entries_of}
use Rattle.grb_lists.specs.Cells.{decoded}
use Rattle.grb_push.specs.Wanted.{is_wanted}
use Rattle.grb_pull.proofs.WantedResults.{row_folds_made}
use Rattle.grb_pull.proofs.reduce_folds.row_folds.Goals as goal

pub keep_bools-requires : goal.keep_bools-requires
keep_bools-requires c =
    let made = c.in_ok-entries-in-Bool.entries in
    let a = c.args.a.now.matrix in
    let rows : c.turned_rows-size.result ≡ (if c.args.tran then a.ncols else a.nrows) =
    c.turned_rows-size.ensures ∙ ap (λ n. if c.args.tran then n else c.dims-nrows.result.0) (ap (λ p. p.1) c.dims-nrows.ensures.dims) ∙ ap (λ n. if c.args.tran then a.ncols else n) (ap (λ p. p.0) c.dims-nrows.ensures.dims) in
    record {
      whole = row_folds_made (is_wanted c.args.wanted.now.among c.args.wanted.now.names.now) c.args.tran c.args.monoid domain.Bool c.turned_rows-size.result a (decoded c.lend_matrix.result.lists.now.entries)
          (entries_of (λ (b : Bool). value.Bool b) made.indices.items made.values.items) c.lend_matrix.ensures.whole c.requires.domain
          (sym c.in-Bool.is ∙ c.domain.ensures) rows c.lend_matrix.ensures.entries
          c.in_ok-entries-in-Bool.ensures;
    }

pub keep_numbers-requires : goal.keep_numbers-requires
keep_numbers-requires c =
    let made = c.in_ok-entries-in-Uint64.entries in
    let a = c.args.a.now.matrix in
    let rows : c.turned_rows-size.result ≡ (if c.args.tran then a.ncols else a.nrows) =
    c.turned_rows-size.ensures ∙ ap (λ n. if c.args.tran then n else c.dims-nrows.result.0) (ap (λ p. p.1) c.dims-nrows.ensures.dims) ∙ ap (λ n. if c.args.tran then a.ncols else n) (ap (λ p. p.0) c.dims-nrows.ensures.dims) in
    record {
      whole = row_folds_made (is_wanted c.args.wanted.now.among c.args.wanted.now.names.now) c.args.tran c.args.monoid domain.Uint64 c.turned_rows-size.result a (decoded c.lend_matrix-in-Uint64.result.lists.now.entries)
          (entries_of (λ (n : ℕ). value.Uint64 n) made.indices.items made.values.items) c.lend_matrix-in-Uint64.ensures.whole c.requires.domain
          (sym c.in-Uint64.is ∙ c.domain.ensures) rows c.lend_matrix-in-Uint64.ensures.entries
          c.in_ok-entries-in-Uint64.ensures;
    }
