use Rattle.std.proofs.Common.{◌≡◌, ◌∙◌, sym, ap}
use Rattle.std.specs.Ordering.{nat_cmp}
use Rattle.grb_core.specs.Entries.{VectorEntries}
use Rattle.grb_core.specs.Written.{pointwise}
use Rattle.grb_kernels.specs.Typed.{entries_of}
use Rattle.grb_ewise.proofs.Made.{entries_are, vector_made}
use Rattle.grb_ewise.proofs.objects.SparseVectorSparseObject.merged.Goals as goal

pub keep_entries-requires : goal.keep_entries-requires
keep_entries-requires g c =
    let a = c.args.a.now.vector in
    let b = c.args.b.now.vector in
    let f = g.R.Rule.gives c.args.rule.now in
    let made = c.in_ok-entries.entries in
    let is : entries_of g.T.Scalar.value made.indices.items made.values.items ≡ pointwise nat_cmp f a.entries b.entries =
    c.in_ok-entries.ensures.entries
    ∙ ap (λ (m : VectorEntries). pointwise nat_cmp f m (entries_of g.U.Scalar.value c.lend-2.result.indices.now c.lend-2.result.values.now)) c.lend.ensures.entries
    ∙ ap (pointwise nat_cmp f a.entries) c.lend-2.ensures.entries in
    record {
      same = sym made.same;
      whole = vector_made f g.T.Scalar.domain c.dims.result a b _ c.lend.ensures.whole c.lend-2.ensures.whole c.requires.alike.columns c.dims.ensures.size is made.rising
          (entries_are g.T.Scalar.value g.T.Scalar.domain made.indices.items made.values.items c.as_slice.result.now c.as_slice.ensures.value c.show.ensures);
    }
