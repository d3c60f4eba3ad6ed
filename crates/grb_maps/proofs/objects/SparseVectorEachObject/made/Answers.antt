use Rattle.std.proofs.Common.{◌≡◌, ◌∙◌, ap, refl, sym}
use Rattle.grb_sparse.specs.Vector.{SparseVectorView}
use Rattle.grb_kernels.specs.Typed.{entries_of}
use Rattle.grb_ewise.proofs.Made.{entries_are}
use Rattle.grb_core.specs.Each.{each_made}
use Rattle.grb_core.proofs.Each.{each-same}
use Rattle.grb_maps.proofs.Wholes.{vector_whole}
use Rattle.grb_maps.proofs.objects.SparseVectorEachObject.made.Goals as goal

pub keep_entries-requires : goal.keep_entries-requires
keep_entries-requires g c =
    let u = c.args.a.now.vector in
    let made = c.in_ok-list.list in
    let gives = g.E.Each.row_gives c.args.each.now in
    let is : entries_of g.T.Scalar.value made.indices.items made.values.items ≡ each_made (λ j v. gives 0 j v) u.entries =
    c.in_ok-list.ensures
    ∙ ap (each_made (g.E.Each.gives c.in_row-here.result)) c.lend.ensures.entries
    ∙ each-same _ (λ j v. gives 0 j v) c.in_row-here.ensures u.entries in
    record {
      same = sym made.same;
      whole = vector_whole (λ j v. gives 0 j v) g.T.Scalar.domain c.dims.result u _ c.lend.ensures.whole c.dims.ensures.size is
          (entries_are g.T.Scalar.value g.T.Scalar.domain made.indices.items made.values.items c.as_slice.result.now c.as_slice.ensures.value c.show.ensures);
    }

pub returns : goal.returns
returns g c =
    let u = c.args.a.now.vector in
    let gives = g.E.Each.row_gives c.args.each.now in
    let made = c.in_ok-made.ensures in
    record {
      entries = ap (λ (v : SparseVectorView). v.vector.entries) made ∙ c.in_ok-list.ensures
          ∙ ap (each_made (g.E.Each.gives c.in_row-here.result)) c.lend.ensures.entries
          ∙ each-same _ (λ j v. gives 0 j v) c.in_row-here.ensures u.entries;
      domain = ap (λ (v : SparseVectorView). v.vector.domain) made ∙ sym c.requires.domain;
      rows = refl;
      columns = ap (λ (v : SparseVectorView). v.vector.size) made ∙ c.dims.ensures.size;
      assembled = ap (λ (v : SparseVectorView). v.assembled) made;
    }
