use Rattle.std.proofs.Common.{◌∙◌, ℕ, List, ap, refl, sym}
use Rattle.std.specs.Prelude.{Some}
use Rattle.grb_kernels.specs.Typed.{entries_of}
use Rattle.grb_ewise.proofs.Made.{entries_are}
use Rattle.grb_sparse.specs.Vector.{SparseVectorView}
use Rattle.grb_core.proofs.Each.{map-each}
use Rattle.grb_maps.specs.Changed.{with_values}
use Rattle.grb_maps.proofs.Changed.{entries-changed}
use Rattle.grb_maps.proofs.Wholes.{vector_whole}
use Rattle.grb_maps.proofs.objects.SparseVectorEachObject.changed.Goals as goal

pub keep_entries-requires-clause-whole : goal.keep_entries-requires-clause-whole
keep_entries-requires-clause-whole g c =
    let u = c.args.a.now.vector in
    let tv = g.T.Scalar.value in
    let gives = g.C.Change.gives c.args.change.now in
    let is = ap (λ (s : List ℕ). entries_of tv s c.in_ok-values.values.items) c.in_ok-indices.ensures
    ∙ entries-changed tv gives c.lend-list.result.indices.now c.lend-list.result.values.now c.in_ok-values.values.items c.lend-list.result.same c.in_ok-values.ensures
    ∙ ap (with_values gives) c.lend-list.ensures.entries in
    vector_whole (λ k v. Some (gives v)) g.T.Scalar.domain c.dims.result u _ c.lend-list.ensures.whole c.dims.ensures.size (is ∙ map-each gives u.entries)
    (entries_are tv g.T.Scalar.domain c.in_ok-indices.indices.items c.in_ok-values.values.items c.as_slice.result.now c.as_slice.ensures.value c.show.ensures)

pub returns : goal.returns
returns g c =
    let u = c.args.a.now.vector in
    let tv = g.T.Scalar.value in
    let gives = g.C.Change.gives c.args.change.now in
    let made = c.in_ok-made.ensures in
    record {
      entries = ap (λ (v : SparseVectorView). v.vector.entries) made
          ∙ ap (λ (s : List ℕ). entries_of tv s c.in_ok-values.values.items) c.in_ok-indices.ensures
          ∙ entries-changed tv gives c.lend-list.result.indices.now c.lend-list.result.values.now c.in_ok-values.values.items c.lend-list.result.same c.in_ok-values.ensures
          ∙ ap (with_values gives) c.lend-list.ensures.entries;
      domain = ap (λ (v : SparseVectorView). v.vector.domain) made ∙ sym c.requires.domain;
      rows = refl;
      columns = ap (λ (v : SparseVectorView). v.vector.size) made ∙ c.dims.ensures.size;
      assembled = ap (λ (v : SparseVectorView). v.assembled) made;
    }
