use Rattle.std.proofs.Common.{◌≡◌, ◌∙◌, ap, subst, Option}
use Rattle.std.specs.Prelude.{map, IfSome}
use Rattle.grb_sparse.specs.Arrays.{paired}
use Rattle.grb_sparse.specs.Vector.{SparseVectorView}
use Rattle.grb_codes.proofs.Arrays.{paired-arrays}
use Rattle.grb_codes.proofs.builds.vector_tuples.Goals as goal

pub returns-in_ok-new-in-Some : goal.returns-in_ok-new-in-Some
returns-in_ok-new-in-Some g c =
    let is = c.args.indices.now in
    let xs = c.args.values.now in
    let entries : c.in-Some.vector.vector.entries ≡ paired is (map g.T.Item.value xs) =
    subst (λ (made : Option SparseVectorView). IfSome made (λ v. v.vector.entries ≡ paired is (map g.T.Item.value xs))) c.in-Some.is c.in_ok-vector.ensures.entries in
    c.from_vector.ensures
    ∙ ap (λ (v : SparseVectorView). v.vector.entries) c.in_ok-new-in-Some.ensures.ok
    ∙ entries
    ∙ paired-arrays g.T.Item.value is xs
