use Rattle.std.proofs.Common.{◌≡◌, ◌<◌, ◌∙◌, subst, sym, Option, ℕ}
use Rattle.std.specs.Prelude.{map, All, IfSome}
use Rattle.grb_core.specs.Entries.{VectorEntries}
use Rattle.grb_sparse.specs.Arrays.{paired}
use Rattle.grb_codes.proofs.Arrays.{paired-arrays, paired-below}
use Rattle.grb_codes.proofs.builds.unordered_indices.Goals as goal

pub from_apart-requires : goal.from_apart-requires
from_apart-requires g c =
    let is = c.args.indices.now in
    let vs = map g.T.Item.value c.args.values.now in
    let tuples : c.in-Some.list ≡ paired is vs =
    subst (λ (made : Option VectorEntries). IfSome made (λ t. t ≡ paired is vs)) c.in-Some.is c.in_ok-list.ensures.tuples in
    let within : All (λ (i : ℕ). i < 4294967296) is =
    subst (λ (made : Option VectorEntries). IfSome made (λ t. All (λ (i : ℕ). i < 4294967296) is)) c.in-Some.is c.in_ok-list.ensures.within in
    record {
      fit = subst (λ (t : VectorEntries). All (λ e. e.0 < 4294967296) t) (sym (c.in_ok-new-in-Some.ensures.ok ∙ tuples)) (paired-below is vs within);
    }

pub returns-in_ok-new-in-Some : goal.returns-in_ok-new-in-Some
returns-in_ok-new-in-Some g c =
    let is = c.args.indices.now in
    let xs = c.args.values.now in
    let tuples : c.in-Some.list ≡ paired is (map g.T.Item.value xs) =
    subst (λ (made : Option VectorEntries). IfSome made (λ t. t ≡ paired is (map g.T.Item.value xs))) c.in-Some.is c.in_ok-list.ensures.tuples in
    c.from_apart.ensures
    ∙ c.in_ok-new-in-Some.ensures.ok
    ∙ tuples
    ∙ paired-arrays g.T.Item.value is xs
