use Rattle.std.proofs.Common.{◌≡◌, ◌<◌, ◌∙◌, subst, sym, Option, ℕ}
use Rattle.std.specs.Prelude.{map, All, IfSome}
use Rattle.grb_core.specs.declared.value.Value.TheVariants as value
use Rattle.grb_core.specs.Entries.{VectorEntries}
use Rattle.grb_sparse.specs.Arrays.{paired}
use Rattle.test_histories.proofs.Below.{paired-below}
use Rattle.test_histories.proofs.tuples.apart_numbers.Goals as goal

pub from_apart-requires : goal.from_apart-requires
from_apart-requires c =
    let is = c.args.indices.now in
    let vs = map (λ (n : ℕ). value.Uint64 n) c.args.numbers.now in
    let tuples : c.in-Some.list ≡ paired is vs =
    subst (λ (made : Option VectorEntries). IfSome made (λ t. t ≡ paired is vs)) c.in-Some.is c.in_ok-list.ensures.tuples in
    let within : All (λ (i : ℕ). i < 4294967296) is =
    subst (λ (made : Option VectorEntries). IfSome made (λ t. All (λ (i : ℕ). i < 4294967296) is)) c.in-Some.is c.in_ok-list.ensures.within in
    record {
      fit = subst (λ (t : VectorEntries). All (λ e. e.0 < 4294967296) t) (sym (c.in_ok-new-in-Some.ensures.ok ∙ tuples)) (paired-below is vs within);
    }
