use Rattle.std.proofs.Common.{◌≡◌, ℕ, length, sym, subst, arith}
use Rattle.std.specs.Prelude.{map}
use Rattle.std.proofs.lemmas.List.{length-map}
use Rattle.grb_core.specs.declared.domain.Domain.{Domain}
use Rattle.grb_core.specs.declared.domain.Domain.TheVariants as domain
use Rattle.grb_core.specs.declared.value.Value.TheVariants as value
use Rattle.grb_core.specs.Entries.{VectorEntries}
use Rattle.grb_core.specs.Contents.{IsVector}
use Rattle.grb_sparse.proofs.OfArrays.{is_vector-arrays, values_of_items}
use Rattle.grb_sparse.proofs.vector.SparseVector.of_numbers.Goals as goal

pub from_row-vector-requires : goal.from_row-vector-requires
from_row-vector-requires c =
    let is = c.args.indices.now in
    let xs = c.args.numbers.now in
    let vs = map (λ x. value.Uint64 x) xs in
    let long = length-map xs (λ (x : ℕ). value.Uint64 x) in
    let many : length vs ≡ length is = omega (arith, long, c.requires) in
    record {
      whole = subst (λ (l : Domain × VectorEntries). IsVector (record { domain = l.0; size = c.in-Some.size; entries = l.1 }))
          (λ i. (sym c.in_ok-row.ensures.domain i, sym c.in_ok-row.ensures.entries i))
          (is_vector-arrays domain.Uint64 is vs many (values_of_items domain.Uint64 (λ x. value.Uint64 x) xs 0 (λ k. (c.type_inv.numbers k).fits)) c.in-Some.ensures.rising c.in-Some.size c.in-Some.ensures.size.0 c.in-Some.ensures.size.1);
    }
