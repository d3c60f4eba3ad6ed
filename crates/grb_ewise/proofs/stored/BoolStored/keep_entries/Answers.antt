use Rattle.std.proofs.Common.{◌≡◌, Bool, true, sym, subst}
use Rattle.std.specs.Prelude.{IfOk}
use Rattle.grb_core.specs.declared.domain.Domain.TheVariants as domain
use Rattle.grb_core.specs.declared.value.Value.TheVariants as value
use Rattle.grb_core.specs.Entries.{VectorEntries}
use Rattle.grb_sparse.specs.Vector.{SparseVectorView}
use Rattle.grb_ewise.proofs.Lent.{entries-paired}
use Rattle.grb_ewise.proofs.Whole.{vector_of, whole-same}
use Rattle.grb_ewise.proofs.stored.BoolStored.keep_entries.Goals as goal

pub from_bools-requires-clause-whole : goal.from_bools-requires-clause-whole
from_bools-requires-clause-whole c =
    whole-same domain.Bool c.args.size _ _ (sym (entries-paired (λ (x : Bool). value.Bool x) c.args.indices.items c.args.values.items)) c.requires.whole

pub returns : goal.returns
returns c =
    subst (λ (m : VectorEntries). IfOk c.from_bools.result (λ (v : SparseVectorView). v ≡ record { vector = vector_of domain.Bool c.args.size m; assembled = true; reserved = 0; pending = 0 }))
    (sym (entries-paired (λ (x : Bool). value.Bool x) c.args.indices.items c.args.values.items)) c.from_bools.ensures
