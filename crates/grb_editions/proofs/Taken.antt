-- Results of the first of some calls are results of these calls.
use Rattle.std.proofs.Common.{◌≡◌, ◌<◌, ◌≤◌, List, length, take, refl, sym, ap, ◌∙◌, arith}
use Rattle.std.proofs.lemmas.List.{take-take}
use Rattle.std.proofs.lemmas.List.Elements.{All-weaker}
use Rattle.grb_call.specs.declared.call.Call.{Call}
use Rattle.grb_results.specs.declared.exchange.Kept.{Kept}
use Rattle.grb_results.specs.declared.table.Table.{Table}
use Rattle.grb_results.specs.Kept.{AreKept, IsKeptOf, IsSameBut}
use Rattle.grb_results.specs.Results.{AreOneHistory}
use Rattle.grb_results.proofs.Frame.{same_result}

module _ (cs ds : List Call) (same : take (length ds) cs ≡ ds) (within : length ds ≤ length cs) where
  one_history : AreOneHistory cs ds
  one_history n mine theirs = sym (take-take n (length ds) cs theirs) ∙ ap (λ (xs : List Call). take n xs) same

  kept_in : (k : Kept) → IsKeptOf ds k → IsKeptOf cs k
  kept_in k is =
      let near : k.at < length ds = is.within in let in_all : k.at < length cs = omega (arith, near, within) in
      record { within = in_all; result = same_result cs ds one_history k.at in_all near k.content is.result }

  pub kept_on : (ks : List Kept) → AreKept ds ks → AreKept cs ks
  kept_on ks are = All-weaker (IsKeptOf ds) (IsKeptOf cs) kept_in ks are

-- a table that stays
pub same_still : (t : Table) → IsSameBut t t
same_still t = record { learnt = refl; made = refl }

pub same_then : (s t u : Table) → IsSameBut s t → IsSameBut t u → IsSameBut s u
same_then s t u first next = record { learnt = next.learnt ∙ first.learnt; made = next.made ∙ first.made }
