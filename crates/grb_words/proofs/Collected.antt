-- What `collect` and `extend` give, where a view reads each item.
use Rattle.std.proofs.Common.{◌≡◌, List, Option, Result, Ok, Err, map, ap, ◌∙◌}
use Rattle.std.specs.Prelude.{IfOk, OnOk}
use Rattle.std.specs.Result.{MatchResult}
use Rattle.std.specs.Iterator.{Yields, Drains, DrainsIf}
use Rattle.std.proofs.lemmas.Iterator.{YieldsList, items_from_drains}
use Rattle.std.proofs.lemmas.Iterator.Adapters.{fact_from_extend}
use Rattle.std.proofs.lemmas.Iterator.Consumers.{YieldsList-at}

pub viewed_from_collect : {S A B V E : Type 0} {steps : S → Option A → S → Type 0} {v : A → B} {s : S} {all : List B} (items : V → List A) (r : Result V E)
    → IfOk r (λ w. (xs : List A) × DrainsIf steps (Unit {0}) s xs × (items w ≡ xs)) → YieldsList steps v s all → IfOk r (λ w. map v (items w) ≡ all)
viewed_from_collect {v = v} items (Ok w) ran road = ap (map v) ran.2 ∙ items_from_drains ran.0 ran.1 road
viewed_from_collect items (Err e) ran road = tt

pub viewed_from_extend : {S A B E Q : Type 0} {steps : S → Option A → S → Type 0} {v : A → B} {s : S} {all : List B} {P : List A → Type 0} (r : Result (Unit {0}) E)
    → ((it : S) × (xs : List A) × (it ≡ s) × P xs × MatchResult r (λ _. Drains steps it xs) (λ _. (t : S) × Yields steps it xs t)) → YieldsList steps v s all
    → ((xs : List A) → map v xs ≡ all → P xs → Q) → OnOk r Q
viewed_from_extend {v = v} r ran road follows = fact_from_extend v r ran (λ it same. YieldsList-at same road) follows
