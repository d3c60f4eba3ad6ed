-- inside: no public contract names it. What is left of values where places are passed over, and what changes leave (own): what a total
-- over entries and changes is made of.
use Rattle.std.specs.Prelude.{ℕ, suc, Bool, cond, List, [], ◌∷◌, ◌++◌}
use Rattle.grb_core.specs.declared.value.Value.{Value}
use Rattle.grb_rows.specs.Pending.{Change}
use Rattle.grb_semirings.specs.Products.{list_of}

-- the values whose places do not pass the test, where the first is at place 0
abbrev pub remaining : {V : Type 0} → (ℕ → Bool) → List V → List V
remaining out [] = []
remaining out (v ∷ vs) = cond (out 0) (remaining (λ q. out (suc q)) vs) (v ∷ remaining (λ q. out (suc q)) vs)

-- the values that changes leave, one after another
abbrev pub values_left : List Change → List Value
values_left [] = []
values_left (c ∷ cs) = list_of c.1 ++ values_left cs
