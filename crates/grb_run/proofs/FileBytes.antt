-- What a reader gave that was read for one byte more than a limit.
use Rattle.std.proofs.Common.{◌≡◌, ◌∙◌, ℕ, ◌+◌, ◌≤◌, List, ◌++◌, length, take, Option, None, Some, arith, true, []}
use Rattle.grb_run.proofs.Prelude.{Err, IfSome, Ok, OnOk, Result, is_ok, length-take, take_all}
use Rattle.std.specs.Prelude.{option_map}

whole_at_most : (told : Option (List ℕ)) (limit : ℕ) (bytes : List ℕ) → IfSome (option_map (take (limit + 1)) told) (λ xs. bytes ≡ xs)
    → length bytes ≤ limit → IfSome told (λ xs. bytes ≡ xs)
whole_at_most None limit bytes given within = tt
whole_at_most (Some xs) limit bytes given within =
    let most : length (take (limit + 1) xs) ≤ limit = rw (← given) within in
    let lengths = length-take (limit + 1) xs in
    given ∙ take_all (limit + 1) xs (omega (arith, most, lengths))

-- where that byte is missing, it gave all of its bytes
pub whole_below_limit : {E : Type 0} (r : Result ℕ E) (told : Option (List ℕ)) (limit : ℕ) (old new : List ℕ) → is_ok r ≡ true → old ≡ []
    → OnOk r (IfSome (option_map (take (limit + 1)) told) (λ xs. new ≡ old ++ xs)) → length new ≤ limit → IfSome told (λ xs. new ≡ xs)
whole_below_limit (Err e) told limit old new ok empty given within = cc
whole_below_limit (Ok n) told limit old new ok empty given within = whole_at_most told limit new (rw empty at given) within
