use Rattle.std.proofs.Common.{ℕ, sym, ap, ◌∙◌, Ok, Err, arith, inl, inr}
use Rattle.std.proofs.lemmas.Bool.{cases_lt}
use Rattle.std.proofs.lemmas.List.Sorted.{searched}
use Rattle.grb_numbers.specs.Numbers.{place_of}
use Rattle.grb_numbers.proofs.Lists.{place-at, place-absent, rise-steps}
use Rattle.grb_numbers.proofs.carried.place_in.Goals as goal

pub returns-in-Ok : goal.returns-in-Ok
returns-in-Ok c =
    let numbers = c.args.numbers.now in
    let found = searched numbers c.args.number (Ok c.in-Ok.place) c.in-Ok.ensures.position (rise-steps numbers c.requires) in
    sym (ap (λ (k : ℕ). place_of k numbers) (sym found.1) ∙ place-at numbers c.in-Ok.place c.requires found.0)

pub returns-in-Err : goal.returns-in-Err
returns-in-Err c =
    let numbers = c.args.numbers.now in let place = c.in-Err.field-0 in let number = c.args.number in
    let places = searched numbers number (Err place) c.in-Err.ensures.position (rise-steps numbers c.requires) in
    sym (place-absent number numbers (λ k lt e. elim (cases_lt k place) as (λ _. ⊥) [
      | inl before ↦ let below = places.1 k before in omega arith
      | inr after ↦ let above = places.2 k after lt in omega arith
    ]))
