use Rattle.std.proofs.Common.{◌≡◌, ◌++◌, ◌-◌, ℕ, List, Bool, map, take, drop, sym, ap, ◌∙◌}
use Rattle.std.proofs.lemmas.List.{map-append}
use Rattle.grb_core.specs.declared.value.Value.{Value}
use Rattle.grb_core.specs.declared.value.Value.TheVariants as value
use Rattle.grb_lists.specs.Values.{values_list}
use Rattle.grb_lists.proofs.CellLists.{map-part}
use Rattle.grb_lists.proofs.values.Values.append_reserved.Goals as goal

-- a part of other values at the end, where each list is mapped
extended : {A : Type 0} (f : A → Value) (xs ys new : List A) (vs ws : List Value) (s e : ℕ) → new ≡ xs ++ take (e - s) (drop s ys) → vs ≡ map f xs → map f ys ≡ ws → map f new ≡ vs ++ take (e - s) (drop s ws)
extended f xs ys new vs ws s e is old other =
    ap (map f) is
    ∙ map-append f xs (take (e - s) (drop s ys))
    ∙ ap (λ (x : List Value). map f xs ++ x) (map-part f ys s (e - s) ∙ ap (λ (x : List Value). take (e - s) (drop s x)) other)
    ∙ ap (λ (x : List Value). x ++ take (e - s) (drop s ws)) (sym old)

pub returns-in-Bool-clause-list : goal.returns-in-Bool-clause-list
returns-in-Bool-clause-list c =
    extended (λ (b : Bool). value.Bool b) c.in-Bool.bools.items c.bools.result.now c.extend_reserved.new.list.items (values_list c.args.self.now) (values_list c.args.other.now) c.args.start c.args.end c.extend_reserved.ensures.items (ap values_list c.in-Bool.is) c.bools.ensures

pub returns-in-Uint64-clause-list : goal.returns-in-Uint64-clause-list
returns-in-Uint64-clause-list c =
    extended (λ (n : ℕ). value.Uint64 n) c.in-Uint64.numbers.items c.numbers.result.now c.extend_reserved-in-Uint64.new.list.items (values_list c.args.self.now) (values_list c.args.other.now) c.args.start c.args.end c.extend_reserved-in-Uint64.ensures.items (ap values_list c.in-Uint64.is) c.numbers.ensures
