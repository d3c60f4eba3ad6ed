-- believed: Places of objects of one sort: what is stored in them, what waits there, and what a call leaves of one (own).
use Rattle.std.specs.Prelude.{◌≡◌, ℕ, Bool, true, false, List, map, Option, None, IfSome}
use Rattle.std.specs.Option.{option_map}
use Rattle.grb_call.specs.Shapes.{object_at}

-- what the objects of these places store, by what one stores
abbrev pub contents_at : {X Y : Type 0} → (X → Y) → List (Option X) → List (Option Y)
contents_at contents places = map (option_map contents) places

-- no change waits in the object with this number, if it is there
abbrev pub IsAssembledAt : {X : Type 0} → (X → Bool) → List (Option X) → ℕ → Type 0
IsAssembledAt is_assembled places n = IfSome (object_at places n) (λ x. is_assembled x ≡ true)

-- what is left of an object: nothing of one that is ended, and else what is made of it
abbrev pub left_of : {Y : Type 0} → Bool → (Y → Y) → Option Y → Option Y
left_of true after o = None
left_of false after o = option_map after o
