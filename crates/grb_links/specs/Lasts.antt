-- believed: After how many calls each object was last changed, by its number (own).
use Rattle.std.specs.Prelude.{◌≡◌, ℕ, ◌<◌, if◌then◌else◌, List, [], ◌∷◌, length, Option, Some, None, slice_get}
use Rattle.std.specs.Option.{option_map_or}
use Rattle.grb_call.specs.declared.ids.Object.{Object}
use Rattle.grb_call.specs.Status.{is_same_object}
use Rattle.grb_call.specs.declared.ids.Object.TheVariants as object
use Rattle.grb_links.specs.declared.lasts.Lasts.{Lasts}

abbrev pub last_in : List ℕ → ℕ → ℕ
last_in lasts n = option_map_or (λ count. count) (slice_get lasts n) 0

abbrev pub last_of : Lasts → Object → ℕ
last_of l (object.Matrix a) = last_in l.matrices.items a.0
last_of l (object.Vector v) = last_in l.vectors.items v.0

-- there is a place for the object
abbrev pub HasPlace : Lasts → Object → Type 0
HasPlace l (object.Matrix a) = a.0 < length l.matrices.items
HasPlace l (object.Vector v) = v.0 < length l.vectors.items

-- after how many calls each object was last changed, where a call with this target came as the one of this number
abbrev pub last_with : Option Object → ℕ → (Object → ℕ) → Object → ℕ
last_with None count before o = before o
last_with (Some p) count before o = if is_same_object p o then count else before o

-- these are the numbers of the objects, and 0 behind them
abbrev pub AreLinks : (Object → ℕ) → List Object → List ℕ → Type 0
AreLinks f [] [] = Unit {0}
AreLinks f [] (m ∷ ms) = (m ≡ 0) × AreLinks f [] ms
AreLinks f (o ∷ os) [] = ⊥
AreLinks f (o ∷ os) (m ∷ ms) = (m ≡ f o) × AreLinks f os ms
