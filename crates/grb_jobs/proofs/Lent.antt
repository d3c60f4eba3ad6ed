-- A mask that is lent, if there is one, and what is seen of it.
use Rattle.std.proofs.Common.{◌≡◌, refl, Option, Some, None, IfSome}
use Rattle.std.specs.Option.{option_map}

module _ {B V : Type 0} (now : B → V) (P : V → Type 0) where
  -- what holds of what is seen of it holds of it
  pub of_lent : (mask : Option B) → IfSome (option_map now mask) P → IfSome mask (λ m. P (now m))
  of_lent None h = tt
  of_lent (Some m) h = h

  -- and back
  pub of_seen : (mask : Option B) → IfSome mask (λ m. P (now m)) → IfSome (option_map now mask) P
  of_seen None h = tt
  of_seen (Some m) h = h

-- two maps of an option, one after the other
pub mapped_twice : {X Y Z : Type 0} (f : X → Y) (g : Y → Z) (o : Option X) → option_map g (option_map f o) ≡ option_map (λ x. g (f x)) o
mapped_twice f g None = refl
mapped_twice f g (Some x) = refl
