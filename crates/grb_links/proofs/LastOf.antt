-- After which calls objects were last changed.
use Rattle.std.proofs.Common.{◌≡◌, ◌⊎◌, inl, inr, ℕ, ◌∙◌, Bool, true, false, if◌then◌else◌, Option, Some, None}
use Rattle.grb_call.specs.Status.{is_same_object}
use Rattle.grb_call.specs.declared.ids.Object.{Object}
use Rattle.grb_links.specs.Lasts.{last_with}

-- by the call that came, or as before
pub last_or : (t : Option Object) (count : ℕ) (f : Object → ℕ) (o : Object) (m : ℕ) {n : ℕ} → m ≡ last_with t count f o → count ≡ n → (m ≡ f o) ⊎ (m ≡ n)
last_or None count f o m e same = inl e
last_or (Some p) count f o m {n = n} e same = by (is_same_object p o) e
  where
    by : (b : Bool) → m ≡ (if b then count else f o) → (m ≡ f o) ⊎ (m ≡ n)
    by true h = inr (h ∙ same)
    by false h = inl h
