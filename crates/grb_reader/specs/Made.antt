-- believed: Which calls are answered without that a call of the history is made for it (own).
use Rattle.std.specs.Prelude.{◌≡◌, ℕ, ◌≤◌, true, false, length, Some, ◌⊎◌}
use Rattle.grb_core.specs.declared.refusal.Refusal.{Refusal}
use Rattle.grb_call.specs.declared.call.Call.{Call}
use Rattle.grb_call.specs.Kinds.{enters, is_build, is_size}
use Rattle.grb_call.specs.Refused.{refused_by_shapes}
use Rattle.grb_call.specs.Store.{shapes_of}
use Rattle.grb_call.specs.History.{History, store_of}

-- of those that only read: one for dimensions, one that shapes refuse, and each where all known calls are settled
abbrev pub ReadsNone : ℕ → History → Call → Type 0
ReadsNone settled g c = (is_size c ≡ true) ⊎ ((r : Refusal) × (refused_by_shapes (shapes_of (store_of g)) c ≡ Some r)) ⊎ (length g ≤ settled)

-- such a one, or one that enters and is no build, where so many calls were settled before it and g is known after it
abbrev pub MakesNone : ℕ → History → Call → Type 0
MakesNone settled g c = ((enters c ≡ true) × (is_build c ≡ false)) ⊎ ((enters c ≡ false) × ReadsNone settled g c)
