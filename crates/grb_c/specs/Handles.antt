-- believed: What an export does with the handles that it is given, of which each has a pass or none (own).
use Rattle.std.specs.Prelude.{◌≡◌, ◌⊎◌, ℕ, ℤ, Bool, not, is_some, List, length, map, Result, Ok, Err}
use Rattle.std.specs.List.{list_all}
use Rattle.grb_core.specs.declared.domain.Domain.TheVariants as domain
use Rattle.grb_call.specs.declared.call.Call.{Call}
use Rattle.grb_context.specs.Explains.{Answer}
use Rattle.grb_c.specs.declared.handle.TrbPass.{TrbPass}
use Rattle.grb_codes.specs.Codes.{out_of_memory}
use Rattle.grb_c.specs.Sessions.{Does, Puts}
use Rattle.grb_c.specs.Succession.{GoesOnFrom}
use Rattle.grb_codes.specs.Arrays.{bool_in, number_in}
use Rattle.grb_c.specs.Tuples.{ReadsAll, ReadsAllOfVector}

-- none of these has a pass
abbrev pub are_none : List TrbPass → Bool
are_none hs = list_all (λ h. not (is_some h.raw.session)) hs

-- A call that is decoded is made, and puts out what its answer says: where a number stands for nothing, the code says so, and nothing else
-- happens
abbrev pub Calls : {X : Type 0} → (Answer → ℤ) → (Answer → X → X) → TrbPass → TrbPass → Result Call ℤ → ℤ → X → X → Type 0
Calls status out old new (Ok c) code before after = Puts status out old.raw.session new.raw.session c code before after
Calls status out old new (Err e) code before after = (code ≡ e) × (new.raw.session ≡ old.raw.session) × (after ≡ before)

-- the same of a call that puts nothing out
abbrev pub Makes : TrbPass → TrbPass → Result Call ℤ → ℤ → Type 0
Makes old new (Ok c) code = Does old.raw.session new.raw.session c code
Makes old new (Err e) code = (code ≡ e) × (new.raw.session ≡ old.raw.session)

-- a build is made as it is decoded, or memory is refused to its list, and nothing else happens
abbrev pub Builds : TrbPass → TrbPass → Result Call ℤ → ℤ → Type 0
Builds old new c code = Makes old new (Err out_of_memory) code ⊎ Makes old new c code

-- a read of all entries of a matrix, of numbers or of truth values
abbrev pub ReadsNumbers : TrbPass → TrbPass → ℕ → ℤ → List ℕ → List ℕ → List ℕ → ℕ → List ℕ → List ℕ → List ℕ → ℕ → Type 0
ReadsNumbers old new = ReadsAll domain.Uint64 number_in old.raw.session new.raw.session

abbrev pub ReadsBools : TrbPass → TrbPass → ℕ → ℤ → List ℕ → List ℕ → List Bool → ℕ → List ℕ → List ℕ → List Bool → ℕ → Type 0
ReadsBools old new = ReadsAll domain.Bool bool_in old.raw.session new.raw.session

-- the same of a vector
abbrev pub ReadsNumbersOfVector : TrbPass → TrbPass → ℕ → ℤ → List ℕ → List ℕ → ℕ → List ℕ → List ℕ → ℕ → Type 0
ReadsNumbersOfVector old new = ReadsAllOfVector domain.Uint64 number_in old.raw.session new.raw.session

abbrev pub ReadsBoolsOfVector : TrbPass → TrbPass → ℕ → ℤ → List ℕ → List Bool → ℕ → List ℕ → List Bool → ℕ → Type 0
ReadsBoolsOfVector old new = ReadsAllOfVector domain.Bool bool_in old.raw.session new.raw.session

-- handles go on from the store that all calls leave which the pass of another knows
abbrev pub Succeeds : ℕ → ℕ → TrbPass → ℤ → ℕ → ℕ → List TrbPass → Type 0
Succeeds store room old code before after hs = GoesOnFrom store room (length hs) old.raw.session code before after (map (λ h. h.raw.session) hs)
