-- believed: What a handle's successor is (own): a store that begins as the pass leaves the old one, or the reason why there is none.
use Rattle.std.specs.Prelude.{◌≡◌, ◌⊎◌, ℕ, ℤ, true, List, Option, Some, None}
use Rattle.grb_call.specs.Store.{Store}
use Rattle.grb_call.specs.History.{store_of}
use Rattle.grb_rebuild.specs.declared.rebuild.NoSuccessor.{NoSuccessor}
use Rattle.grb_rebuild.specs.declared.rebuild.NoSuccessor.TheVariants as no
use Rattle.grb_context.specs.Known.{known}
use Rattle.grb_context.specs.Chosen.{IsNoSuccessor, room_beside}
use Rattle.grb_context.specs.Succeeding.{BeginsWith}
use Rattle.grb_codes.specs.Codes.{insufficient_space, invalid_value, out_of_memory, panic, success, uninitialized_object}
use Rattle.grb_c.specs.Opening.{AreHandedOut}
use Rattle.grb_c.specs.Kinds.{is_member}
use Rattle.grb_c.specs.declared.session.Kind.{Kind}
use Rattle.grb_c.specs.declared.session.Kind.TheVariants as kind
use Rattle.grb_c.specs.Sessions.{Goes, KnowsNow, LooksIn, Opened}

-- the status where there is no successor
abbrev pub no_successor_code : NoSuccessor → ℤ
no_successor_code (no.RoomTooSmall needed) = insufficient_space
no_successor_code no.OutOfMemory = out_of_memory
no_successor_code (no.Unmade o) = out_of_memory
no_successor_code no.Panic = panic

-- how many calls make the new store, where no history has room for all
abbrev pub needed_out : NoSuccessor → ℕ → ℕ
needed_out (no.RoomTooSmall needed) before = needed
needed_out _ before = before

-- all handles have passes that begin with this store, each of its own number
pub record IsSucceeded (store room : ℕ) (s : Store) (code : ℤ) (before after : ℕ) (hs : List (Option Opened)) : Type 0 where
  pub code_is : code ≡ success
  pub needed_is : after ≡ before
  pub passes : AreHandedOut (λ context. BeginsWith context s) store room hs

-- there is no successor, for this reason
pub record IsNotSucceeded (room passes : ℕ) (s : Store) (code : ℤ) (before after : ℕ) : Type 0 where
  pub why : NoSuccessor
  pub holds : IsNoSuccessor room passes s why
  pub code_is : code ≡ no_successor_code why
  pub needed_is : after ≡ needed_out why before

-- the one, in a history with so much room beside what begins it, or the other
abbrev pub GoesOn : ℕ → ℕ → ℕ → Store → ℤ → ℕ → ℕ → List (Option Opened) → Type 0
GoesOn store room passes s code before after hs = IsSucceeded store (room_beside s room) s code before after hs ⊎ IsNotSucceeded room passes s code before after

-- the same of the store that all calls leave which a pass knows; a chain goes on by itself, and has no successor
abbrev pub GoesOnFromKind : ℕ → ℕ → ℕ → Kind → ℤ → ℕ → ℕ → List (Option Opened) → Type 0
GoesOnFromKind store room passes (kind.Bounded p) code before after hs = GoesOn store room passes (store_of (known p.pass)) code before after hs
GoesOnFromKind store room passes (kind.Member m) code before after hs = (code ≡ invalid_value) × (after ≡ before)

-- so by a handle; or there is no pass
abbrev pub GoesOnFrom : ℕ → ℕ → ℕ → Option Opened → ℤ → ℕ → ℕ → List (Option Opened) → Type 0
GoesOnFrom store room passes (Some s) code before after hs = GoesOnFromKind store room passes s.kind code before after hs
GoesOnFrom store room passes None code before after hs = (code ≡ uninitialized_object) × (after ≡ before)

-- A handle looks before it goes on in a successor, by the pass of a bounded store; a member is refused, and nothing of it changes. Where
-- there is a successor, it knows all that the history held at one step in between; or there is no pass
abbrev pub LooksToSucceed : ℤ → Option Opened → Option Opened → Type 0
LooksToSucceed code None new = new ≡ None
LooksToSucceed code (Some old) (Some new) = Goes LooksIn (λ o n. n ≡ o) old new × (code ≡ success → KnowsNow old new)
LooksToSucceed code (Some old) None = ⊥

-- the handle has a member of a chain
abbrev pub IsLinked : Option Opened → Type 0
IsLinked (Some s) = is_member s.kind ≡ true
IsLinked None = ⊥
