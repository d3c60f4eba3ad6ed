-- believed: What an opening leaves (own): each handle has a new pass of one context, of its own number, under the number that the store was
-- opened with.
use Rattle.std.specs.Prelude.{◌≡◌, ℕ, ◌<◌, ◌≤◌, ◌*◌, List, [], length, slice_index_or, Option, Some, None}
use Rattle.grb_order.specs.declared.limits.TheConstants.{MOST_PASSES, MOST_ROOM, MOST_SEATS}
use Rattle.grb_order.specs.Holding.{TableId}
use Rattle.grb_order.specs.Order.{room_of}
use Rattle.grb_order.specs.View.{fresh}
use Rattle.grb_context.specs.Known.{Shared, Knowing, none_made}
use Rattle.grb_context.specs.Statuses.{no_rows}
use Rattle.grb_c.specs.declared.session.Kind.{Kind}
use Rattle.grb_c.specs.declared.session.Kind.TheVariants as kind
use Rattle.grb_c.specs.Sessions.{Opened}

-- a store may have so much room, and so many passes
pub record IsWithin (room passes : ℕ) : Type 0 where
  pub room_is : (0 < room) × (room ≤ MOST_ROOM)
  pub passes_are : (0 < passes) × (passes ≤ MOST_PASSES)
  pub seats : room * passes ≤ MOST_SEATS

-- the pass of this number, of so many, that knows no call
abbrev pub new_pass : TableId → ℕ → ℕ → Knowing
new_pass order passes number = record { order = order; view = fresh number passes; shown = []; steps = 0; statuses = no_rows (room_of order); settled = 0; made = none_made }

-- a pass of the context, of which this holds; a member of a chain is none
abbrev pub IsPassWith : Shared → (Knowing → Type 0) → Kind → Type 0
IsPassWith context P (kind.Bounded p) = (p.context ≡ context) × P p.pass
IsPassWith context P (kind.Member m) = ⊥

-- the handle has a pass of the context, of which this holds, under this number of its store
abbrev pub Holds : Shared → ℕ → (Knowing → Type 0) → Option Opened → Type 0
Holds context store P (Some s) = (s.store ≡ store) × IsPassWith context P s.kind
Holds context store P None = ⊥

-- each of these, from a place on, has a pass of which this holds with its place
abbrev pub HoldFrom : ℕ → Shared → ℕ → (ℕ → Knowing → Type 0) → List (Option Opened) → Type 0
HoldFrom from context store P hs = (k : ℕ) → from ≤ k → k < length hs → Holds context store (P k) (slice_index_or hs k None)

-- all handles have passes of one context, which has room for so many calls; of each this holds with the context and its place
pub record AreHandedOut (P : Shared → ℕ → Knowing → Type 0) (store room : ℕ) (hs : List (Option Opened)) : Type 0 where
  pub context : Shared
  pub room_is : room_of context.order ≡ room
  pub hold : HoldFrom 0 context store (P context) hs

-- these are the new passes, in the order of their numbers
abbrev pub AreOpened : ℕ → ℕ → List (Option Opened) → Type 0
AreOpened store room hs = AreHandedOut (λ context number p. p ≡ new_pass context.order (length hs) number) store room hs
