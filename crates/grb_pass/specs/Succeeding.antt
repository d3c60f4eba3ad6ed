-- believed: What the passes of a successor begin with (own): the calls that make a store anew, all of its first pass, and no others.
use Rattle.std.specs.Prelude.{◌≡◌, ℕ, List, map, length, All, Some, slice_get}
use Rattle.grb_order.specs.Order.{room_of}
use Rattle.grb_call.specs.declared.call.Call.{Call}
use Rattle.grb_call.specs.Store.{Store}
use Rattle.grb_call.specs.History.{History, store_of}
use Rattle.grb_call.specs.Statuses.{no_rows}
use Rattle.grb_rebuild.specs.Rebuilt.{rebuilt}
use Rattle.grb_reader.specs.Known.{Shared, Knowing, IsPassOf, known, none_made}

-- the history of these calls, made by one pass
abbrev pub made_by : ℕ → List Call → History
made_by number cs = map (λ c. (number, c)) cs

-- the history that a successor with this store begins with
abbrev pub begun : Store → History
begun s = made_by 0 (rebuilt s)

-- a pass of the context, with this number, that has no status, settled no call, and counts no step and no call that it made
pub record IsOpened (context : Shared) (number : ℕ) (p : Knowing) : Type 0 where
  pub pass : IsPassOf context p
  pub number_is : p.view.number ≡ number
  pub statuses : p.statuses ≡ no_rows (room_of context.order)
  pub settled : p.settled ≡ 0
  pub steps : p.steps ≡ 0
  pub made : p.made ≡ none_made

-- such a pass of a store that as many passes share as this one's
pub record IsOpenedWith (context : Shared) (first : Knowing) (number : ℕ) (p : Knowing) : Type 0 where
  pub opened : IsOpened context number p
  pub passes : p.view.passes ≡ first.view.passes

-- a pass that knows the calls that make this store anew, and no others, and so has this store
pub record BeginsWith (context : Shared) (s : Store) (number : ℕ) (p : Knowing) : Type 0 where
  pub opened : IsOpened context number p
  pub known_is : known p ≡ begun s
  pub store_is : store_of (known p) ≡ s

-- so many passes, by their numbers, all of which begin with this store; each knows how many they are
pub record AreBegun (context : Shared) (s : Store) (passes : ℕ) (opened : List Knowing) : Type 0 where
  pub count : length opened ≡ passes
  pub passes_are : All (λ p. p.view.passes ≡ passes) opened
  pub each : (number : ℕ) (p : Knowing) → slice_get opened number ≡ Some p → BeginsWith context s number p
