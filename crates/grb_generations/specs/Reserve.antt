-- believed: What is kept back of the room of a chain's stores (own): a call that makes an object is taken where the next generation has room
-- for all objects that there can be then; no other call is held back.
use Rattle.std.specs.Prelude.{ℕ, ◌+◌, ◌-◌, ◌*◌, ◌/◌, ◌≤◌, length, min}
use Rattle.grb_order.specs.declared.limits.TheConstants.{MOST_PLACES, MOST_WORDS}
use Rattle.grb_call.specs.History.{History, store_of}
use Rattle.grb_generations.specs.Chain.{Chain}

-- how many objects there can be where a history of this room ends that begins with this one: those that were made, and one for each call
-- that it takes yet
abbrev pub most_objects : ℕ → History → ℕ
most_objects room h = length (store_of h).matrices + length (store_of h).vectors + (room - length h)

-- the most words of a store that so many share
abbrev pub most_words : ℕ → ℕ
most_words members = min MOST_WORDS (MOST_PLACES / members)

-- the next generation has room for all of them, with two calls for each, and for the chain's room beside these
abbrev pub HasPlace : Chain → ℕ → History → Type 0
HasPlace chain room h = 2 * most_objects room h + chain.room ≤ most_words chain.members
