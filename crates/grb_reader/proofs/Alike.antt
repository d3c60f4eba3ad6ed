-- What a call explains and counts is a matter of the pass's view and its records: it does not rest on the statuses, nor on what is settled, nor on what was
-- made.
use Rattle.std.proofs.Common.{◌≡◌, ℕ, ◌++◌, inl, inr, sym, subst}
use Rattle.grb_reader.proofs.Prelude.{Err, Refusal, Call, History, Shared, Knowing, Making, known, IsKnown, IsPassOf, Answer, Ground, ByStore, ByRoom, ByMemory, ByRecords, ExplainsAnswer, IsCaughtUp, IsGrounded, ground_of, Counts, CountsCall, IsReady, IsRefused, IsSteady, Learns, LooksAtEnd, StatusRows}

-- a pass of which nothing else changed
abbrev pub with_rest : Knowing → StatusRows → ℕ → Making → Knowing
with_rest p statuses settled made = record p { statuses = statuses; settled = settled; made = made }

module _ (room : ℕ) (old mid : Knowing) (statuses : StatusRows) (settled : ℕ) (made : Making) (c : Call) (r : Answer) where
  grounds_alike : (g : History) (by : Ground) → IsGrounded room old mid c r g by → IsGrounded room old (with_rest mid statuses settled made) c r g by
  grounds_alike g ByStore is = record { answered = is.answered; point = is.point }
  grounds_alike g ByRoom is = is
  grounds_alike g ByMemory is = record { point = is.point; may = is.may }
  grounds_alike g ByRecords (inl is) = inl is
  grounds_alike g ByRecords (inr is) = inr (record { point = is.point; may = is.may })

  pub explains_alike : ExplainsAnswer room old mid c r → ExplainsAnswer room old (with_rest mid statuses settled made) c r
  explains_alike e = record {
    grown = e.grown;
    learnt = e.learnt;
    others = e.others;
    passes = e.passes;
    grounds = grounds_alike (known old ++ e.learnt) (ground_of r) e.grounds;
    known_is = e.known_is;
  }

module _ (mid : Knowing) (statuses : StatusRows) (settled : ℕ) (made : Making) where
  pub caught_up_alike : (by : Ground) → IsCaughtUp by mid → IsCaughtUp by (with_rest mid statuses settled made)
  caught_up_alike ByStore is = is
  caught_up_alike ByRoom is = is
  caught_up_alike ByMemory is = is
  caught_up_alike ByRecords is = is

  pub steady_alike : IsSteady mid → IsSteady (with_rest mid statuses settled made)
  steady_alike is = record { records = is.records; few = is.few; sound = is.sound; others = is.others; small = is.small }

pub counts_alike : (room : ℕ) (old mid : Knowing) (statuses : StatusRows) (settled : ℕ) (made : Making) → CountsCall room old mid → CountsCall room old (with_rest mid statuses settled made)
counts_alike room old mid statuses settled made is = let rise = is.rise in record {
  count = is.count;
  rise = record { lost = rise.lost; rising = rise.rising; looks = rise.looks };
  exact = is.exact;
  full = is.full;
  unshown = is.unshown;
  few = is.few;
  alone = is.alone;
}

pub known_alike : (context : Shared) (mid : Knowing) (statuses : StatusRows) (settled : ℕ) (made : Making) → IsKnown context mid → IsKnown context (with_rest mid statuses settled made)
known_alike context mid statuses settled made is = record {
  records = is.records;
  shown = is.shown;
  passes = is.passes;
  own = is.own;
  few = is.few;
  within = is.within;
  unshown = is.unshown;
}

-- what a pass holds once it has learnt the order to its end
pub record IsAtEnd (context : Shared) (room : ℕ) (old new : Knowing) : Type 0 where
  pub pass : IsPassOf context new
  pub counts : Counts old new
  pub looks : LooksAtEnd room old new
  pub learns : Learns old new
  pub steady : IsSteady new

at_end_made : (context : Shared) (room : ℕ) (old mid : Knowing) (made : Making) → IsAtEnd context room old mid → IsAtEnd context room old (record mid { made = made })
at_end_made context room old mid made is = let l = is.learns in record {
  pass = record { order = is.pass.order; records = is.pass.records };
  counts = is.counts;
  looks = is.looks;
  learns = record { grown = l.grown; own = l.own; learnt = l.learnt; known_is = l.known_is; others = l.others; passes = l.passes; statuses = l.statuses; settled = l.settled };
  steady = steady_alike mid mid.statuses mid.settled made is.steady;
}

refused_made : (room : ℕ) (old mid : Knowing) (made : Making) (c : Call) (r : Refusal) → IsRefused room old mid c r → IsRefused room old (record mid { made = made }) c r
refused_made room old mid made c r is = record {
  grounds = grounds_alike room old mid mid.statuses mid.settled made c (Err r) (known mid) (ground_of (Err r)) is.grounds;
  caught_up = caught_up_alike mid mid.statuses mid.settled made (ground_of (Err r)) is.caught_up;
}

ready_made : (room : ℕ) (mid : Knowing) (made : Making) (c : Call) → IsReady room mid c → IsReady room (record mid { made = made }) c
ready_made room mid made c is = record { all = is.all; looked = is.looked; room_left = is.room_left; unrefused = is.unrefused }

-- and after the evaluation of a build's object, where no more changed than how many calls were made
module _ (context : Shared) (room : ℕ) (old mid new : Knowing) (same : new ≡ record mid { made = new.made }) where
  pub at_end_after : IsAtEnd context room old mid → IsAtEnd context room old new
  at_end_after is = subst (IsAtEnd context room old) (sym same) (at_end_made context room old mid new.made is)

  pub refused_after : (c : Call) (r : Refusal) → IsRefused room old mid c r → IsRefused room old new c r
  refused_after c r is = subst (λ (p : Knowing). IsRefused room old p c r) (sym same) (refused_made room old mid new.made c r is)

  pub ready_after : (c : Call) → IsReady room mid c → IsReady room new c
  ready_after c is = subst (λ (p : Knowing). IsReady room p c) (sym same) (ready_made room mid new.made c is)
