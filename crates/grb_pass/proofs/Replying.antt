-- The reply to a call that only reads one object.
use Rattle.std.proofs.Common.{◌≡◌, ℕ, ◌<◌, ◌≤◌, ◌⊎◌, inl, inr, Bool, true, false, if◌then◌else◌, length, sym, ap, subst, ◌∙◌, Some, None}
use Rattle.grb_pass.proofs.Prelude.{IfSome, Result, Ok, Err, IsErr, same_Some, Call, Object, refused, reply_of, calls_of, store_of, enters, is_size, is_live, Store, shapes_of, IsKept, IsTableOf, ReadsObject, Table, IsEvaluatedFor, LiesReadyAfter, Knowing, known, is_materialize, waited_for}
use Rattle.std.specs.declared.alloc.AllocError.{AllocError}
use Rattle.std.proofs.lemmas.Bool.{and_parts}
use Rattle.grb_call.specs.declared.call.Call.TheVariants as call
use Rattle.grb_call.specs.declared.reply.Reply.{Reply}
use Rattle.grb_call.specs.Status.{object_of}
use Rattle.grb_call.proofs.Passed.{has_passed}
use Rattle.grb_results.specs.Kept.{IsReady}
use Rattle.grb_pass.specs.Given.{IsGiven}
use Rattle.grb_pass.proofs.Evaluating.{le_or_lt}
use Rattle.grb_pass.proofs.Held.{live_here}

-- a call that reads an object and is not refused reads one that is there
module _ (s : Store) where
  abbrev IsThere : Object → Type 0
  IsThere o = is_live (shapes_of s) o ≡ true

  there : (c : Call) (o : Object) → enters c ≡ false → is_size c ≡ false → object_of c ≡ Some o → refused s c ≡ None → IsThere o
  there (call.GetMatrix a i j) o reads no_size about accepted = subst IsThere (same_Some _ o about) (and_parts _ _ (has_passed s (call.GetMatrix a i j) accepted).initialized).0
  there (call.GetVector v i) o reads no_size about accepted = subst IsThere (same_Some _ o about) (and_parts _ _ (has_passed s (call.GetVector v i) accepted).initialized).0
  there (call.NvalsMatrix a) o reads no_size about accepted = subst IsThere (same_Some _ o about) (and_parts _ _ (has_passed s (call.NvalsMatrix a) accepted).initialized).0
  there (call.NvalsVector v) o reads no_size about accepted = subst IsThere (same_Some _ o about) (and_parts _ _ (has_passed s (call.NvalsVector v) accepted).initialized).0
  there (call.ReduceMatrix a monoid) o reads no_size about accepted = subst IsThere (same_Some _ o about) (and_parts _ _ (has_passed s (call.ReduceMatrix a monoid) accepted).initialized).0
  there (call.ReduceVector v monoid) o reads no_size about accepted = subst IsThere (same_Some _ o about) (and_parts _ _ (has_passed s (call.ReduceVector v monoid) accepted).initialized).0
  there (call.WaitMatrix a mode) o reads no_size about accepted = subst IsThere (same_Some _ o about) (and_parts _ _ (has_passed s (call.WaitMatrix a mode) accepted).initialized).0
  there (call.WaitVector v mode) o reads no_size about accepted = subst IsThere (same_Some _ o about) (and_parts _ _ (has_passed s (call.WaitVector v mode) accepted).initialized).0
  there _ o reads no_size about accepted = cc

kept_of : (t : Table) (o : Object) → IsReady t o → IsKept t o
kept_of t o r = record { at = r.at; content = r.content; last = r.last; kept = r.kept }

module _ (p : Knowing) (t : Table) (is : IsEvaluatedFor p t) (of : IsTableOf (calls_of (known p)) t) (o : Object) (c : Call) (reads : ReadsObject (store_of (known p)) o c) where
  pub live : is_live t.learnt.shapes.objects o ≡ true
  live = live_here (calls_of (known p)) t o of ∙ there (store_of (known p)) c o reads.reads reads.no_size reads.about reads.accepted

  -- where all known calls are settled, what the object holds is kept
  pub kept_settled : length (known p) ≤ p.settled → IsKept t o
  kept_settled all = kept_of t o ((is.settled all).ready o live)

  pub not_settled : (IsKept t o → ⊥) → p.settled < length (known p)
  not_settled none = by (le_or_lt (length (known p)) p.settled)
    where
      by : (length (known p) ≤ p.settled) ⊎ (p.settled < length (known p)) → p.settled < length (known p)
      by (inl all) = absurd (none (kept_settled all))
      by (inr few) = few

still : (p q : Knowing) → q ≡ p → q ≡ record p { settled = q.settled }
still p q same = same ∙ ap (λ (k : Knowing). record p { settled = k.settled }) (sym same)

-- memory is refused
pub given_err : (p q : Knowing) (t u : Table) (c : Call) (r : Result Reply AllocError) → IsErr r → q ≡ p → IsEvaluatedFor q u → p.settled < length (known p) → (length (known p) ≤ p.settled → u.made ≡ t.made) → IsGiven p q t u c r
given_err p q t u c (Ok x) err same evaluated few made = cc
given_err p q t u c (Err e) err same evaluated few made = record {
  reply = tt;
  unsettled = few;
  same = still p q same;
  settled = tt;
  err = ap (λ (k : Knowing). k.settled) same;
  evaluated = evaluated;
  made = made;
  ready = tt;
}

settles_none : (b : Bool) (n m k : ℕ) → b ≡ false → k ≡ m → k ≡ (if b then n else m)
settles_none false n m k off same = same
settles_none true n m k off same = cc

-- the reply is had
pub given_ok : (p q : Knowing) (t u : Table) (c : Call) (reply : Reply) → reply ≡ reply_of (store_of (known p)) c → is_materialize c ≡ false → q ≡ p → IsEvaluatedFor q u → (length (known p) ≤ p.settled → u.made ≡ t.made)
    → IfSome (waited_for c) (λ o. LiesReadyAfter u o (length (known p))) → IsGiven p q t u c (Ok reply)
given_ok p q t u c reply is one same evaluated made ready = record {
  reply = is;
  unsettled = tt;
  same = still p q same;
  settled = settles_none (is_materialize c) (length (known p)) p.settled q.settled one (ap (λ (k : Knowing). k.settled) same);
  err = tt;
  evaluated = evaluated;
  made = made;
  ready = ready;
}
