-- One more target, by one walk over shapes.
use Rattle.std.proofs.Common.{◌≡◌, ℕ, ◌+◌, ◌-◌, ◌<◌, List, [], ◌∷◌, ◌++◌, refl, sym, ap, ◌∙◌, length, drop, take, get_or, Option, arith}
use Rattle.grb_replay.proofs.Prelude.{get_or-drop, length_push, take_more, length-drop, Call, Object, ObjectShapes, shapes_after, Store, shapes_of, after, after_all, shapes_of-after, effective_target, targets_of}
use Rattle.grb_replay.proofs.Lists.{take_all}
use Rattle.grb_replay.specs.Targets.{AreTargetsOf, WalkedCalls}

pub targets_push : (s : Store) (cs : List Call) (c : Call) → targets_of (shapes_of s) (cs ++ c ∷ []) ≡ targets_of (shapes_of s) cs ++ effective_target (shapes_of (after_all s cs)) c ∷ []
targets_push s [] c = refl
targets_push s (d ∷ cs) c = ap (λ (ts : List (Option Object)). effective_target (shapes_of s) d ∷ ts)
    (ap (λ (u : ObjectShapes). targets_of u (cs ++ c ∷ [])) (sym (shapes_of-after s d)) ∙ (targets_push (after s d) cs c
    ∙ ap (λ (u : ObjectShapes). targets_of u cs ++ effective_target (shapes_of (after_all (after s d) cs)) c ∷ []) (shapes_of-after s d)))

module _ (s : Store) (old new : WalkedCalls) (cs : List Call) (at : ℕ) (c : Call) (was : AreTargetsOf s old cs) (here : length old.targets ≡ at) (less : at < length cs) (is : get_or cs at c ≡ c)
    (pushed : new.targets ≡ old.targets ++ effective_target old.shapes.objects c ∷ []) (shaped : new.shapes.objects ≡ shapes_after old.shapes.objects c) where
  first : List Call
  first = take at cs

  one-more : take (at + 1) cs ≡ take at cs ++ c ∷ []
  one-more = take_more cs at c less ∙ ap (λ (d : Call). take at cs ++ d ∷ []) is

  count : length new.targets ≡ at + 1
  count = ap length pushed ∙ (length_push old.targets _ ∙ ap (λ n. n + 1) here)

  shapes-were : old.shapes.objects ≡ shapes_of (after_all s (take at cs))
  shapes-were = was.shapes_are ∙ ap (λ n. shapes_of (after_all s (take n cs))) here

  targets-were : old.targets ≡ targets_of (shapes_of s) (take at cs)
  targets-were = was.targets_are ∙ ap (λ n. targets_of (shapes_of s) (take n cs)) here

  next-targets : new.targets ≡ targets_of (shapes_of s) (take (at + 1) cs)
  next-targets = pushed ∙ (ap (λ (ts : List (Option Object)). ts ++ effective_target old.shapes.objects c ∷ []) targets-were
      ∙ (ap (λ (u : ObjectShapes). targets_of (shapes_of s) (take at cs) ++ effective_target u c ∷ []) shapes-were
      ∙ (sym (targets_push s (take at cs) c) ∙ ap (targets_of (shapes_of s)) (sym one-more))))

  pushed-after : (r : Store) (ds : List Call) → after_all r (ds ++ c ∷ []) ≡ after (after_all r ds) c
  pushed-after r [] = refl
  pushed-after r (d ∷ ds) = pushed-after (after r d) ds

  next-shapes : new.shapes.objects ≡ shapes_of (after_all s (take (at + 1) cs))
  next-shapes = shaped ∙ (ap (λ (u : ObjectShapes). shapes_after u c) shapes-were ∙ (sym (shapes_of-after (after_all s (take at cs)) c)
      ∙ ap shapes_of (sym (ap (after_all s) one-more ∙ pushed-after s (take at cs)))))

  -- one more call walked over
  pub walked_next : AreTargetsOf s new cs
  walked_next = record {
    within = omega (arith, count, less);
    targets_are = next-targets ∙ ap (λ n. targets_of (shapes_of s) (take n cs)) (sym count);
    shapes_are = next-shapes ∙ ap (λ n. shapes_of (after_all s (take n cs))) (sym count);
  }

-- one more call walked over, of calls that come after those walked over at first
pub walked_further : (s : Store) (first old new : WalkedCalls) (known bs : List Call) (at : ℕ) (c : Call) → AreTargetsOf s first known → bs ≡ drop (length first.targets) known → AreTargetsOf s old known →
    length old.targets ≡ length first.targets + at → at < length bs → get_or bs at c ≡ c →
    new.targets ≡ old.targets ++ effective_target old.shapes.objects c ∷ [] → new.shapes.objects ≡ shapes_after old.shapes.objects c → AreTargetsOf s new known
walked_further s first old new known bs at c begun lent was here less is pushed shaped =
    let n = length first.targets in
    let count : length bs ≡ length known - n = ap length lent ∙ length-drop n known in
    let same : get_or known (n + at) c ≡ c = sym (get_or-drop n known at c) ∙ (ap (λ (cs : List Call). get_or cs at c) (sym lent) ∙ is) in
    walked_next s old new known (n + at) c was here (omega (arith, less, count)) same pushed shaped

-- the walk over all calls
pub walk_ends : (s : Store) (t : WalkedCalls) (cs : List Call) → AreTargetsOf s t cs → length t.targets ≡ length cs → (t.targets ≡ targets_of (shapes_of s) cs) × (t.shapes.objects ≡ shapes_of (after_all s cs))
walk_ends s t cs was all =
    let same : take (length t.targets) cs ≡ cs = take_all cs (length t.targets) all in
    (was.targets_are ∙ ap (targets_of (shapes_of s)) same, was.shapes_are ∙ ap (λ (xs : List Call). shapes_of (after_all s xs)) same)

-- the walk over all calls, from the first
pub walked_all : (s : Store) (old new : WalkedCalls) (cs : List Call) → old.targets ≡ [] → old.shapes.objects ≡ shapes_of s →
    ((known : List Call) → AreTargetsOf s old known → cs ≡ drop (length old.targets) known → AreTargetsOf s new known × (length new.targets ≡ length known)) →
    (new.targets ≡ targets_of (shapes_of s) cs) × (new.shapes.objects ≡ shapes_of (after_all s cs))
walked_all s old new cs none shapes goes =
    let count : length old.targets ≡ 0 = ap length none in
    let begun : AreTargetsOf s old cs = record {
      within = omega (arith, count);
      targets_are = none ∙ ap (λ n. targets_of (shapes_of s) (take n cs)) (sym count);
      shapes_are = shapes ∙ ap (λ n. shapes_of (after_all s (take n cs))) (sym count);
    } in
    let end = goes cs begun (ap (λ n. drop n cs) (sym count)) in
    walk_ends s new cs end.0 end.1
