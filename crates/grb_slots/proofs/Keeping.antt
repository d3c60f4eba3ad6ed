-- A row of slots keeps its rule as one is closed and as it is opened.
use Rattle.std.proofs.Common.{◌≡◌, ◌≢◌, ℕ, zero, suc, ◌<◌, List, [], ◌∷◌, ◌++◌, length, map, get_or, set, replicate, sym, refl, ap, ◌∙◌, subst, arith, length-set, Option, Some, None, slice_get, MatchOption, unwrap_or}
use mathlib.Core.Option.{some, none, some-injective, some-ne-none}
use mathlib.Core.Option.{Option as Home}
use mathlib.Core.Logic.{dite}
use native.Mathlib.Decide.{ℕ_discrete}
use lib.ListN.{get_elem?}
use Rattle.std.proofs.lemmas.Option.{none-some}
use Rattle.std.proofs.lemmas.List.{get_or-set_same, get_or-set_other, length-replicate}
use Rattle.atomic_table.specs.Table.{State, Me, Allows, Arrives, opening, keeps, takes, gives}
use Rattle.atomic_table.proofs.Lists.{set_else, set_here}
use Rattle.grb_slots.specs.Row.{AllFit}
use Rattle.grb_slots.specs.Rule.{IsKept, Comes, Lies, Passes, closed, no_visit, opened}
use Rattle.grb_slots.specs.declared.rule.Visitor.{Visitor}

all_zero : (n k : ℕ) → ◌≡◌ {A = ℕ} (get_or (replicate n 0) k 0) 0
all_zero zero k = refl
all_zero (suc n) zero = refl
all_zero (suc n) (suc k) = all_zero n k

one_is_more : (n : ℕ) → n ≡ 1 → n ≢ 0
one_is_more n e z = omega arith

module _ {X : Type 0} where
  -- `Passes`, by the fields of a visitor
  abbrev By : ℕ → Option X → Option X → ℕ → Option X → Option X → Type 0
  By k before found at left after = MatchOption found (after ≡ before) (λ x. (at ≡ k → (before ≡ Some x) × (after ≡ left)) × (at ≢ k → after ≡ before))

  away : (k : ℕ) (found : Option X) (at : ℕ) (left between : Option X) → By k None found at left between → (x : Option X) → (between ≡ None) × By k x found at left x
  away k None at left between e x = (e, refl)
  away k (Some y) at left between h x = dite (ℕ_discrete at k) (λ e. absurd (none-some y (h.0 e).0)) (λ ne. (h.1 ne, ((λ e. absurd (ne e)), (λ _. refl))))

  same_left : (at k : ℕ) (x y : X) → ◌≡◌ {A = List (ℕ × Option X)} ((at, Some x) ∷ []) ((k, Some y) ∷ []) → x ≡ y
  same_left at k x y e = ap (λ (l : List (ℕ × Option X)). unwrap_or (get_or l 0 (at, Some x)).1 x) e

  all_there : (values : List X) (k : ℕ) → k < length values → (x : X) × (slice_get values k ≡ Some x) × (get_elem? (map some (map Some values)) k ≡ some (some (Some x)))
  all_there [] k below = absurd (omega arith)
  all_there (x ∷ xs) zero below = (x, refl, refl)
  all_there (x ∷ xs) (suc k) below = all_there xs k (omega arith)

  as_many : (values : List X) → length (map some (map Some values)) ≡ length values
  as_many [] = refl
  as_many (x ∷ xs) = ap suc (as_many xs)

module _ {X T : Type 0} where
  -- who comes where nothing lies in a slot visits others
  still : (k : ℕ) (visitors : List (Visitor X T)) (after : Option X) → Comes k None visitors after → (x : Option X) → (after ≡ None) × Comes k x visitors x
  still k [] after e x = (e, refl)
  still k (visitor ∷ visitors) after h x = let one = away k visitor.found visitor.at visitor.left h.0 h.1 x in
      let more = still k visitors after (subst (λ (o : Option X). Comes k o visitors after) one.0 h.2) x in (more.0, (x, one.1, more.1))

  more : (k : ℕ) (visitors : List (Visitor X T)) (visitor : Visitor X T) (before between after : Option X) → Comes k before visitors between → Passes k between visitor after → Comes k before (visitors ++ visitor ∷ []) after
  more k [] visitor before between after e p = (after, subst (λ (o : Option X). Passes k o visitor after) e p, refl)
  more k (l ∷ visitors) visitor before between after h p = (h.0, h.1, more k visitors visitor h.0 between after h.2 p)

  abbrev visiting : T → ℕ → X → Option X → Visitor X T
  visiting tag at found left = record { tag = tag; at = at; found = Some found; left = left }

  -- what a thread leaves in the slot that it has lies there
  leaves : (k : ℕ) (visitors : List (Visitor X T)) (id : ℕ) (tag : T) (found x : X) (before after : Option X) → get_elem? visitors id ≡ some (visiting tag k found None) → Comes k before visitors after
      → Comes k before (set visitors id (visiting tag k found (Some x))) (Some x)
  leaves k [] id tag found x before after e h = absurd (some-ne-none _ (sym e))
  leaves k (l ∷ visitors) zero tag found x before after e h =
      let p = (subst (λ (visitor : Visitor X T). Passes k before visitor h.0) (some-injective l (visiting tag k found None) e) h.1).0 refl in
      (Some x, ((λ _. (p.0, refl)), (λ ne. absurd (ne refl))), (still k visitors after (subst (λ (o : Option X). Comes k o visitors after) p.1 h.2) (Some x)).1)
  leaves k (l ∷ visitors) (suc id) tag found x before after e h = (h.0, h.1, leaves k visitors id tag found x h.0 after e h.2)

  -- and nothing else comes to lie in another
  beside : (k at : ℕ) → at ≢ k → (visitors : List (Visitor X T)) (id : ℕ) (tag : T) (found : X) (left : Option X) (before after : Option X) → get_elem? visitors id ≡ some (visiting tag at found None) → Comes k before visitors after
      → Comes k before (set visitors id (visiting tag at found left)) after
  beside k at ne [] id tag found left before after e h = h
  beside k at ne (l ∷ visitors) zero tag found left before after e h =
      let p = (subst (λ (visitor : Visitor X T). Passes k before visitor h.0) (some-injective l (visiting tag at found None) e) h.1).1 ne in
      (h.0, ((λ same. absurd (ne same)), (λ _. p)), h.2)
  beside k at ne (l ∷ visitors) (suc id) tag found left before after e h = (h.0, h.1, beside k at ne visitors id tag found left h.0 after e h.2)

module _ {X : Type 0} (fits : X → Type 0) where
  -- where the word is 0, something lies there
  lying : (word : ℕ) (home : Home (Home (Option X))) (now : Option X) → word ≡ 0 → Lies fits word home now
      → (x : X) × (now ≡ Some x) × (home ≡ some (some (Some x))) × fits x
  lying word home None z h = absurd (h z)
  lying word home (Some x) z h = (x, refl, h.1, h.2)

  -- and where it is not, nothing
  lacking : (word : ℕ) (home : Home (Home (Option X))) (now : Option X) → word ≢ 0 → Lies fits word home now → now ≡ None
  lacking word home None ne h = refl
  lacking word home (Some x) ne h = absurd (ne h.0)

module _ {X T : Type 0} (fits : ℕ → X → Type 0) (first : List X) where
  abbrev Now : State (Option X) (Visitor X T) → ℕ → Type 0
  Now s k = (now : Option X) × Comes k (slice_get first k) s.views now × Lies (fits k) (get_or s.words k 0) (get_elem? s.homes k) now

  -- the slot of this index is closed
  shut : (tag : T) (s : State (Option X) (Visitor X T)) → IsKept fits first s → (at : ℕ) → at < length s.homes → (x : X) → Comes at (slice_get first at) s.views (Some x)
      → IsKept fits first record { words = set s.words at 1; homes = set s.homes at none; views = s.views ++ visiting tag at x None ∷ [] }
  shut tag s h at below x there = let homes = length-set s.homes at none in record {
    wide = length-set s.words at 1 ∙ h.wide ∙ sym homes;
    many = homes ∙ h.many;
    lie = λ k inside. dite (ℕ_discrete k at)
        (λ same. subst (Now record { words = set s.words at 1; homes = set s.homes at none; views = s.views ++ visiting tag at x None ∷ [] }) (sym same)
        (None, more at s.views (visiting tag at x None) _ (Some x) None there ((λ _. (refl, refl)), (λ ne. absurd (ne refl))), one_is_more _ (get_or-set_same s.words at 1 0 (subst (λ (n : ℕ). at < n) (sym h.wide) below))))
        (λ ne. let old = h.lie k (subst (λ (n : ℕ). k < n) homes inside) in (
          old.0,
          more k s.views (visiting tag at x None) _ old.0 old.0 old.1 ((λ e. absurd (ne (sym e))), (λ _. refl)),
          subst (λ (n : ℕ). Lies (fits k) n (get_elem? (set s.homes at none) k) old.0) (sym (get_or-set_other s.words at k 1 0 ne))
              (subst (λ (o : Home (Home (Option X))). Lies (fits k) (get_or s.words k 0) o old.0) (sym (set_else s.homes at k none ne)) old.2),
        ));
  }

  -- it is closed, and was
  again : (tag : T) (s : State (Option X) (Visitor X T)) → IsKept fits first s → (at : ℕ) → at < length s.homes → get_or s.words at 0 ≢ 0
      → IsKept fits first record { words = set s.words at 1; homes = s.homes; views = s.views ++ no_visit tag ∷ [] }
  again tag s h at below shut_now = record {
    wide = length-set s.words at 1 ∙ h.wide;
    many = h.many;
    lie = λ k inside. let old = h.lie k inside in let comes = more k s.views (no_visit tag) _ old.0 old.0 old.1 refl in dite (ℕ_discrete k at)
        (λ same. let none_now = lacking (fits k) _ _ old.0 (subst (λ (n : ℕ). get_or s.words n 0 ≢ 0) (sym same) shut_now) old.2 in (
          None,
          subst (Comes k (slice_get first k) (s.views ++ no_visit tag ∷ [])) none_now comes,
          subst (λ (n : ℕ). get_or (set s.words at 1) n 0 ≢ 0) (sym same) (one_is_more _ (get_or-set_same s.words at 1 0 (subst (λ (n : ℕ). at < n) (sym h.wide) below))),
        ))
        (λ ne. (old.0, comes, subst (λ (n : ℕ). Lies (fits k) n (get_elem? s.homes k) old.0) (sym (get_or-set_other s.words at k 1 0 ne)) old.2));
  }

  -- it is opened, with this in it
  back : (tag : T) (s : State (Option X) (Visitor X T)) → IsKept fits first s → (id at : ℕ) → at < length s.homes → (found x : X) → get_elem? s.views id ≡ some (visiting tag at found None) → fits at x
      → IsKept fits first record { words = set s.words at 0; homes = set s.homes at (some (Some x)); views = set s.views id (visiting tag at found (Some x)) }
  back tag s h id at below found x seen ok = let homes = length-set s.homes at (some (Some x)) in record {
    wide = length-set s.words at 0 ∙ h.wide ∙ sym homes;
    many = homes ∙ h.many;
    lie = λ k inside. dite (ℕ_discrete k at)
        (λ same. subst (Now record { words = set s.words at 0; homes = set s.homes at (some (Some x)); views = set s.views id (visiting tag at found (Some x)) }) (sym same)
        (let old = h.lie at below in (
          Some x,
          leaves at s.views id tag found x _ old.0 seen old.1,
          (get_or-set_same s.words at 0 0 (subst (λ (n : ℕ). at < n) (sym h.wide) below), set_here s.homes at (some (Some x)) below, ok),
        )))
        (λ ne. let old = h.lie k (subst (λ (n : ℕ). k < n) homes inside) in (
          old.0,
          beside k at (λ e. ne (sym e)) s.views id tag found (Some x) _ old.0 seen old.1,
          subst (λ (n : ℕ). Lies (fits k) n (get_elem? (set s.homes at (some (Some x))) k) old.0) (sym (get_or-set_other s.words at k 0 0 ne))
              (subst (λ (o : Home (Home (Option X))). Lies (fits k) (get_or s.words k 0) o old.0) (sym (set_else s.homes at k (some (Some x)) ne)) old.2),
        ));
  }

  pub closes : (slots at : ℕ) (tag : T) → at < slots → Arrives {S = Option X} {V = Visitor X T} (IsKept fits first) slots at (λ _. 1) (λ n me. closed fits tag at n me)
  closes slots at tag below s h wide small = let inside = subst (λ (n : ℕ). at < n) (sym wide) below in dite (ℕ_discrete (get_or s.words at 0) 0)
      (λ z. let old = h.lie at inside in let here = lying (fits at) _ _ old.0 z old.2 in let x = here.0 in
      (visiting tag at x None, takes at (Some x), here.2, shut tag s h at inside x (subst (Comes at (slice_get first at) s.views) here.1 old.1), (λ _. (x, refl, here.3))))
      (λ ne. (no_visit tag, keeps, tt, again tag s h at inside ne, (λ z. absurd (ne z))))

  pub opens : (slots id at : ℕ) (me : Me (Option X) (Visitor X T)) (tag : T) (found x : X) → me ≡ (visiting tag at found None, (at, Some x) ∷ []) → at < slots → fits at x
      → Allows (IsKept fits first) slots id me at (λ _. 0) (λ _ after. opened me after)
  opens slots id at me tag found x mine below ok = subst (λ (m : Me (Option X) (Visitor X T)). Allows (IsKept fits first) slots id m at (λ _. 0) (λ _ after. opened m after)) (sym mine) (λ s h wide seen small. (
    visiting tag at found (Some x),
    gives,
    tt,
    back tag s h id at (subst (λ (n : ℕ). at < n) (sym wide) below) found x seen ok,
    (λ k y e. ap (λ (z : X). (visiting tag at found (Some z), [])) (same_left at k x y e)),
  ))

  pub begins : (words : List ℕ) (tag : T) → words ≡ replicate (length first) 0 → AllFit fits first → IsKept fits first (opening words (map Some first) (no_visit tag))
  begins words tag same ok = record {
    wide = ap length same ∙ length-replicate (length first) 0 ∙ sym (as_many first);
    many = as_many first;
    lie = λ k inside. let here = all_there first k (subst (λ (n : ℕ). k < n) (as_many first) inside) in
        (Some here.0, (Some here.0, sym here.1, refl), (ap (λ (ws : List ℕ). get_or ws k 0) same ∙ all_zero (length first) k, here.2, ok k here.0 here.1));
  }
