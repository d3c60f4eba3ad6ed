-- What a table keeps, where results are put, given out or dropped.
use borrow.Author.Count.{below_more}
use Rattle.std.proofs.Common.{◌≡◌, ℕ, ◌+◌, ◌<◌, ◌≤◌, List, length, sym, ap, subst, ◌∙◌, Option, Some, slice_set, arith}
use Rattle.grb_results.proofs.Prelude.{slice_get, Call, SharedContent, Table, IsKeptAt, IsKeptOf, IsSameBut, IsTakenFrom, KeepsAll, KeepsAlso, AreOneHistory, IsResult, IsTable, Mine, Result, Ok, Err, OnErr, OnOk, within_of}
use Rattle.grb_results.proofs.Frame.{table_taken, taken_more}
use Rattle.grb_results.proofs.Lists.{set_beside}

abbrev Places : Type 0
Places = List (Option SharedContent)

-- a result is put where none was
pub filled_keeps : (xs : Places) (at : ℕ) (v : SharedContent) → ((w : SharedContent) → slice_get xs at ≡ Some (Some w) → ⊥) →
    (k : ℕ) (w : SharedContent) → slice_get xs k ≡ Some (Some w) → slice_get (slice_set xs at (Some v)) k ≡ Some (Some w)
filled_keeps xs at v none k w stands = set_beside xs at (Some v) k (Some w) stands (λ same. none w (subst (λ (j : ℕ). slice_get xs j ≡ Some (Some w)) same stands))

pub kept_on : (old new : Table) (k : ℕ) → KeepsAll old new → IsKeptAt old k → IsKeptAt new k
kept_on old new k keeps was = record { content = was.content; kept = keeps k was.content was.kept }

pub same_more : (a b c : Table) → IsSameBut a b → IsSameBut b c → IsSameBut a c
same_more a b c first second = record { learnt = second.learnt ∙ first.learnt; made = second.made ∙ first.made }

pub kept_of : (cs : List Call) (t : Table) (at : ℕ) (v w : SharedContent) → IsTable cs t → slice_get t.results.items at ≡ Some (Some w) → v ≡ w → IsKeptOf cs (record { at = at; content = v })
kept_of cs t at v w is stands same = record {
  within = let near : at < length t.results.items = within_of t.results.items at (Some w) stands in let places = is.places in let within = is.learnt.within in omega (arith, near, places, within);
  result = subst (λ (x : SharedContent). IsResult cs at x) (sym same) (is.results at w stands);
}

-- nothing was taken yet
pub taken_none : (old theirs new : Table) → new.results ≡ old.results → new.learnt ≡ old.learnt → new.made ≡ old.made → new.settled ≡ old.settled → IsTakenFrom old theirs new
taken_none old theirs new results learnt made settled = record {
  taken = λ k v stands. Mine (sym (here k) ∙ stands);
  places = ap (λ rs. length rs.items) results;
  settled = settled;
  stays = λ k v stands. here k ∙ stands;
  same = record { learnt = learnt; made = made };
}
  where
    here : (k : ℕ) → slice_get new.results.items k ≡ slice_get old.results.items k
    here k = ap (λ rs. slice_get rs.items k) results

-- results were taken one after another
pub taken_then : (first theirs old new : Table) → IsTakenFrom first theirs old → IsTakenFrom old theirs new → IsTakenFrom first theirs new
taken_then first theirs old new was is = record {
  taken = taken_more first.results.items theirs.results.items old.results.items new.results.items was.taken is.taken;
  places = is.places ∙ was.places;
  settled = is.settled ∙ was.settled;
  stays = λ k v stands. is.stays k v (was.stays k v stands);
  same = same_more first old new was.same is.same;
}

pub table_from : (cs ds : List Call) (old theirs new : Table) → IsTable cs old → IsTable ds theirs → AreOneHistory cs ds → IsTakenFrom old theirs new → IsTable cs new
table_from cs ds old theirs new was other one is =
    let settled = is.settled in table_taken cs ds old theirs new was other one is.taken is.same.learnt is.places (omega (arith, settled)) is.stays

-- the places from one on, and one more
pub also_from : (other old new : Table) (first n : ℕ) → IsTakenFrom old other new → ((k : ℕ) → first ≤ k → k < n → k < length old.results.items → IsKeptAt other k → IsKeptAt old k) →
    (n < length old.results.items → IsKeptAt other n → IsKeptAt new n) → (k : ℕ) → first ≤ k → k < n + 1 → k < length new.results.items → IsKeptAt other k → IsKeptAt new k
also_from other old new first n is before here k from near within there =
    let places = is.places in
    below_more (λ (j : ℕ). first ≤ j → j < length old.results.items → IsKeptAt other j → IsKeptAt new j) n
    (λ j below after inside kept. kept_on old new j is.stays (before j after below inside kept)) (λ after inside kept. here inside kept) k near from (omega (arith, within, places)) there

pub also_all : (other new : Table) (n : ℕ) → n ≡ length other.results.items → ((k : ℕ) → 0 ≤ k → k < n → k < length new.results.items → IsKeptAt other k → IsKeptAt new k) → KeepsAlso other new
also_all other new n all kept k near there = let within = within_of other.results.items k (Some there.content) there.kept in kept k (omega arith) (omega (arith, within, all)) near there

pub also_beside : (other old new : Table) → new.results ≡ old.results → KeepsAlso other old → KeepsAlso other new
also_beside other old new same also k near there =
    kept_on old new k (λ j v stands. ap (λ rs. slice_get rs.items j) same ∙ stands) (also k (subst (λ rs. k < length rs.items) same near) there)

pub in_any_err : {X E : Type 0} (P : Type 0) (r : Result X E) → P → OnErr r P
in_any_err P (Ok x) p = tt
in_any_err P (Err e) p = p

pub in_any_case : {X E : Type 0} (P : Type 0) (r : Result X E) → P → OnOk r P
in_any_case P (Ok x) p = p
in_any_case P (Err e) p = tt
