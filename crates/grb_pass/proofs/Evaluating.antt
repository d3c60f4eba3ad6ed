-- What a pass has evaluated, as calls are learnt and evaluated.
use Rattle.std.proofs.Common.{◌≡◌, ℕ, zero, suc, ◌+◌, ◌<◌, ◌≤◌, ◌⊎◌, inl, inr, List, [], ◌∷◌, ◌++◌, length, get_or, take, true, refl, sym, ap, ◌∙◌, subst, arith, length-append}
use Rattle.grb_pass.proofs.Prelude.{IfSome, OnOk, Result, Ok, Err, slice_get, is_ok, slice_get_within, get_or_from_slice_get, take_more, append-nil, length_push, take-append-le, Shown, Call, Object, Entry, History, after_all, calls_of, MatrixShape, ObjectShapes, VectorShape, is_live, object_at, empty_store, shapes_of, KeepsAll, AreOneHistory, IsTable, Table, Knowing, Making, known, spelled, Begins, Enters, Learns, IsEvaluatedFor, IsInStep, IsPassState, IsSettledTable, LiesReady, own_learns, length-calls_of, calls_of-append, spelled_push, spelled_more}
use Rattle.std.specs.Prelude.{is_some, Option, Some, None}
use Rattle.grb_order.specs.Word.{order_word, number_of}
use Rattle.grb_call.specs.declared.ids.Object.TheVariants as object
use Rattle.grb_results.specs.Kept.{IsReady}
use Rattle.grb_results.specs.Lasts.{last_of}
use Rattle.grb_results.specs.declared.Learnt.{Learnt}
use Rattle.grb_results.proofs.Grown.{table_on}

pub ok_holds : {X E : Type 0} (r : Result X E) (P : Type 0) → is_ok r ≡ true → OnOk r P → P
ok_holds (Ok x) P ok p = p
ok_holds (Err e) P ok p = cc

-- a list that goes on from another is one history with it
pub goes_on : (cs es : List Call) → AreOneHistory cs (cs ++ es)
goes_on cs es n mine theirs = sym (take-append-le n cs es mine)

pub begins_on : (g h : History) → Begins g h → AreOneHistory (calls_of h) (calls_of g)
begins_on g h b n mine theirs =
    let same : calls_of h ≡ calls_of g ++ calls_of b.0 = ap calls_of b.1 ∙ calls_of-append g b.0 in
    ap (take n) same ∙ take-append-le n (calls_of g) (calls_of b.0) theirs

-- a table of the known calls, where more are known
table_more : (old new : Knowing) (t : Table) (more : History) → known new ≡ known old ++ more → IsTable (calls_of (known old)) t → IsTable (calls_of (known new)) t
table_more old new t more is at =
    let cs : List Call = calls_of (known old) in let es : List Call = calls_of more in
    let same : cs ++ es ≡ calls_of (known new) = sym (ap calls_of is ∙ calls_of-append (known old) more) in
    let n : length (cs ++ es) ≡ length cs + length es = length-append cs es in
    subst (λ (ds : List Call). IsTable ds t) same (table_on cs (cs ++ es) (goes_on cs es) t (omega (arith, at.learnt.within, n)) at)

evaluated_more : (old new : Knowing) (t : Table) (more : History) → new.settled ≡ old.settled → known new ≡ known old ++ more → IsEvaluatedFor old t → IsEvaluatedFor new t
evaluated_more old new t more settled is at =
    let n : length (known new) ≡ length (known old) + length more = ap length is ∙ length-append (known old) more in
    record {
      table = table_more old new t more is at.table;
      settled = λ all.
          let before : IsSettledTable old t = at.settled (omega (arith, all, settled, n)) in
          record { all = omega (arith, all, settled, at.within, before.all, n); ready = before.ready };
      within = omega (arith, settled, at.within, n);
    }

pub evaluated_learns : (old new : Knowing) (t : Table) → Learns old new → IsEvaluatedFor old t → IsEvaluatedFor new t
evaluated_learns old new t l kept = evaluated_more old new t l.learnt l.settled l.known_is kept

-- what was left ready lies so
left_ready : (old new : Knowing) (t : Table) → new.made ≡ old.made → IfSome old.made.ready (LiesReady t) → IfSome new.made.ready (LiesReady t)
left_ready old new t made lies = subst (λ (m : Making). IfSome m.ready (LiesReady t)) (sym made) lies

pub in_step_learns : (old new : Knowing) (t : Table) → Learns old new → new.made ≡ old.made → IsInStep old t → IsInStep new t
in_step_learns old new t l made kept = record {
  evaluated = evaluated_learns old new t l kept.evaluated;
  made = ap (λ (m : Making). m.count) made ∙ kept.made;
  ready = left_ready old new t made kept.ready;
}

pub state_learns : (old new : Knowing) (e : Table) (next : ℕ) → Learns old new → new.made ≡ old.made → IsPassState old e next → IsPassState new e next
state_learns old new e next l made is = record { step = in_step_learns old new e l made is.step; own = own_learns next old new l is.own }

-- a table that was learnt on stays one of a pass
module _ (p : Knowing) (old new : Table) (is : IsEvaluatedFor p old) where
  pub evaluated_by : IsTable (calls_of (known p)) new → (length (known p) ≤ p.settled → new ≡ old) → IsEvaluatedFor p new
  evaluated_by table stays = record {
    table = table;
    settled = λ all. subst (IsSettledTable p) (sym (stays all)) (is.settled all);
    within = is.within;
  }

  -- where no result is lost, once all are settled
  pub evaluated_kept : IsTable (calls_of (known p)) new → new.learnt ≡ old.learnt → (length (known p) ≤ p.settled → KeepsAll old new) → IsEvaluatedFor p new
  evaluated_kept table learnt keeps = record {
    table = table;
    settled = λ all.
        let before : IsSettledTable p old = is.settled all in
        record {
          all = ap (λ (l : Learnt). length l.nodes.items) learnt ∙ before.all;
          ready = subst (λ (l : Learnt). ((o : Object) → is_live l.shapes.objects o ≡ true → IsReady new o)) (sym learnt) (λ o live. still (keeps all) (before.ready o live));
        };
    within = is.within;
  }
    where
      still : {o : Object} → KeepsAll old new → IsReady old o → IsReady new o
      still {o} same r = record { at = r.at; content = r.content; last = subst (λ (l : Learnt). last_of l.lasts o ≡ suc r.at) (sym learnt) r.last; kept = same r.at r.content r.kept; assembled = r.assembled }

-- where the results are the same, once all are settled
pub evaluated_alike : (p : Knowing) (t u : Table) → IsEvaluatedFor p t → IsTable (calls_of (known p)) u → u.learnt ≡ t.learnt → (length (known p) ≤ p.settled → u.results ≡ t.results) → IsEvaluatedFor p u
evaluated_alike p t u is table learnt same = evaluated_kept p t u is table learnt (λ all k v kept. ap (λ rs. slice_get rs.items k) (same all) ∙ kept)

no_slots : (X : Type 0) (n : ℕ) → is_some (object_at {X = X} [] n) ≡ true → ⊥
no_slots X n e = cc

none_live : (o : Object) → is_live (shapes_of empty_store) o ≡ true → ⊥
none_live (object.Matrix a) e = no_slots MatrixShape a.0 e
none_live (object.Vector v) e = no_slots VectorShape v.0 e

-- where no calls are known, no object is there
pub none_settled : (p : Knowing) (t : Table) → IsTable (calls_of (known p)) t → length (known p) ≤ 0 → IsSettledTable p t
none_settled p t is none =
    let cs : List Call = calls_of (known p) in
    let few : length cs ≤ 0 = omega (arith, none, length-calls_of (known p)) in
    let learnt : length t.learnt.nodes.items ≤ length cs = is.learnt.within in
    record {
      all = omega (arith, few, learnt, none);
      ready = λ o live. absurd (none_live o (subst (λ (u : ObjectShapes). is_live u o ≡ true) (is.learnt.shapes_are ∙ empty cs (length t.learnt.nodes.items) few) live));
    }
  where
    empty : (cs : List Call) (n : ℕ) → length cs ≤ 0 → shapes_of (after_all empty_store (take n cs)) ≡ shapes_of empty_store
    empty [] zero few = refl
    empty [] (suc n) few = refl
    empty (c ∷ cs) n few = absurd (omega (arith, few))

-- how many calls were made bears on nothing
pub table_begun : (cs : List Call) (t : Table) → IsTable cs t → IsTable cs (record t { made = 0 })
table_begun cs t is = record { learnt = is.learnt; results = is.results; places = is.places; settled = is.settled; within = is.within }

ready_begun : (t : Table) (o : Object) → IsReady t o → IsReady (record t { made = 0 }) o
ready_begun t o r = record { at = r.at; content = r.content; last = r.last; kept = r.kept; assembled = r.assembled }

pub evaluated_begun : (p : Knowing) (t : Table) → IsEvaluatedFor p t → IsEvaluatedFor p (record t { made = 0 })
evaluated_begun p t is = record {
  table = table_begun (calls_of (known p)) t is.table;
  settled = λ all. let before : IsSettledTable p t = is.settled all in record { all = before.all; ready = λ o live. ready_begun t o (before.ready o live) };
  within = is.within;
}

-- where all results were dropped
pub evaluated_released : (p q : Knowing) (u : Table) → q ≡ record p { settled = 0; made = q.made } → IsTable (calls_of (known p)) u → IsEvaluatedFor q u
evaluated_released p q u same table = subst (λ (k : Knowing). IsEvaluatedFor k u) (sym same) (record {
  table = table;
  settled = λ none. let all : IsSettledTable p u = none_settled p u table none in record { all = all.all; ready = all.ready };
  within = omega arith;
})

-- a new pass
pub evaluated_opened : (p : Knowing) (t : Table) → ((cs : List Call) → IsTable cs t) → p.settled ≡ 0 → IsEvaluatedFor p t
evaluated_opened p t is settled = record {
  table = is (calls_of (known p));
  settled = λ all. none_settled p t (is (calls_of (known p))) (omega (arith, all, settled));
  within = omega (arith, settled);
}

-- a try to enter a record: it was entered after all known ones, or another pass's word was learnt
pub tried : (room : ℕ) (old new : Knowing) (token : Shown) (back : Option Shown) → Enters room token old back new → length old.shown ≡ length old.view.words → (more : History) × (known new ≡ known old ++ more)
tried room old new token None is all =
    let word : ℕ = order_word old.view.number token.index in let words : List ℕ = old.view.words ++ word ∷ [] in
    let m : length words ≡ length old.view.words + 1 = length_push old.view.words word in
    let lt : length old.shown < length words = omega arith in let few : length old.shown ≤ length old.view.words = omega arith in
    let entry : Entry = (number_of (get_or words (length old.shown) 0), token.call) in
    (entry ∷ [], (λ i. spelled ((is.0 i).words) (is.1 i)) ∙ spelled_push words old.shown token lt ∙ ap (λ (h : History). h ++ entry ∷ []) (spelled_more old.view.words (word ∷ []) old.shown few))
tried room old new token (Some back) is all =
    let few : length old.shown ≤ length old.view.words = omega arith in let word : ℕ = is.2 in
    ([], (λ i. spelled ((is.3 i).words) (is.1 i)) ∙ spelled_more old.view.words (word ∷ []) old.shown few ∙ sym (append-nil (known old)))

pub evaluated_tried : (room : ℕ) (old new : Knowing) (token : Shown) (t : Table) (back : Option Shown) → new.settled ≡ old.settled → Enters room token old back new → length old.shown ≡ length old.view.words
    → IsEvaluatedFor old t → IsEvaluatedFor new t
evaluated_tried room old new token t back same is all kept =
    let more : (h : History) × (known new ≡ known old ++ h) = tried room old new token back is all in
    evaluated_more old new t more.0 same more.1 kept

pub in_step_tried : (room : ℕ) (old new : Knowing) (token : Shown) (t : Table) (back : Option Shown) → new.settled ≡ old.settled → new.made ≡ old.made → Enters room token old back new
    → length old.shown ≡ length old.view.words → IsInStep old t → IsInStep new t
in_step_tried room old new token t back same made is all kept = record {
  evaluated = evaluated_tried room old new token t back same is all kept.evaluated;
  made = ap (λ (m : Making). m.count) made ∙ kept.made;
  ready = left_ready old new t made kept.ready;
}

pub le_or_lt : (m n : ℕ) → (m ≤ n) ⊎ (n < m)
le_or_lt zero n = inl (omega arith)
le_or_lt (suc m) zero = inr (omega arith)
le_or_lt (suc m) (suc n) = elim (le_or_lt m n) [
  | inl h ↦ inl (omega (arith, h))
  | inr h ↦ inr (omega (arith, h))
]

-- one more call lent
pub lent_next : (calls : List Call) (at : ℕ) (c : Call) (lent : List Call) → slice_get calls at ≡ Some c → lent ≡ take at calls → lent ++ c ∷ [] ≡ take (at + 1) calls
lent_next calls at c lent is so =
    let near : at < length calls = slice_get_within calls at c is in
    ap (λ (cs : List Call). cs ++ c ∷ []) so ∙ (ap (λ (d : Call). take at calls ++ d ∷ []) (sym (get_or_from_slice_get calls at c c is)) ∙ sym (take_more calls at c near))
