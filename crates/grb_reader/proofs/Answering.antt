-- Why an answer is explained.
use Rattle.std.proofs.Common.{◌≡◌, ◌≢◌, ℕ, ◌+◌, ◌^◌, ◌<◌, ◌≤◌, Bool, true, false, cond, List, [], ◌∷◌, ◌++◌, length, get_or, refl, sym, ap, ◌∙◌, subst, arith, append_assoc, inl, inr}
use Rattle.grb_reader.proofs.Prelude.{◌⊎◌, Result, Ok, Err, IfOk, OnErr, option_map_or, append-nil, length_push, get_or_at, All-append, Refusal, order_word, number_of, StartsWith, enters_word, learns, View, Shown, Call, check_of, Store, shapes_of, History, store_of, Knowing, known, spelled, IsOfOthers, IsOfPasses, Answer, Ground, ByStore, ByRoom, ByMemory, ByRecords, ground_of, history_after, IsGrounded, IsOutOfMemory, MayLackMemory, ExplainsAnswer, IsCaughtUp, Learns, Finds, IsReady, IsRefused, IsChecked}
use Rattle.std.specs.Prelude.{Option, Some, None}
use Rattle.std.specs.Result.{result_or}
use Rattle.std.specs.declared.alloc.AllocError.{AllocError}
use Rattle.grb_core.specs.declared.refusal.Refusal.TheVariants.{OrderFull, OutOfMemory, Panic}
use Rattle.grb_call.specs.declared.checking.Kind.{Kind}
use Rattle.grb_call.specs.declared.reply.Reply.{Reply}
use Rattle.grb_call.specs.Kinds.{enters, is_size}
use Rattle.grb_call.specs.After.{refused, answer, reply_of}
use Rattle.grb_call.proofs.ByShapes.{by_check}
use Rattle.grb_call.proofs.Checked.{answer-err, answer-ok, by_shapes-ok}
use Rattle.grb_reader.specs.declared.learn.End.{End}
use Rattle.grb_reader.specs.declared.learn.End.TheVariants.{Vacant, Full}
use Rattle.grb_reader.specs.Point.{GrewTo, IsAtPoint}
use Rattle.grb_reader.proofs.Spelling.{spelled_push, spelled_more, length_spelled}
use Rattle.grb_reader.proofs.Checking.{reads_no_build, build_no_size, build_no_entry_read, enters_no_size, enters_no_entry_read, unrefused_by_shapes}
use Rattle.grb_reader.proofs.Readers.{number_of-order_word}
use Rattle.grb_reader.proofs.Alike.{explains_alike}
use Rattle.grb_reader.proofs.Learnt.{grows_then, grows_enters, learns_then, learns_word}

pub length_known : (p : Knowing) → length p.shown ≡ length p.view.words → length (known p) ≡ length p.view.words
length_known p all = length_spelled p.view.words p.shown (omega arith) ∙ all

-- a refusal by a check rests on the store
checked_ground : (p : Knowing) (c : Call) (r : Refusal) → check_of (shapes_of (store_of (known p))) c ≡ Err r → ground_of (Err r) ≡ ByStore
checked_ground p c r e = by_check (λ (q : Refusal). ground_of (Err q) ≡ ByStore) r (shapes_of (store_of (known p))) c refl refl refl refl refl e

-- a look that found the order's end is a point
point_looked : (room : ℕ) (old new : Knowing) → length new.shown ≡ length new.view.words → GrewTo old.view.looks new.view.looks (length new.view.words) → IsAtPoint room old.view new.view (known new)
point_looked room old new all looked =
    let n : length new.view.words ≡ length (known new) = sym (length_known new all) in
    inl (subst (λ (m : ℕ). GrewTo old.view.looks new.view.looks m) n looked, n)

looked_once : (old new : List ℕ) (n : ℕ) → new ≡ old ++ n ∷ [] → GrewTo old new n
looked_once old new n is = ([], is ∙ ap (λ (l : List ℕ). l ++ n ∷ []) (sym (append-nil old)))

-- what was found at the order's end is a point, and all words are known there
pub point_found : (room : ℕ) (old new : Knowing) (end : End) → Finds room old (Ok end) new → IsAtPoint room old.view new.view (known new)
point_found room old new Vacant f = point_looked room old new f.0 (looked_once old.view.looks new.view.looks (length new.view.words) f.1)
point_found room old new Full f = inr (inr (length_known new f.0 ∙ f.1))

known_found : (room : ℕ) (old new : Knowing) (end : End) → Finds room old (Ok end) new → length (known new) ≡ length new.view.words
known_found room old new Vacant f = length_known new f.0
known_found room old new Full f = length_known new f.0

-- a check refuses the call at the order's end
pub refused_by_check : (room : ℕ) (old new : Knowing) (end : End) (c : Call) (r : Refusal) → Finds room old (Ok end) new → check_of (shapes_of (store_of (known new))) c ≡ Err r → IsRefused room old new c r
refused_by_check room old new end c r f e =
    let by : ByStore ≡ ground_of (Err r) = sym (checked_ground new c r e) in
    record {
      grounds = subst (IsGrounded room old new c (Err r) (known new)) by (record { answered = sym (answer-err (store_of (known new)) c r e); point = point_found room old new end f });
      caught_up = subst (λ (g : Ground). IsCaughtUp g new) by (known_found room old new end f);
    }

-- a call that would be entered is refused at the order's end, by what the store is or for want of memory to a build
refused_by_store : (room : ℕ) (old new : Knowing) (end : End) (c : Call) (r : Refusal) → Finds room old (Ok end) new → refused (store_of (known new)) c ≡ Some r → ground_of (Err r) ≡ ByStore → IsRefused room old new c r
refused_by_store room old new end c r f e is =
    let by : ByStore ≡ ground_of (Err r) = sym is in
    let answered : Err r ≡ answer (store_of (known new)) c = sym (ap (λ (o : Option Refusal). option_map_or Err o (Ok (reply_of (store_of (known new)) c))) e) in
    record {
      grounds = subst (IsGrounded room old new c (Err r) (known new)) by (record { answered = answered; point = point_found room old new end f });
      caught_up = subst (λ (g : Ground). IsCaughtUp g new) by (known_found room old new end f);
    }

pub refused_checked : (room : ℕ) (old new : Knowing) (end : End) (c : Call) (r : Refusal) → Finds room old (Ok end) new → IsChecked (store_of (known new)) c (Err r) → IsRefused room old new c r
refused_checked room old new end c OutOfMemory f e = record {
  grounds = record {
    point = point_found room old new end f;
    may = record {
      by_shapes = e.0;
      no_size = build_no_size c e.1;
      room_left = λ writes no_build. let no : true ≡ false = sym e.1 ∙ no_build in cc;
      unsettled = λ reads. let no : true ≡ false = sym reads ∙ build_no_entry_read c e.1 in cc;
    };
  };
  caught_up = known_found room old new end f;
}
refused_checked room old new end c r f e = refused_by_store room old new end c r f e.0 e.1

-- the order is full
pub refused_by_room : (room : ℕ) (old new : Knowing) (c : Call) → Finds room old (Ok Full) new → enters c ≡ true → refused (store_of (known new)) c ≡ None → IsRefused room old new c OrderFull
refused_by_room room old new c f writes e =
    let n : length (known new) ≡ length new.view.words = length_known new f.0 in
    record { grounds = record { unrefused = e; enters = writes; full = n ∙ f.1 }; caught_up = n }

-- the call's own record was not put: its cell did not take it, or memory was refused
pub refused_put : (room : ℕ) (old new : Knowing) (c : Call) (r : Refusal) → (r ≡ Panic) ⊎ (r ≡ OutOfMemory) → enters c ≡ true → IsReady room new c → GrewTo old.view.looks new.view.looks (length new.view.words) → IsRefused room old new c r
refused_put room old new c r (inl is) writes ready looked =
    let n : length (known new) ≡ length new.view.words = length_known new ready.all in
    let near : length (known new) < room = omega (arith, ready.room_left) in
    subst (IsRefused room old new c) (sym is)
    (record { grounds = inr (record { point = point_looked room old new ready.all looked; may = record { unrefused = ready.unrefused; enters = writes; room_left = near } }); caught_up = tt })
refused_put room old new c r (inr is) writes ready looked =
    let n : length (known new) ≡ length new.view.words = length_known new ready.all in
    let near : length (known new) < room = omega (arith, ready.room_left) in
    subst (IsRefused room old new c) (sym is)
    (record {
      grounds = record {
        point = point_looked room old new ready.all looked;
        may = record {
          by_shapes = unrefused_by_shapes (store_of (known new)) c ready.unrefused;
          no_size = enters_no_size c writes;
          room_left = λ _ _. near;
          unsettled = λ reads. absurd (enters_no_entry_read c writes reads);
        };
      };
      caught_up = n;
    })

-- memory that was refused may lack
memory_refused : (room : ℕ) (old new : Knowing) (c : Call) (r : Answer) (g : History) → r ≡ Err OutOfMemory → IsGrounded room old new c r g (ground_of r) → MayLackMemory room old.settled g c
memory_refused room old new c r g is grounds = let out : IsOutOfMemory room old new c g = subst (λ (a : Answer). IsGrounded room old new c a g (ground_of a)) is grounds in out.may

pub memory_explained : (room : ℕ) (old new : Knowing) (c : Call) (r : Answer) → ExplainsAnswer room old new c r → r ≡ Err OutOfMemory → MayLackMemory room old.settled (known new) c
memory_explained room old new c r e is =
    let g : History = known old ++ e.learnt in
    let same : g ≡ known new = sym (e.known_is ∙ ap (λ (a : Answer). history_after old.view.number c a g) is) in
    subst (λ (h : History). MayLackMemory room old.settled h c) same (memory_refused room old new c r g is e.grounds)

-- what a later part of a call explains, the whole call explains
grew_before : (a b c : List ℕ) (n : ℕ) → StartsWith b a → GrewTo b c n → GrewTo a c n
grew_before a b c n start grew = (start.0 ++ grew.0, grew.1 ∙ ap (λ (l : List ℕ). l ++ n ∷ []) (ap (λ (l : List ℕ). l ++ grew.0) start.1 ∙ append_assoc a start.0 grew.0))

module _ (room : ℕ) (a b c : Knowing) (call : Call) (first : Learns a b) where
  moved : (g : History) → IsAtPoint room b.view c.view g → IsAtPoint room a.view c.view g
  moved g (inl p) = inl (grew_before a.view.looks b.view.looks c.view.looks (length g) first.grown.looks p.0, p.1)
  moved g (inr (inl p)) = inr (inl (p.0 ∙ ap (λ (l : List ℕ). l ++ length g ∷ []) first.own, p.1))
  moved g (inr (inr p)) = inr (inr p)

  pub grounded_before : (r : Answer) (g : History) (by : Ground) → IsGrounded room b c call r g by → IsGrounded room a c call r g by
  grounded_before r g ByStore is = record { answered = is.answered; point = moved g is.point }
  grounded_before r g ByRoom is = is
  grounded_before r g ByMemory is = record { point = moved g is.point; may = subst (λ (n : ℕ). MayLackMemory room n g call) first.settled is.may }
  grounded_before r g ByRecords (inl is) = inl is
  grounded_before r g ByRecords (inr is) = inr (record { point = moved g is.point; may = is.may })

  pub refused_before : (r : Refusal) → IsRefused room b c call r → IsRefused room a c call r
  refused_before r is = record { grounds = grounded_before (Err r) (known c) (ground_of (Err r)) is.grounds; caught_up = is.caught_up }

-- a lost try: the word of another pass is learnt
pub learns_lost : (room : ℕ) (old mid lost : Knowing) (c : Call) (word : ℕ) → Learns old mid → IsReady room mid c → lost.shown ≡ mid.shown → lost.statuses ≡ mid.statuses → lost.settled ≡ mid.settled → lost.view ≡ learns mid.view word → Learns old lost
learns_lost room old mid lost c word l ready shown statuses settled is =
    let all : length mid.shown ≡ length mid.view.words = ready.all in let few : length mid.shown ≤ length mid.view.words = omega arith in
    learns_then old mid lost l (learns_word mid lost few shown statuses settled word is)

-- a call that is refused where the pass learnt what it knows now
pub explains_refused : (room : ℕ) (old new : Knowing) (c : Call) (r : Refusal) → Learns old new → IsRefused room old new c r → ExplainsAnswer room old new c (Err r)
explains_refused room old new c r l is = record {
  grown = l.grown;
  learnt = l.learnt;
  others = l.others;
  passes = l.passes;
  grounds = subst (λ (g : History). IsGrounded room old new c (Err r) g (ground_of (Err r))) l.known_is is.grounds;
  known_is = l.known_is;
}

-- a call whose later part is explained
pub explains_before : (room : ℕ) (old mid new : Knowing) (c : Call) (r : Answer) → Learns old mid → ExplainsAnswer room mid new c r → ExplainsAnswer room old new c r
explains_before room old mid new c r l is =
    let g : History = known old ++ (l.learnt ++ is.learnt) in
    let same : known mid ++ is.learnt ≡ g = ap (λ (h : History). h ++ is.learnt) l.known_is ∙ append_assoc (known old) l.learnt is.learnt in
    record {
      grown = grows_then old.view mid.view new.view l.grown is.grown;
      learnt = l.learnt ++ is.learnt;
      others = All-append (λ e. e.0 ≢ old.view.number) l.learnt is.learnt l.others (subst (λ (n : ℕ). IsOfOthers n is.learnt) l.grown.number is.others);
      passes = All-append (λ e. e.0 < old.view.passes) l.learnt is.learnt l.passes (subst (λ (n : ℕ). IsOfPasses n is.learnt) l.grown.passes is.passes);
      grounds = subst (λ (h : History). IsGrounded room old new c r h (ground_of r)) same (grounded_before room old mid new c l r (known mid ++ is.learnt) (ground_of r) is.grounds);
      known_is = is.known_is ∙ ap (history_after mid.view.number c r) same ∙ ap (λ (n : ℕ). history_after n c r g) l.grown.number;
    }

answer_unrefused : (s : Store) (c : Call) → refused s c ≡ None → answer s c ≡ Ok (reply_of s c)
answer_unrefused s c none = ap (λ (o : Option Refusal). option_map_or Err o (Ok (reply_of s c))) none

-- a call that was entered
known_won : (mid new : Knowing) (token : Shown) → length mid.shown ≡ length mid.view.words → token.index < 2 ^ 48 → new.view ≡ enters_word mid.view (order_word mid.view.number token.index) → new.shown ≡ mid.shown ++ token ∷ []
    → known new ≡ known mid ++ (mid.view.number, token.call) ∷ []
known_won mid new token all small is shown =
    let word : ℕ = order_word mid.view.number token.index in
    let words : List ℕ = mid.view.words ++ word ∷ [] in
    let m : length words ≡ length mid.view.words + 1 = length_push mid.view.words word in
    let lt : length mid.shown < length words = omega arith in
    let few : length mid.shown ≤ length mid.view.words = omega arith in
    let at : get_or words (length mid.shown) 0 ≡ word = get_or_at mid.view.words word [] 0 (length mid.shown) (sym all) in
    let number : number_of (get_or words (length mid.shown) 0) ≡ mid.view.number = ap number_of at ∙ number_of-order_word mid.view.number token.index small in
    (λ i. spelled (is i).words (shown i)) ∙ spelled_push words mid.shown token lt
    ∙ (λ i. spelled_more mid.view.words (word ∷ []) mid.shown few i ++ (number i, token.call) ∷ [])

pub explains_won : (room : ℕ) (old mid new : Knowing) (c : Call) (token : Shown) (reply : Reply) → Learns old mid → IsReady room mid c → enters c ≡ true → token.call ≡ c → token.index < 2 ^ 48
    → new.view ≡ enters_word mid.view (order_word mid.view.number token.index) → new.shown ≡ mid.shown ++ token ∷ [] → reply ≡ reply_of (store_of (known mid)) c → ExplainsAnswer room old new c (Ok reply)
explains_won room old mid new c token reply l ready writes same small view shown is =
    let g : History = known mid in
    let word : ℕ = order_word mid.view.number token.index in
    let n : length mid.view.words ≡ length g = sym (length_known mid ready.all) in
    let more : length new.view.words ≡ length mid.view.words + 1 = ap (λ (v : View). length v.words) view ∙ length_push mid.view.words word in
    let own : new.view.own ≡ old.view.own ++ length g ∷ [] = ap (λ (v : View). v.own) view ∙ (λ i. l.own i ++ n i ∷ []) in
    let point : IsAtPoint room old.view new.view g = inr (inl (own, omega arith)) in
    let answered : Ok reply ≡ answer (store_of g) c = ap (λ (r : Reply). Ok r) is ∙ sym (answer_unrefused (store_of g) c ready.unrefused) in
    let entry : known new ≡ g ++ (old.view.number, c) ∷ [] = known_won mid new token ready.all small view shown ∙ (λ i. g ++ (l.grown.number i, same i) ∷ []) in
    let longer : known new ≡ history_after old.view.number c (Ok reply) g = entry ∙ sym (ap (λ (b : Bool). cond b (g ++ (old.view.number, c) ∷ []) g) writes) in
    let grounds : IsGrounded room old new c (Ok reply) g ByStore = record { answered = answered; point = point } in
    record {
      grown = grows_then old.view mid.view new.view l.grown (grows_enters mid.view new.view word view);
      learnt = l.learnt;
      others = l.others;
      passes = l.passes;
      grounds = subst (λ (h : History). IsGrounded room old new c (Ok reply) h ByStore) l.known_is grounds;
      known_is = longer ∙ ap (history_after old.view.number c (Ok reply)) l.known_is;
    }

pub known_entered : (mid new : Knowing) (token : Shown) (room : ℕ) (c : Call) → IsReady room mid c → token.index < 2 ^ 48 → new.view ≡ enters_word mid.view (order_word mid.view.number token.index) → new.shown ≡ mid.shown ++ token ∷ []
    → length (known new) ≡ length new.view.words
known_entered mid new token room c ready small view shown =
    let all : length mid.shown ≡ length mid.view.words = ready.all in
    let more : length new.view.words ≡ length mid.view.words + 1 = ap (λ (v : View). length v.words) view ∙ length_push mid.view.words (order_word mid.view.number token.index) in
    let records : length new.shown ≡ length mid.shown + 1 = ap length shown ∙ length_push mid.shown token in
    length_known new (omega arith)

-- a call that only reads
explains_read : (room : ℕ) (old new : Knowing) (end : End) (c : Call) (kind : Kind) (reply : Reply) → Learns old new → Finds room old (Ok end) new → enters c ≡ false → check_of (shapes_of (store_of (known new))) c ≡ Ok kind
    → reply ≡ reply_of (store_of (known new)) c → ExplainsAnswer room old new c (Ok reply)
explains_read room old new end c kind reply l f reads e is =
    let g : History = known new in
    let answered : Ok reply ≡ answer (store_of g) c = ap (λ (r : Reply). Ok r) is ∙ sym (answer-ok (store_of g) c kind e (reads_no_build c reads)) in
    let grounds : IsGrounded room old new c (Ok reply) g ByStore = record { answered = answered; point = point_found room old new end f } in
    let longer : g ≡ history_after old.view.number c (Ok reply) g = sym (ap (λ (b : Bool). cond b (g ++ (old.view.number, c) ∷ []) g) reads) in
    record {
      grown = l.grown;
      learnt = l.learnt;
      others = l.others;
      passes = l.passes;
      grounds = subst (λ (h : History). IsGrounded room old new c (Ok reply) h ByStore) l.known_is grounds;
      known_is = longer ∙ ap (history_after old.view.number c (Ok reply)) l.known_is;
    }

refused_by_memory : (room : ℕ) (old new : Knowing) (end : End) (c : Call) (kind : Kind) → Finds room old (Ok end) new → enters c ≡ false → check_of (shapes_of (store_of (known new))) c ≡ Ok kind → is_size c ≡ false → old.settled < length (known new) → IsRefused room old new c OutOfMemory
refused_by_memory room old new end c kind f reads e no_size unsettled =
    record {
      grounds = record {
        point = point_found room old new end f;
        may = record {
          by_shapes = by_shapes-ok (store_of (known new)) c kind e;
          no_size = no_size;
          room_left = λ writes no_build. let no : false ≡ true = sym reads ∙ writes in cc;
          unsettled = λ is. unsettled;
        };
      };
      caught_up = known_found room old new end f;
    }

-- what a call that only reads answers, where its evaluation may be refused memory
module _ (room : ℕ) (old now new : Knowing) (end : End) (c : Call) (kind : Kind) (found : Finds room old (Ok end) now) (same : new ≡ record now { settled = new.settled; made = new.made }) where
  pub explains_evaluated : (r : Result Reply AllocError) → Learns old now → enters c ≡ false → check_of (shapes_of (store_of (known now))) c ≡ Ok kind
      → IfOk r (λ reply. reply ≡ reply_of (store_of (known now)) c) → OnErr r (is_size c ≡ false) → OnErr r (now.settled < length (known now)) → ExplainsAnswer room old new c (result_or r (Err OutOfMemory))
  explains_evaluated (Ok reply) l reads e is no_size unsettled =
      subst (λ (p : Knowing). ExplainsAnswer room old p c (Ok reply)) (sym same) (explains_alike room old now now.statuses new.settled new.made c (Ok reply) (explains_read room old now end c kind reply l found reads e is))
  explains_evaluated (Err error) l reads e is no_size unsettled =
      let few : old.settled < length (known now) = omega (arith, l.settled, unsettled) in
      subst (λ (p : Knowing). ExplainsAnswer room old p c (Err OutOfMemory)) (sym same)
      (explains_alike room old now now.statuses new.settled new.made c (Err OutOfMemory) (explains_refused room old now c OutOfMemory l (refused_by_memory room old now end c kind found reads e no_size few)))

  pub known_evaluated : (r : Result Reply AllocError) → IsCaughtUp (ground_of (result_or r (Err OutOfMemory))) new
  known_evaluated (Ok reply) = subst (λ (p : Knowing). length (known p) ≡ length p.view.words) (sym same) (known_found room old now end found)
  known_evaluated (Err error) = subst (λ (p : Knowing). length (known p) ≡ length p.view.words) (sym same) (known_found room old now end found)
