-- The passes of a generation that was made of the objects of the one before.
use Rattle.std.proofs.Common.{◌≡◌, ℕ, zero, suc, ◌<◌, ◌≤◌, IfSome, Option, None, List, [], ◌∷◌, length, refl, sym, ap, subst, ◌∙◌, arith}
use Rattle.std.proofs.lemmas.List.{length-map}
use Rattle.grb_chronicle.specs.Linked.{IsLast}
use Rattle.grb_chronicle.proofs.Places.{last_one}
use Rattle.std.specs.Prelude.{Some, slice_get}
use Rattle.grb_slots.specs.Row.{AllFit}
use Rattle.grb_slots.proofs.Fitting.{all_fit}
use Rattle.grb_order.specs.Holding.{TableId}
use Rattle.grb_order.specs.Order.{room_of}
use Rattle.grb_order.specs.declared.limits.TheConstants.{MOST_ROOM}
use Rattle.grb_call.specs.declared.call.Call.{Call}
use Rattle.grb_call.specs.History.{History, after_all, calls_of, store_of}
use Rattle.grb_call.specs.Store.{Store, empty_store}
use Rattle.grb_call.proofs.Counted.{matrices_after_all, vectors_after_all}
use Rattle.grb_context.specs.Chosen.{room_beside}
use Rattle.grb_context.specs.Known.{IsPassOf, Knowing, Shared, known}
use Rattle.grb_context.specs.Rebuilt.{rebuilt}
use Rattle.grb_context.specs.Succeeding.{AreBegun, BeginsWith}
use Rattle.grb_numbers.specs.Laws.{NextNumbersShowTheSame}
use Rattle.grb_numbers.specs.Numbers.{AreCarried, AreNumbers, CarriedNumbers, NumbersSeen, first_numbers, no_number, nothing_carried, outer_number}
use Rattle.grb_numbers.specs.Seen.{AreNumbersOf}
use Rattle.grb_numbers.proofs.Numbering.{outer-here, outer-rising}
use Rattle.grb_generations.specs.Keeping.{AreNumbersFor, Began, Suffice, kept_numbers, kept_store}
use Rattle.grb_generations.specs.Placed.{IsFirstOf, IsPlaced}
use Rattle.grb_generations.specs.Reasons.{IsMember, IsNoGeneration}
use Rattle.grb_generations.specs.declared.reason.NoGeneration.{NoGeneration}
use Rattle.grb_generations.specs.declared.told.Told.{Told}
use Rattle.grb_generations.specs.Seated.{GoesOn, IsAtEnd, Seated}
use Rattle.grb_generations.proofs.Chained.{outer-steps}
use Rattle.grb_generations.proofs.Living.{kept_shows}

length-calls_of : (h : History) → length (calls_of h) ≡ length h
length-calls_of [] = refl
length-calls_of (e ∷ h) = let rest = length-calls_of h in omega (arith, rest)

-- the numbers of a pass are those of its objects, while its history takes what it knows
pub numbers_within : (n : NumbersSeen) (p : Knowing) → AreNumbersFor n p → length (known p) ≤ room_of p.order → AreNumbersOf n (store_of (known p))
numbers_within n p numbers within =
    let count = length-calls_of (known p) in
    let matrices = matrices_after_all empty_store (calls_of (known p)) in
    let vectors = vectors_after_all empty_store (calls_of (known p)) in
    let last_matrix = outer-steps n.matrices numbers.are.matrices (length (store_of (known p)).matrices) (room_of p.order) (omega (arith, count, matrices, within)) in
    let last_vector = outer-steps n.vectors numbers.are.vectors (length (store_of (known p)).vectors) (room_of p.order) (omega (arith, count, vectors, within)) in
    record {
      numbers = numbers.are;
      matrices = record { carried = numbers.matrices; room = omega (arith, last_matrix, numbers.suffice.matrices) };
      vectors = record { carried = numbers.vectors; room = omega (arith, last_vector, numbers.suffice.vectors) };
    }

-- those of a pass that knows a full history
pub numbers_at_end : (n : NumbersSeen) (p : Knowing) → AreNumbersFor n p → IsAtEnd p → AreNumbersOf n (store_of (known p))
numbers_at_end n p numbers end = numbers_within n p numbers (omega (arith, end))

-- a number is at least its place, so no room beyond the last number suffices
above : (n : CarriedNumbers) → AreCarried n → (k : ℕ) → k ≤ outer_number n k
above n are zero = omega arith
above n are (suc k) = let below = above n are k in let step = outer-rising n are k (suc k) (omega arith) in omega (arith, below, step)

pub suffice_few : (n : NumbersSeen) (room : ℕ) → AreNumbers n → Suffice n room → room < no_number
suffice_few n room are suffices = let below = above n.matrices are.matrices room in omega (arith, below, suffices.matrices)

-- the first numbers suffice for the first history
first_small : (room : ℕ) → room ≤ MOST_ROOM → outer_number nothing_carried room < no_number
first_small room most = let is = outer-here nothing_carried room (omega arith) in omega (arith, is, most)

nothing_are_carried : AreCarried nothing_carried
nothing_are_carried = record { rising = λ i j lt within. absurd (omega arith); before = λ i within. absurd (omega arith) }

pub first_numbered : (p : Knowing) → room_of p.order ≤ MOST_ROOM → AreNumbersFor first_numbers p
first_numbered p most = record {
  are = record { matrices = nothing_are_carried; vectors = nothing_are_carried };
  matrices = omega arith;
  vectors = omega arith;
  suffice = record { matrices = first_small (room_of p.order) most; vectors = first_small (room_of p.order) most };
}

length-known : (s : Store) (p : Knowing) (context : Shared) (number : ℕ) → BeginsWith context s number p → length (known p) ≡ length (rebuilt s)
length-known s p context number begins = ap length begins.known_is ∙ length-map (rebuilt s) (λ (c : Call). (0, c))

module _ (show : NextNumbersShowTheSame) (room members : ℕ) (told : Told) (before : NumbersSeen) (end : IsAtEnd told.last) (are : AreNumbersOf before (store_of (known told.last)))
    (numbers_are : told.numbers ≡ kept_numbers before (store_of (known told.last))) (suffices : Suffice told.numbers (room_of told.context.order)) (room_is : room_of told.context.order ≡ room_beside (kept_store (store_of (known told.last))) room) where
  goes_on : (number : ℕ) (p : Knowing) → BeginsWith told.context (kept_store (store_of (known told.last))) number p → p.view.passes ≡ members → GoesOn room members told p
  goes_on number p begins passes =
      let kept = kept_shows show before (store_of (known told.last)) are in
      let shown : AreNumbersOf told.numbers (store_of (known p)) =
      subst (λ (s : Store). AreNumbersOf told.numbers s) (sym begins.store_is) (subst (λ (n : NumbersSeen). AreNumbersOf n (kept_store (store_of (known told.last)))) (sym numbers_are) kept.numbers) in
      record {
        at_end = end;
        begins = subst (λ (n : ℕ). BeginsWith told.context (kept_store (store_of (known told.last))) n p) (sym begins.opened.number_is) begins;
        passes_are = passes;
        numbered = record { are = shown.numbers; matrices = shown.matrices.carried; vectors = shown.vectors.carried; suffice = subst (λ (id : TableId). Suffice told.numbers (room_of id)) (sym begins.opened.pass.order) suffices };
        room_is = omega (arith, room_is, length-known (kept_store (store_of (known told.last))) p told.context number begins);
      }

  -- each of the passes of the next generation goes on where the last one ended, and has the number of its place
  pub all_go_on : (opened : List Knowing) → AreBegun told.context (kept_store (store_of (known told.last))) members opened → AllFit (λ k p. GoesOn room members told p × (p.view.number ≡ k)) opened
  all_go_on opened begun = λ k p e. let begins = begun.each k p e in
      (goes_on k p begins (all_fit (λ (x : Knowing). x.view.passes ≡ members) opened begun.passes_are k p e), begins.opened.number_is)

-- who takes a seat of a generation is a member
pub sits : (m : Seated) (told : Told) → IsPlaced m.chain.book m.context m.numbers m.generation m.page → IsLast m.page.told told → GoesOn m.chain.room m.chain.members told m.pass → m.reason ≡ None → IsMember m
sits m told placed last on none =
    let same : told ≡ placed.here.own = last_one m.page.told told placed.here.own last placed.here.last in
    let own : GoesOn m.chain.room m.chain.members placed.here.own m.pass = subst (λ (t : Told). GoesOn m.chain.room m.chain.members t m.pass) same on in
    let room : room_of placed.here.own.context.order ≡ room_of m.context.order = ap (λ (x : Shared). room_of x.order) placed.here.context_is in
    record {
      placed = placed;
      pass = subst (λ (x : Shared). IsPassOf x m.pass) placed.here.context_is own.begins.opened.pass;
      passes = own.passes_are;
      began = ([], own.begins.store_is);
      room = omega (arith, own.room_is, room);
      numbers = subst (λ (n : NumbersSeen). AreNumbersFor n m.pass) placed.here.numbers_are own.numbered;
      reason = subst (λ (o : Option NoGeneration). IfSome o (IsNoGeneration m.chain m.numbers m.pass)) (sym none) (record {});
    }

-- a pass of the first generation began with no object
began_first : (told : List Told) (own : Told) (p : Knowing) → IsFirstOf told → IsLast told own → Began own p
began_first told own p first last =
    let same : first.first ≡ own = last_one told first.first own ([], first.alone) last in
    let none : known own.last ≡ [] = ap (λ (t : Told). known t.last) (sym same) ∙ first.none in
    (calls_of (known p), ap (λ (h : History). after_all (kept_store (store_of h)) (calls_of (known p))) (sym none))

-- who sits in the first generation is a member
pub founded : (m : Seated) → IsPlaced m.chain.book m.context m.numbers m.generation m.page → IsFirstOf m.page.told → IsPassOf m.context m.pass → m.pass.view.passes ≡ m.chain.members → m.numbers ≡ first_numbers
    → m.chain.room ≡ room_of m.context.order → m.chain.room ≤ MOST_ROOM → m.reason ≡ None → IsMember m
founded m placed first pass passes numbers room most none =
    let order : room_of m.pass.order ≡ room_of m.context.order = ap room_of pass.order in
    record {
      placed = placed;
      pass = pass;
      passes = passes;
      began = began_first m.page.told placed.here.own m.pass first placed.here.last;
      room = omega (arith, room);
      numbers = subst (λ (n : NumbersSeen). AreNumbersFor n m.pass) (sym numbers) (first_numbered m.pass (omega (arith, order, room, most)));
      reason = subst (λ (o : Option NoGeneration). IfSome o (IsNoGeneration m.chain m.numbers m.pass)) (sym none) (record {});
    }

-- the room of the first of the passes of a generation is that of all
pub room_first : (context : Shared) (s : Store) (passes : ℕ) (opened : List Knowing) → AreBegun context s passes opened → 0 < length opened → (room : ℕ) → ((p : Knowing) → slice_get opened 0 ≡ Some p → room ≡ room_of p.order) → room ≡ room_of context.order
room_first context s passes [] begun some room is = absurd (omega arith)
room_first context s passes (p ∷ opened) begun some room is = is p refl ∙ ap room_of (begun.each 0 p refl).opened.pass.order
