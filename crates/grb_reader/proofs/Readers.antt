-- What ties the parts of a reader stays so at each step.
use Rattle.std.proofs.Common.{◌≡◌, ℕ, ◌+◌, ◌^◌, ◌<◌, ◌≤◌, List, [], ◌∷◌, ◌++◌, length, get_or, drop, refl, sym, ap, ◌∙◌, subst, arith, length-append}
use Rattle.std.specs.List.{All}
use Rattle.grb_reader.proofs.Prelude.{drop_more, drop-append-le, drop_all, length_push, get_or_at, All-push, All-append, All-head, All-tail, All-nil, All-same, number_of, index_of, order_word, learns, finds_vacant, enters_word, is_told, IsOthers, IsSound, View, Shown, Call, ObjectShapes, shapes_after, shapes_of, History, store_of, StatusRows, Knowing, Making, spelled, IsNextUnshown, IsSteady, IsReaderWith}
use Rattle.std.proofs.lemmas.Nat.{mod-mul-add}
use Rattle.grb_order.specs.Holding.{Holding, TableId}
use Rattle.grb_order.specs.Steps.{Looks}
use Rattle.grb_order.specs.declared.step.Look.{Look}
use Rattle.grb_order.specs.declared.step.Look.TheVariants.{Next, Vacant, Full}
use Rattle.grb_call.specs.Shapes.{RoomyShapes}
use Rattle.grb_reader.proofs.Spelling.{records_more, records_push, spelled_push, spelled_more, shapes_of-push}

abbrev pub seated : TableId → View → Holding
seated t v = record { table_id = t; view = v }

pub number_of-order_word : (number index : ℕ) → index < 2 ^ 48 → number_of (order_word number index) ≡ number
number_of-order_word number index small = omega arith

module _ (number size : ℕ) (t : TableId) (v : View) (shown : List Shown) (capacity : ℕ) (shapes : RoomyShapes) (k : IsReaderWith number size (seated t v) shown capacity shapes) where
  kept_learns : (x : ℕ) → IsOthers v x → IsSound t.words (learns v x) → IsReaderWith number size (seated t (learns v x)) shown capacity shapes
  kept_learns x other sound = record {
    number_is = k.number_is;
    sound = sound;
    few = omega (arith, length-append v.words (x ∷ []), k.few);
    records = records_more v.words (x ∷ []) shown k.records;
    others = All-same (IsOthers v) (drop (length shown) (v.words ++ x ∷ [])) (drop (length shown) v.words ++ x ∷ []) (drop-append-le (length shown) v.words (x ∷ []) k.few) (All-push (IsOthers v) (drop (length shown) v.words) x k.others other);
    shapes_are = k.shapes_are ∙ ap (λ (h : History). shapes_of (store_of h)) (sym (spelled_more v.words (x ∷ []) shown k.few));
    room = k.room;
    roomy = k.roomy;
    room_is = k.room_is;
    small = k.small;
  }

  kept_vacant : IsSound t.words (finds_vacant v) → IsReaderWith number size (seated t (finds_vacant v)) shown capacity shapes
  kept_vacant sound = record {
    number_is = k.number_is;
    sound = sound;
    few = k.few;
    records = k.records;
    others = k.others;
    shapes_are = k.shapes_are;
    room = k.room;
    roomy = k.roomy;
    room_is = k.room_is;
    small = k.small;
  }

  -- after a look
  pub kept_look : (room : ℕ) (found : Look) (w : View) → Looks room v found w → IsSound t.words w → IsReaderWith number size (seated t w) shown capacity shapes
  kept_look room (Next word) w looked sound =
      subst (λ (y : View). IsReaderWith number size (seated t y) shown capacity shapes) (sym looked.0) (kept_learns word looked.1 (subst (λ (y : View). IsSound t.words y) looked.0 sound))
  kept_look room Vacant w looked sound =
      subst (λ (y : View). IsReaderWith number size (seated t y) shown capacity shapes) (sym looked.0) (kept_vacant (subst (λ (y : View). IsSound t.words y) looked.0 sound))
  kept_look room Full w looked sound = subst (λ (y : View). IsReaderWith number size (seated t y) shown capacity shapes) (sym looked.0) k

  -- after a try that another pass was before
  pub kept_lost : (x : ℕ) (w : View) → w ≡ learns v x → IsOthers v x → IsSound t.words w → IsReaderWith number size (seated t w) shown capacity shapes
  kept_lost x w is other sound =
      subst (λ (y : View). IsReaderWith number size (seated t y) shown capacity shapes) (sym is) (kept_learns x other (subst (λ (y : View). IsSound t.words y) is sound))

  -- the shapes after one more record
  shapes_more : (words : List ℕ) (token : Shown) (call : Call) (after : RoomyShapes) → spelled words shown ≡ spelled v.words shown → length shown < length words → call ≡ token.call
      → after.objects ≡ shapes_after shapes.objects call → after.objects ≡ shapes_of (store_of (spelled words (shown ++ token ∷ [])))
  shapes_more words token call after same lt is grown =
      let h : History = spelled v.words shown in let number_of_word : ℕ = number_of (get_or words (length shown) 0) in
      grown ∙ ap (λ (s : ObjectShapes). shapes_after s call) k.shapes_are ∙ ap (λ (c : Call). shapes_after (shapes_of (store_of h)) c) is
      ∙ sym (shapes_of-push h (number_of_word, token.call))
      ∙ ap (λ (x : History). shapes_of (store_of (x ++ (number_of_word, token.call) ∷ []))) (sym same)
      ∙ ap (λ (x : History). shapes_of (store_of x)) (sym (spelled_push words shown token lt))

  -- after the record of the next word was shown
  pub kept_admit : (token : Shown) (call : Call) (tokens : List Shown) (capacity' : ℕ) (after : RoomyShapes)
      → length shown < length v.words → token.pass ≡ number_of (get_or v.words (length shown) 0) → token.index ≡ index_of (get_or v.words (length shown) 0) → call ≡ token.call
      → tokens ≡ shown ++ token ∷ [] → capacity' ≡ capacity → after.objects ≡ shapes_after shapes.objects call → after.room + 1 ≡ shapes.room
      → IsReaderWith number size (seated t v) tokens capacity' after
  kept_admit token call tokens capacity' after lt pass index is pushed same grown less =
      let n : length (shown ++ token ∷ []) ≡ length shown + 1 = length_push shown token in
      let room : after.room + length (shown ++ token ∷ []) ≡ t.words = omega (arith, k.room) in
      let rest : drop (length shown) v.words ≡ get_or v.words (length shown) 0 ∷ drop (length shown + 1) v.words = drop_more v.words (length shown) 0 lt in
      let others : All (IsOthers v) (drop (length shown + 1) v.words) = All-tail (IsOthers v) (get_or v.words (length shown) 0) (drop (length shown + 1) v.words) (subst (λ (l : List ℕ). All (IsOthers v) l) rest k.others) in
      let new : IsReaderWith number size (seated t v) (shown ++ token ∷ []) capacity after = record {
        number_is = k.number_is;
        sound = k.sound;
        few = omega arith;
        records = records_push v.words shown token k.records lt pass index;
        others = subst (λ (m : ℕ). All (IsOthers v) (drop m v.words)) (sym n) others;
        shapes_are = shapes_more v.words token call after refl lt is grown;
        room = room;
        roomy = k.roomy;
        room_is = k.room_is;
        small = k.small;
      } in
      subst (λ (y : List Shown × ℕ). IsReaderWith number size (seated t v) y.0 y.1 after) (λ i. (sym pushed i, sym same i)) new

  -- after the record of a call was entered
  pub kept_won : (token : Shown) (call : Call) (tokens : List Shown) (capacity' : ℕ) (after : RoomyShapes) (w : View)
      → length shown ≡ length v.words → token.pass ≡ v.number → token.index < 2 ^ 48 → w ≡ enters_word v (order_word v.number token.index) → IsSound t.words w → call ≡ token.call
      → tokens ≡ shown ++ token ∷ [] → capacity' ≡ capacity → after.objects ≡ shapes_after shapes.objects call → after.room + 1 ≡ shapes.room
      → IsReaderWith number size (seated t w) tokens capacity' after
  kept_won token call tokens capacity' after w all own small won sound is pushed same grown less =
      let word : ℕ = order_word v.number token.index in
      let words : List ℕ = v.words ++ word ∷ [] in
      let n : length (shown ++ token ∷ []) ≡ length shown + 1 = length_push shown token in
      let m : length words ≡ length v.words + 1 = length_push v.words word in
      let lt : length shown < length words = omega arith in
      let room : after.room + length (shown ++ token ∷ []) ≡ t.words = omega (arith, k.room) in
      let at : get_or words (length shown) 0 ≡ word = get_or_at v.words word [] 0 (length shown) (sym all) in
      let pass : token.pass ≡ number_of (get_or words (length shown) 0) = own ∙ sym (ap number_of at ∙ number_of-order_word v.number token.index small) in
      let index : token.index ≡ index_of (get_or words (length shown) 0) = sym (ap index_of at ∙ mod-mul-add (v.number + 1) (2 ^ 48) token.index small) in
      let over : length words ≤ length (shown ++ token ∷ []) = omega arith in
      let new : IsReaderWith number size (seated t (enters_word v word)) (shown ++ token ∷ []) capacity after = record {
        number_is = k.number_is;
        sound = subst (λ (y : View). IsSound t.words y) won sound;
        few = omega arith;
        records = records_push words shown token (records_more v.words (word ∷ []) shown k.records) lt pass index;
        others = All-same (IsOthers v) (drop (length (shown ++ token ∷ [])) words) [] (drop_all (length (shown ++ token ∷ [])) words over) (All-nil (IsOthers v));
        shapes_are = shapes_more words token call after (spelled_more v.words (word ∷ []) shown k.few) lt is grown;
        room = room;
        roomy = k.roomy;
        room_is = k.room_is;
        small = k.small;
      } in
      subst (λ (y : View × List Shown × ℕ). IsReaderWith number size (seated t y.0) y.1 y.2 after) (λ i. (sym won i, sym pushed i, sym same i)) new

-- a seat of the same order
pub kept_order : (number size : ℕ) (t t' : TableId) (v : View) (shown : List Shown) (capacity : ℕ) (shapes : RoomyShapes) → t' ≡ t → IsReaderWith number size (seated t v) shown capacity shapes → IsReaderWith number size (seated t' v) shown capacity shapes
kept_order number size t t' v shown capacity shapes e k = subst (λ (y : TableId). IsReaderWith number size (seated y v) shown capacity shapes) (sym e) k

-- after the words of another seat were told
pub kept_told : (number size : ℕ) (t t' : TableId) (v w : View) (words : List ℕ) (shown : List Shown) (capacity : ℕ) (shapes : RoomyShapes) → IsReaderWith number size (seated t v) shown capacity shapes
    → t' ≡ t → w ≡ is_told v words → All (IsOthers v) (drop (length v.words) words) → IsSound t'.words w → IsReaderWith number size (seated t' w) shown capacity shapes
kept_told number size t t' v w words shown capacity shapes k same is others sound =
    let more : List ℕ = drop (length v.words) words in
    let new : IsReaderWith number size (seated t (is_told v words)) shown capacity shapes = record {
      number_is = k.number_is;
      sound = subst (λ (y : TableId × View). IsSound y.0.words y.1) (λ i. (same i, is i)) sound;
      few = omega (arith, length-append v.words more, k.few);
      records = records_more v.words more shown k.records;
      others = All-same (IsOthers v) (drop (length shown) (v.words ++ more)) (drop (length shown) v.words ++ more) (drop-append-le (length shown) v.words more k.few) (All-append (IsOthers v) (drop (length shown) v.words) more k.others others);
      shapes_are = k.shapes_are ∙ ap (λ (h : History). shapes_of (store_of h)) (sym (spelled_more v.words more shown k.few));
      room = k.room;
      roomy = k.roomy;
      room_is = k.room_is;
      small = k.small;
    } in
    subst (λ (y : TableId × View). IsReaderWith number size (seated y.0 y.1) shown capacity shapes) (λ i. (sym same i, sym is i)) new

pub sound_order : (t t' : TableId) (v : View) → t' ≡ t → IsSound t'.words v → IsSound t.words v
sound_order t t' v e s = subst (λ (y : TableId). IsSound y.words v) e s

-- what a caller learns of it
module _ (number size : ℕ) (seat : Holding) (shown : List Shown) (capacity : ℕ) (shapes : RoomyShapes) (k : IsReaderWith number size seat shown capacity shapes) (steps : ℕ) (statuses : StatusRows) (settled : ℕ) (made : Making) where
  abbrev seen : Knowing
  seen = record { order = seat.table_id; view = seat.view; shown = shown; steps = steps; statuses = statuses; settled = settled; made = made }

  pub steady : IsSteady seen
  steady = record { records = k.records; few = k.few; sound = k.sound; others = k.others; small = k.small }

  pub next_is : length shown < length seat.view.words → IsNextUnshown seen (get_or seat.view.words (length shown) 0)
  next_is lt =
      let n : ℕ = length shown in let words : List ℕ = seat.view.words in record {
        within = lt;
        word_is = refl;
        others = All-head (IsOthers seat.view) (get_or words n 0) (drop (n + 1) words) (subst (λ (l : List ℕ). All (IsOthers seat.view) l) (drop_more words n 0 lt) k.others);
      }
