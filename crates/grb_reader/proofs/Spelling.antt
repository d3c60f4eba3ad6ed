-- What the words spell, as words are learnt and records are shown.
use Rattle.std.proofs.Common.{◌≡◌, ℕ, suc, ◌<◌, ◌≤◌, List, [], ◌∷◌, ◌++◌, length, map, get_or, refl, sym, ap, ◌∙◌, arith}
use Rattle.grb_reader.proofs.Prelude.{slice_get, option_map, number_of, index_of, Shown, Call, shapes_after, empty_store, shapes_of, Entry, History, calls_of, after_all, store_of, Knowing, known, spelled, AreRecords}
use Rattle.std.specs.Prelude.{Some}
use Rattle.std.proofs.lemmas.Option.{slice_get-map, slice_get_read}
use Rattle.grb_call.proofs.Runs.{after_all-append}
use Rattle.grb_call.proofs.ShapesAfter.{shapes_of-after}

pub records_more : (words more : List ℕ) (shown : List Shown) → AreRecords words shown → AreRecords (words ++ more) shown
records_more words more [] r = tt
records_more [] more (t ∷ shown) r = absurd r
records_more (word ∷ words) more (t ∷ shown) r = (r.0, r.1, records_more words more shown r.2)

pub records_push : (words : List ℕ) (shown : List Shown) (t : Shown) → AreRecords words shown → length shown < length words
    → t.pass ≡ number_of (get_or words (length shown) 0) → t.index ≡ index_of (get_or words (length shown) 0) → AreRecords words (shown ++ t ∷ [])
records_push [] shown t r lt pass index = absurd (omega arith)
records_push (word ∷ words) [] t r lt pass index = (pass, index, tt)
records_push (word ∷ words) (x ∷ shown) t r lt pass index = (r.0, r.1, records_push words shown t r.2 (omega arith) pass index)

pub nothing : (words : List ℕ) → spelled words [] ≡ []
nothing [] = refl
nothing (word ∷ words) = refl

pub spelled_push : (words : List ℕ) (shown : List Shown) (t : Shown) → length shown < length words → spelled words (shown ++ t ∷ []) ≡ spelled words shown ++ (number_of (get_or words (length shown) 0), t.call) ∷ []
spelled_push [] shown t lt = absurd (omega arith)
spelled_push (word ∷ words) [] t lt = ap (λ (h : History). (number_of word, t.call) ∷ h) (nothing words)
spelled_push (word ∷ words) (x ∷ shown) t lt = ap (λ (h : History). (number_of word, x.call) ∷ h) (spelled_push words shown t (omega arith))

pub spelled_more : (words more : List ℕ) (shown : List Shown) → length shown ≤ length words → spelled (words ++ more) shown ≡ spelled words shown
spelled_more words more [] le = nothing (words ++ more) ∙ sym (nothing words)
spelled_more [] more (t ∷ shown) le = absurd (omega arith)
spelled_more (word ∷ words) more (t ∷ shown) le = ap (λ (h : History). (number_of word, t.call) ∷ h) (spelled_more words more shown (omega arith))

pub length_spelled : (words : List ℕ) (shown : List Shown) → length shown ≤ length words → length (spelled words shown) ≡ length shown
length_spelled words [] le = ap length (nothing words)
length_spelled [] (t ∷ shown) le = absurd (omega arith)
length_spelled (word ∷ words) (t ∷ shown) le = ap suc (length_spelled words shown (omega arith))

abbrev calls_shown : List Shown → List Call
calls_shown shown = map (λ (t : Shown). t.call) shown

pub calls_of-spelled : (words : List ℕ) (shown : List Shown) → length shown ≤ length words → calls_of (spelled words shown) ≡ calls_shown shown
calls_of-spelled words [] le = ap calls_of (nothing words)
calls_of-spelled [] (t ∷ shown) le = absurd (omega arith)
calls_of-spelled (word ∷ words) (t ∷ shown) le = ap (λ (cs : List Call). t.call ∷ cs) (calls_of-spelled words shown (omega arith))

pub calls_of-append : (g h : History) → calls_of (g ++ h) ≡ calls_of g ++ calls_of h
calls_of-append [] h = refl
calls_of-append (e ∷ g) h = ap (λ (cs : List Call). e.1 ∷ cs) (calls_of-append g h)

-- the shapes after one more entry
pub shapes_of-push : (h : History) (e : Entry) → shapes_of (store_of (h ++ e ∷ [])) ≡ shapes_after (shapes_of (store_of h)) e.1
shapes_of-push h e =
    ap (λ (cs : List Call). shapes_of (after_all empty_store cs)) (calls_of-append h (e ∷ [])) ∙ ap shapes_of (after_all-append empty_store (calls_of h) (e.1 ∷ []))
    ∙ shapes_of-after (store_of h) e.1

pub length-calls_of : (h : History) → length (calls_of h) ≡ length h
length-calls_of [] = refl
length-calls_of (e ∷ h) = ap suc (length-calls_of h)

pub known_within : (p : Knowing) (k : ℕ) → length p.shown ≤ length p.view.words → k < length (known p) → k < length p.shown
known_within p k few lt = let n : length (known p) ≡ length p.shown = length_spelled p.view.words p.shown few in omega (arith, lt, n)

-- the call of a record that was shown
pub call_known : (p : Knowing) (k : ℕ) (t : Shown) → length p.shown ≤ length p.view.words → k < length p.shown → t ≡ get_or p.shown k t → slice_get (calls_of (known p)) k ≡ Some t.call
call_known p k t few lt is =
    ap (λ (cs : List Call). slice_get cs k) (calls_of-spelled p.view.words p.shown few) ∙ slice_get-map (λ (x : Shown). x.call) p.shown k
    ∙ ap (option_map (λ (x : Shown). x.call)) (slice_get_read p.shown (length p.shown) k t refl lt is)
