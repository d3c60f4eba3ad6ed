-- What form words have, and what a statement of it leaves of the names.
use Rattle.std.proofs.Common.{◌≡◌, ◌≢◌, ℕ, ◌-◌, ◌≤◌, Bool, true, false, List, [], ◌∷◌, length, get_or, take, drop, Option, Some, None, Ok, Err, Bor, Result, if◌then◌else◌, refl, sym, ap, ◌∙◌, arith}
use Rattle.grb_script.proofs.Prelude.{take_all, option_and_then, option_map, option_map_or, ok_or, FaultKind, UnknownName, Sort, Word, Name, name_found, Version, options_in, product_turns, function_turns, function_first, test_first, is_name, keyword_in, monoid_of, operator_of, semiring_of, wait_mode_of, Form, SetForm, BuildForm, EwiseForm, ProductForm, ReduceForm, TotalForm, WaitForm, TransposeForm, ApplyForm, SelectForm, KroneckerForm, ewise_form, product_form, reduce_form, total_form, wait_form, transpose_form, apply_form, select_form, kronecker_form, diag_form, form_of_placed, indices_of, indices_and_value_of, values_in, matrix_form, vector_form, whole_form, placed_form, set_form, build_form, form_with, form_of, reading, used, masked, mask_found, where_found, names_behind, set_at, now_of}
use Rattle.grb_words.specs.declared.fault.FaultKind.TheVariants.{Statement}
use Rattle.grb_words.specs.declared.keyword.Ewise.{Ewise}
use Rattle.grb_words.specs.declared.keyword.Keyword.{Keyword}
use Rattle.grb_words.specs.declared.keyword.Keyword.TheVariants as keyword
use Rattle.grb_words.specs.declared.keyword.Multiply.{Multiply}
use Rattle.grb_words.specs.declared.keyword.Placed.{Placed}
use Rattle.grb_words.specs.declared.keyword.Placed.TheVariants.{Remove, Get, Resize}
use Rattle.grb_words.specs.declared.keyword.Whole.{Whole}
use Rattle.grb_words.specs.declared.keyword.Whole.TheVariants.{Free, Nvals, Size, Clear, Tuples}
use Rattle.grb_words.specs.declared.options.Turns.TheVariants.{First, Both}
use Rattle.grb_core.specs.declared.value.Value.{Value}
use Rattle.grb_script.specs.declared.statement.Statement.{Statement as SaidStatement}
use Rattle.grb_words.specs.declared.indices.Indices.{Indices}
use Rattle.grb_words.proofs.IndicesLemmas.{no_word}

-- what an `ok_or` is that is `Ok`, and one that is not
pub some_of_ok : {X : Type 0} (o : Option X) (kind : FaultKind) (x : X) → Ok x ≡ ok_or o kind → Some x ≡ o
some_of_ok None kind x e = cc
some_of_ok (Some y) kind x e = cc

pub none_of_err : {X : Type 0} (o : Option X) (kind other : FaultKind) → Err other ≡ ok_or o kind → (None ≡ o) × (other ≡ kind)
none_of_err None kind other e = (refl, (cc))
none_of_err (Some y) kind other e = cc

-- the words behind the first two, as a slice has them
abbrev pub others_of : List (Bor (List ℕ)) → List Word
others_of words = now_of (take (length words - 2) (drop 2 words))

-- two words by each, and three
pub two_words : (words : List (Bor (List ℕ))) → length words ≡ 2 → now_of words ≡ (get_or words 0 no_word).now ∷ (get_or words 1 no_word).now ∷ []
two_words [] l = absurd (omega arith)
two_words (a ∷ []) l = absurd (omega arith)
two_words (a ∷ b ∷ []) l = refl
two_words (a ∷ b ∷ c ∷ more) l = absurd (omega arith)

pub three_words : (words : List (Bor (List ℕ))) → length words ≡ 3
    → now_of words ≡ (get_or words 0 no_word).now ∷ (get_or words 1 no_word).now ∷ (get_or words 2 no_word).now ∷ []
three_words [] l = absurd (omega arith)
three_words (a ∷ []) l = absurd (omega arith)
three_words (a ∷ b ∷ []) l = absurd (omega arith)
three_words (a ∷ b ∷ c ∷ []) l = refl
three_words (a ∷ b ∷ c ∷ d ∷ more) l = absurd (omega arith)

-- words by the first of them and the others as a slice has them, and by the first two and three
pub one_and_more : (words : List (Bor (List ℕ))) → 1 ≤ length words → now_of words ≡ (get_or words 0 no_word).now ∷ now_of (take (length words - 1) (drop 1 words))
one_and_more [] l = absurd (omega arith)
one_and_more (a ∷ more) l = ap (λ ws. a.now ∷ now_of ws) (sym (take_all (length (a ∷ more) - 1) more (omega arith)))

pub two_and_more : (words : List (Bor (List ℕ))) → 2 ≤ length words → now_of words ≡ (get_or words 0 no_word).now ∷ (get_or words 1 no_word).now ∷ others_of words
two_and_more [] l = absurd (omega arith)
two_and_more (a ∷ []) l = absurd (omega arith)
two_and_more (a ∷ b ∷ more) l = ap (λ ws. a.now ∷ b.now ∷ now_of ws) (sym (take_all (length (a ∷ b ∷ more) - 2) more (omega arith)))

pub three_and_more : (words : List (Bor (List ℕ))) → 3 ≤ length words
    → now_of words ≡ (get_or words 0 no_word).now ∷ (get_or words 1 no_word).now ∷ (get_or words 2 no_word).now ∷ now_of (take (length words - 3) (drop 3 words))
three_and_more [] l = absurd (omega arith)
three_and_more (a ∷ []) l = absurd (omega arith)
three_and_more (a ∷ b ∷ []) l = absurd (omega arith)
three_and_more (a ∷ b ∷ c ∷ more) l = ap (λ ws. a.now ∷ b.now ∷ c.now ∷ now_of ws) (sym (take_all (length (a ∷ b ∷ c ∷ more) - 3) more (omega arith)))

-- words by their keyword and their name
pub form_of-words : (version : Version) (words : List (Bor (List ℕ))) (k : Keyword) → 2 ≤ length words → is_name (get_or words 1 no_word).now ≡ true → keyword_in version (get_or words 0 no_word).now ≡ Some k
    → form_of version (now_of words) ≡ form_with version k (get_or words 1 no_word).now (others_of words)
form_of-words version [] k l n e = absurd (omega arith)
form_of-words version (a ∷ []) k l n e = absurd (omega arith)
form_of-words version (a ∷ b ∷ more) k l n e =
    (λ j. if n j then option_and_then (λ k. form_with version k b.now (now_of more)) (e j) else None)
    ∙ ap (λ ws. form_with version k b.now (now_of ws)) (sym (take_all (length (a ∷ b ∷ more) - 2) more (omega arith)))

module _ (names : List Name) where
  -- fewer than two words have no form
  pub reading-short : (version : Version) (words : List (Bor (List ℕ))) → (2 ≤ length words → ⊥) → reading names (form_of version (now_of words)) ≡ Err Statement
  reading-short version [] h = refl
  reading-short version (a ∷ []) h = refl
  reading-short version (a ∷ b ∷ more) h = absurd (h (omega arith))

  -- nor do words of a wrong number
  pub reading-matrix_form : (name : Word) (words : List (Bor (List ℕ))) → (length words ≡ 3 → ⊥) → reading names (matrix_form name (now_of words)) ≡ Err Statement
  reading-matrix_form name [] h = refl
  reading-matrix_form name (a ∷ []) h = refl
  reading-matrix_form name (a ∷ b ∷ []) h = refl
  reading-matrix_form name (a ∷ b ∷ c ∷ []) h = absurd (h refl)
  reading-matrix_form name (a ∷ b ∷ c ∷ d ∷ more) h = refl

  pub reading-vector_form : (name : Word) (words : List (Bor (List ℕ))) → (length words ≡ 2 → ⊥) → reading names (vector_form name (now_of words)) ≡ Err Statement
  reading-vector_form name [] h = refl
  reading-vector_form name (a ∷ []) h = refl
  reading-vector_form name (a ∷ b ∷ []) h = absurd (h refl)
  reading-vector_form name (a ∷ b ∷ c ∷ more) h = refl

  pub reading-ewise_form : (version : Version) (w : Ewise) (output : Word) (words : List (Bor (List ℕ))) → (3 ≤ length words → ⊥) → reading names (ewise_form version w output (now_of words)) ≡ Err Statement
  reading-ewise_form version w output [] h = refl
  reading-ewise_form version w output (a ∷ []) h = refl
  reading-ewise_form version w output (a ∷ b ∷ []) h = refl
  reading-ewise_form version w output (a ∷ b ∷ c ∷ more) h = absurd (h (omega arith))

  pub reading-product_form : (version : Version) (w : Multiply) (output : Word) (words : List (Bor (List ℕ))) → (3 ≤ length words → ⊥) → reading names (product_form version w output (now_of words)) ≡ Err Statement
  reading-product_form version w output [] h = refl
  reading-product_form version w output (a ∷ []) h = refl
  reading-product_form version w output (a ∷ b ∷ []) h = refl
  reading-product_form version w output (a ∷ b ∷ c ∷ more) h = absurd (h (omega arith))

  pub reading-reduce_form : (version : Version) (output : Word) (words : List (Bor (List ℕ))) → (2 ≤ length words → ⊥) → reading names (reduce_form version output (now_of words)) ≡ Err Statement
  reading-reduce_form version output [] h = refl
  reading-reduce_form version output (a ∷ []) h = refl
  reading-reduce_form version output (a ∷ b ∷ more) h = absurd (h (omega arith))

  pub reading-total_form : (name : Word) (words : List (Bor (List ℕ))) → (length words ≡ 1 → ⊥) → reading names (total_form name (now_of words)) ≡ Err Statement
  reading-total_form name [] h = refl
  reading-total_form name (a ∷ []) h = absurd (h refl)
  reading-total_form name (a ∷ b ∷ more) h = refl

  pub reading-wait_form : (name : Word) (words : List (Bor (List ℕ))) → (length words ≡ 1 → ⊥) → reading names (wait_form name (now_of words)) ≡ Err Statement
  reading-wait_form name [] h = refl
  reading-wait_form name (a ∷ []) h = absurd (h refl)
  reading-wait_form name (a ∷ b ∷ more) h = refl

  pub reading-kronecker_form : (version : Version) (output : Word) (words : List (Bor (List ℕ))) → (3 ≤ length words → ⊥) → reading names (kronecker_form version output (now_of words)) ≡ Err Statement
  reading-kronecker_form version output [] h = refl
  reading-kronecker_form version output (a ∷ []) h = refl
  reading-kronecker_form version output (a ∷ b ∷ []) h = refl
  reading-kronecker_form version output (a ∷ b ∷ c ∷ more) h = absurd (h (omega arith))

  pub reading-diag_form : (name : Word) (words : List (Bor (List ℕ))) → (length words ≡ 2 → ⊥) → reading names (diag_form name (now_of words)) ≡ Err Statement
  reading-diag_form name [] h = refl
  reading-diag_form name (a ∷ []) h = refl
  reading-diag_form name (a ∷ b ∷ []) h = absurd (h refl)
  reading-diag_form name (a ∷ b ∷ c ∷ more) h = refl

  -- what a statement says that uses three names and a mask which stand
  pub used-three : (output left right : Word) (mask : Option Word) (says : ℕ × Sort → ℕ × Sort → ℕ × Sort → Option (ℕ × Sort) → Result SaidStatement FaultKind)
      (p q r : ℕ × Sort) (m : Option (ℕ × Sort)) → Ok p ≡ ok_or (name_found names output) UnknownName → Ok q ≡ ok_or (name_found names left) UnknownName
      → Ok r ≡ ok_or (name_found names right) UnknownName → Ok m ≡ mask_found names mask
      → says p q r m ≡ used names output (λ n s. used names left (λ i t. used names right (λ j u. masked names mask (λ found. says (n, s) (i, t) (j, u) found))))
  used-three output left right mask says p q r m of_output of_left of_right of_mask =
      let is_output = some_of_ok (name_found names output) UnknownName p of_output in
      let is_left = some_of_ok (name_found names left) UnknownName q of_left in
      let is_right = some_of_ok (name_found names right) UnknownName r of_right in
      λ k. option_map_or
      (λ n. option_map_or (λ i. option_map_or (λ j. where_found (λ found. says (n.0, n.1) (i.0, i.1) (j.0, j.1) found) (of_mask k)) (is_right k) (Err UnknownName)) (is_left k) (Err UnknownName))
      (is_output k)
      (Err UnknownName)

  -- the same of two names
  pub used-two : (output input : Word) (mask : Option Word) (says : ℕ × Sort → ℕ × Sort → Option (ℕ × Sort) → Result SaidStatement FaultKind)
      (p q : ℕ × Sort) (m : Option (ℕ × Sort)) → Ok p ≡ ok_or (name_found names output) UnknownName → Ok q ≡ ok_or (name_found names input) UnknownName → Ok m ≡ mask_found names mask
      → says p q m ≡ used names output (λ n s. used names input (λ i t. masked names mask (λ found. says (n, s) (i, t) found)))
  used-two output input mask says p q m of_output of_input of_mask =
      let is_output = some_of_ok (name_found names output) UnknownName p of_output in
      let is_input = some_of_ok (name_found names input) UnknownName q of_input in
      λ k. option_map_or
      (λ n. option_map_or (λ i. where_found (λ found. says (n.0, n.1) (i.0, i.1) found) (of_mask k)) (is_input k) (Err UnknownName))
      (is_output k)
      (Err UnknownName)

  -- what a `set` says
  pub reading-set_form : (name : Word) (others : List Word) (p : Indices) (x : Value) (r : Option (ℕ × Sort)) → Some (p, x) ≡ indices_and_value_of others
      → r ≡ name_found names name → option_map_or (λ n. set_at n.0 n.1 p x) r (Err UnknownName) ≡ reading names (set_form name others)
  reading-set_form name others p x r e f =
      (λ j. option_map_or (λ n. set_at n.0 n.1 p x) (f j) (Err UnknownName))
      ∙ ap (λ o. reading names (option_map (λ p. SetForm name p.0 p.1) o)) e

  -- a form that is made of a value, or of two in turn, and makes no name
  kept-map : {A : Type 0} (f : A → Form) → ((a : A) → names_behind names (Some (f a)) ≡ names) → (o : Option A) → names_behind names (option_map f o) ≡ names
  kept-map f h None = refl
  kept-map f h (Some a) = h a

  kept-and_then : {A : Type 0} (f : A → Option Form) → ((a : A) → names_behind names (f a) ≡ names) → (o : Option A) → names_behind names (option_and_then f o) ≡ names
  kept-and_then f h None = refl
  kept-and_then f h (Some a) = h a

  -- these forms make no names
  pub names_behind-whole : (w : Whole) (name : Word) (others : List Word) → names_behind names (whole_form w name others) ≡ names
  names_behind-whole Free name [] = refl
  names_behind-whole Nvals name [] = refl
  names_behind-whole Size name [] = refl
  names_behind-whole Clear name [] = refl
  names_behind-whole Tuples name [] = refl
  names_behind-whole w name (x ∷ more) = refl

  pub names_behind-placed : (w : Placed) (name : Word) (others : List Word) → names_behind names (placed_form w name others) ≡ names
  names_behind-placed Remove name others = kept-map (form_of_placed Remove name) (λ p. refl) (indices_of others)
  names_behind-placed Get name others = kept-map (form_of_placed Get name) (λ p. refl) (indices_of others)
  names_behind-placed Resize name others = kept-map (form_of_placed Resize name) (λ p. refl) (indices_of others)

  pub names_behind-set : (name : Word) (others : List Word) → names_behind names (set_form name others) ≡ names
  names_behind-set name others = kept-map (λ p. SetForm name p.0 p.1) (λ p. refl) (indices_and_value_of others)

  pub names_behind-build : (name : Word) (others : List Word) → names_behind names (build_form name others) ≡ names
  names_behind-build name [] = refl
  names_behind-build name (monoid ∷ values) =
      kept-and_then (λ dup. option_map (BuildForm name dup) (values_in values)) (λ dup. kept-map (BuildForm name dup) (λ vs. refl) (values_in values)) (monoid_of monoid)

  -- a form where a word is a name
  kept-where : (b : Bool) (o : Option Form) → names_behind names o ≡ names → names_behind names (if b then o else None) ≡ names
  kept-where true o h = h
  kept-where false o h = refl

  pub names_behind-ewise : (version : Version) (w : Ewise) (output : Word) (others : List Word) → names_behind names (ewise_form version w output others) ≡ names
  names_behind-ewise version w output [] = refl
  names_behind-ewise version w output (left ∷ []) = refl
  names_behind-ewise version w output (left ∷ right ∷ []) = refl
  names_behind-ewise version w output (left ∷ right ∷ op ∷ options) =
      kept-where (is_name left) _
      (kept-where (is_name right) _
      (kept-and_then (λ f. option_map (EwiseForm w output left right f) (options_in version Both options)) (λ f. kept-map (EwiseForm w output left right f) (λ o. refl) (options_in version Both options)) (operator_of op)))

  pub names_behind-product : (version : Version) (w : Multiply) (output : Word) (others : List Word) → names_behind names (product_form version w output others) ≡ names
  names_behind-product version w output [] = refl
  names_behind-product version w output (left ∷ []) = refl
  names_behind-product version w output (left ∷ right ∷ []) = refl
  names_behind-product version w output (left ∷ right ∷ semiring ∷ options) =
      kept-where (is_name left) _
      (kept-where (is_name right) _
      (kept-and_then (λ s. option_map (ProductForm w output left right s) (options_in version (product_turns w) options)) (λ s. kept-map (ProductForm w output left right s) (λ o. refl) (options_in version (product_turns w) options)) (semiring_of semiring)))

  pub names_behind-reduce : (version : Version) (output : Word) (others : List Word) → names_behind names (reduce_form version output others) ≡ names
  names_behind-reduce version output [] = refl
  names_behind-reduce version output (input ∷ []) = refl
  names_behind-reduce version output (input ∷ monoid ∷ options) =
      kept-where (is_name input) _
      (kept-and_then (λ m. option_map (ReduceForm output input m) (options_in version First options)) (λ m. kept-map (ReduceForm output input m) (λ o. refl) (options_in version First options)) (monoid_of monoid))

  pub names_behind-total : (name : Word) (others : List Word) → names_behind names (total_form name others) ≡ names
  names_behind-total name [] = refl
  names_behind-total name (monoid ∷ []) = kept-map (TotalForm name) (λ m. refl) (monoid_of monoid)
  names_behind-total name (a ∷ b ∷ more) = refl

  pub names_behind-wait : (name : Word) (others : List Word) → names_behind names (wait_form name others) ≡ names
  names_behind-wait name [] = refl
  names_behind-wait name (mode ∷ []) = kept-map (WaitForm name) (λ m. refl) (wait_mode_of mode)
  names_behind-wait name (a ∷ b ∷ more) = refl

  pub names_behind-transpose : (version : Version) (output : Word) (others : List Word) → names_behind names (transpose_form version output others) ≡ names
  names_behind-transpose version output [] = refl
  names_behind-transpose version output (input ∷ options) =
      kept-where (is_name input) _ (kept-map (TransposeForm output input) (λ o. refl) (options_in version First options))

  pub names_behind-apply : (version : Version) (output : Word) (others : List Word) → names_behind names (apply_form version output others) ≡ names
  names_behind-apply version output [] = refl
  names_behind-apply version output (input ∷ others) =
      kept-where (is_name input) _
      (kept-and_then (λ f. option_map (ApplyForm output input f.0) (options_in version (function_turns f.0) f.1)) (λ f. kept-map (ApplyForm output input f.0) (λ o. refl) (options_in version (function_turns f.0) f.1)) (function_first others))

  pub names_behind-select : (version : Version) (output : Word) (others : List Word) → names_behind names (select_form version output others) ≡ names
  names_behind-select version output [] = refl
  names_behind-select version output (input ∷ others) =
      kept-where (is_name input) _
      (kept-and_then (λ t. option_map (SelectForm output input t.0) (options_in version First t.1)) (λ t. kept-map (SelectForm output input t.0) (λ o. refl) (options_in version First t.1)) (test_first others))

  pub names_behind-kronecker : (version : Version) (output : Word) (others : List Word) → names_behind names (kronecker_form version output others) ≡ names
  names_behind-kronecker version output [] = refl
  names_behind-kronecker version output (left ∷ []) = refl
  names_behind-kronecker version output (left ∷ right ∷ []) = refl
  names_behind-kronecker version output (left ∷ right ∷ op ∷ options) =
      kept-where (is_name left) _
      (kept-where (is_name right) _
      (kept-and_then (λ f. option_map (KroneckerForm output left right f) (options_in version Both options)) (λ f. kept-map (KroneckerForm output left right f) (λ o. refl) (options_in version Both options)) (operator_of op)))

  -- nor do the forms of all other keywords
  pub names_behind-other : (version : Version) (k : Keyword) (name : Word) (others : List Word) → k ≢ keyword.Matrix → k ≢ keyword.Vector → k ≢ keyword.Dup → k ≢ keyword.Diag → names_behind names (form_with version k name others) ≡ names
  names_behind-other version keyword.Matrix name others m v d g = absurd (m refl)
  names_behind-other version keyword.Vector name others m v d g = absurd (v refl)
  names_behind-other version keyword.Dup name others m v d g = absurd (d refl)
  names_behind-other version keyword.Diag name others m v d g = absurd (g refl)
  names_behind-other version (keyword.Whole w) name others m v d g = names_behind-whole w name others
  names_behind-other version (keyword.Placed w) name others m v d g = names_behind-placed w name others
  names_behind-other version keyword.Set name others m v d g = names_behind-set name others
  names_behind-other version keyword.Build name others m v d g = names_behind-build name others
  names_behind-other version (keyword.Ewise w) name others m v d g = names_behind-ewise version w name others
  names_behind-other version (keyword.Multiply w) name others m v d g = names_behind-product version w name others
  names_behind-other version keyword.Reduce name others m v d g = names_behind-reduce version name others
  names_behind-other version keyword.Total name others m v d g = names_behind-total name others
  names_behind-other version keyword.Wait name others m v d g = names_behind-wait name others
  names_behind-other version keyword.Transpose name others m v d g = names_behind-transpose version name others
  names_behind-other version keyword.Apply name others m v d g = names_behind-apply version name others
  names_behind-other version keyword.Select name others m v d g = names_behind-select version name others
  names_behind-other version keyword.Kronecker name others m v d g = names_behind-kronecker version name others
