-- In a script of version 1 or 2 no words have a form that is later.
use Rattle.std.proofs.Common.{◌≡◌, Bool, true, false, List, [], ◌∷◌, Option, Some, None, refl, ap, subst, rules}
use Rattle.std.specs.Prelude.{not, ◌&&◌, ◌||◌, if◌then◌else◌, codes}
use Rattle.std.specs.Map.{lookup}
use Rattle.std.specs.Option.{option_and_then, option_map}
use Rattle.std.specs.Str.{bytes_eq}
use Rattle.grb_words.specs.declared.keyword.Keyword.{Keyword}
use Rattle.grb_words.specs.declared.keyword.Keyword.TheVariants as keyword
use Rattle.grb_words.specs.declared.keyword.Whole.TheVariants as whole
use Rattle.grb_words.specs.declared.indices.Indices.{Indices}
use Rattle.grb_words.specs.declared.keyword.Placed.{Placed}
use Rattle.grb_words.specs.declared.keyword.Placed.TheVariants as placed
use Rattle.grb_words.specs.declared.options.Turns.{Turns}
use Rattle.grb_words.specs.declared.version.Version.{Version}
use Rattle.grb_words.specs.declared.version.Version.TheVariants.{One, Two, Three}
use Rattle.grb_words.specs.Form.{Form, BuildForm, DupForm, EwiseForm, MatrixForm, ProductForm, ReduceForm, SetForm, TotalForm, VectorForm, WaitForm, form_of, form_of_placed, form_with, indices_and_value_of, indices_of, values_in, where_name}
use Rattle.grb_words.specs.Line.{Word}
use Rattle.grb_words.specs.Options.{OptionWords, has_tran, has_tran1, options_in, options_of, where_had}
use Rattle.grb_words.specs.Word.{domain_of, is_name, keyword_in, keyword_of, keywords, monoid_of, numeral_value, operator_of, semiring_of, wait_mode_of}
use Rattle.grb_form_laws.specs.Laws.{LaterFormsAreOfVersionThree, is_later}

-- what is there passes
abbrev passes : {X : Type 0} → (X → Bool) → Option X → Bool
passes p None = true
passes p (Some x) = p x

mapped : {X Y : Type 0} (p : X → Bool) (q : Y → Bool) (f : X → Y) (o : Option X) → passes p o ≡ true → ((x : X) → p x ≡ true → q (f x) ≡ true) → passes q (option_map f o) ≡ true
mapped p q f None e h = refl
mapped p q f (Some x) e h = h x e

made : {X Y : Type 0} (q : Y → Bool) (f : X → Y) (o : Option X) → ((x : X) → q (f x) ≡ true) → passes q (option_map f o) ≡ true
made q f None h = refl
made q f (Some x) h = h x

chained : {X Y : Type 0} (p : X → Bool) (q : Y → Bool) (f : X → Option Y) (o : Option X) → passes p o ≡ true → ((x : X) → p x ≡ true → passes q (f x) ≡ true) → passes q (option_and_then f o) ≡ true
chained p q f None e h = refl
chained p q f (Some x) e h = h x e

tried : {X Y : Type 0} (q : Y → Bool) (f : X → Option Y) (o : Option X) → ((x : X) → passes q (f x) ≡ true) → passes q (option_and_then f o) ≡ true
tried q f None h = refl
tried q f (Some x) h = h x

chosen : {Y : Type 0} (q : Y → Bool) (b : Bool) (o : Option Y) → passes q o ≡ true → passes q (if b then o else None) ≡ true
chosen q true o e = e
chosen q false o e = refl

-- each value passes
abbrev AllPass : {X : Type 0} → (X → Bool) → List (Word × X) → Type 0
AllPass p [] = Unit {0}
AllPass p (e ∷ more) = (p e.1 ≡ true) × AllPass p more

found : {X : Type 0} (p : X → Bool) (test : Word → Bool) (entries : List (Word × X)) → AllPass p entries → passes p (lookup test entries) ≡ true
found p test [] all = refl
found p test (e ∷ more) all = by (test e.0) (found p test more all.1)
  where
    by : (b : Bool) → passes p (lookup test more) ≡ true → passes p (if b then Some e.1 else lookup test more) ≡ true
    by true rest = all.0
    by false rest = rest

-- the options read no second input transposed
abbrev upright : OptionWords → Bool
upright o = not o.descriptor.tran1

abbrev older : Form → Bool
older f = not (is_later f)

abbrev older_keyword : Keyword → Bool
older_keyword (keyword.Whole whole.Tuples) = false
older_keyword keyword.Transpose = false
older_keyword keyword.Apply = false
older_keyword keyword.Select = false
older_keyword keyword.Kronecker = false
older_keyword keyword.Diag = false
older_keyword _ = true

-- the version reads no second input transposed
abbrev IsOlder : Version → Type 0
IsOlder v = (turns : Turns) → has_tran1 v turns ≡ false

had : (c t h : Bool) (o : OptionWords) → o.descriptor.tran1 ≡ t → h ≡ false → passes upright (if c || (t && not h) then None else Some o) ≡ true
had true t h o e none = refl
had false true true o e none = absurd (cc)
had false true false o e none = refl
had false false h o e none = ap not e

turned : (v : Version) → IsOlder v → (turns : Turns) (words : List Word) → passes upright (options_in v turns words) ≡ true
turned v old turns words = tried upright (where_had v turns) (options_of words) (λ o. had (o.descriptor.tran && not (has_tran v turns)) o.descriptor.tran1 (has_tran1 v turns) o refl (old turns))

module _ (v : Version) (old : IsOlder v) (name : Word) where
  named : (word : Word) (o : Option Form) → passes older o ≡ true → passes older (where_name word o) ≡ true
  named word o e = chosen older (is_name word) o e

  at_indices : (w : Placed) (p : Indices) → older (form_of_placed w name p) ≡ true
  at_indices placed.Remove p = refl
  at_indices placed.Get p = refl
  at_indices placed.Resize p = refl

  form : (k : Keyword) → older_keyword k ≡ true → (others : List Word) → passes older (form_with v k name others) ≡ true
  form keyword.Matrix e [] = refl
  form keyword.Matrix e (a ∷ []) = refl
  form keyword.Matrix e (a ∷ b ∷ []) = refl
  form keyword.Matrix e (domain ∷ nrows ∷ ncols ∷ []) =
      tried older _ (domain_of domain) (λ d. tried older _ (numeral_value nrows) (λ r. made older (λ c. MatrixForm name d r c) (numeral_value ncols) (λ c. refl)))
  form keyword.Matrix e (a ∷ b ∷ c ∷ d ∷ more) = refl
  form keyword.Vector e [] = refl
  form keyword.Vector e (a ∷ []) = refl
  form keyword.Vector e (domain ∷ size ∷ []) = tried older _ (domain_of domain) (λ d. made older (λ n. VectorForm name d n) (numeral_value size) (λ n. refl))
  form keyword.Vector e (a ∷ b ∷ c ∷ more) = refl
  form keyword.Dup e [] = refl
  form keyword.Dup e (source ∷ []) = named source (Some (DupForm name source)) refl
  form keyword.Dup e (a ∷ b ∷ more) = refl
  form (keyword.Whole whole.Free) e [] = refl
  form (keyword.Whole whole.Nvals) e [] = refl
  form (keyword.Whole whole.Size) e [] = refl
  form (keyword.Whole whole.Clear) e [] = refl
  form (keyword.Whole whole.Tuples) e others = cc
  form (keyword.Whole w) e (a ∷ more) = refl
  form (keyword.Placed w) e others = made older (form_of_placed w name) (indices_of others) (λ p. at_indices w p)
  form keyword.Set e others = made older (λ p. SetForm name p.0 p.1) (indices_and_value_of others) (λ p. refl)
  form keyword.Build e [] = refl
  form keyword.Build e (monoid ∷ values) = tried older _ (monoid_of monoid) (λ dup. made older (BuildForm name dup) (values_in values) (λ vs. refl))
  form (keyword.Ewise w) e [] = refl
  form (keyword.Ewise w) e (a ∷ []) = refl
  form (keyword.Ewise w) e (a ∷ b ∷ []) = refl
  form (keyword.Ewise w) e (left ∷ right ∷ op ∷ options) =
      named left _ (named right _ (tried older _ (operator_of op) (λ f. mapped upright older (EwiseForm w name left right f) (options_in v _ options) (turned v old _ options) (λ o u. u))))
  form (keyword.Multiply w) e [] = refl
  form (keyword.Multiply w) e (a ∷ []) = refl
  form (keyword.Multiply w) e (a ∷ b ∷ []) = refl
  form (keyword.Multiply w) e (left ∷ right ∷ semiring ∷ options) =
      named left _ (named right _ (tried older _ (semiring_of semiring) (λ s. mapped upright older (ProductForm w name left right s) (options_in v _ options) (turned v old _ options) (λ o u. u))))
  form keyword.Reduce e [] = refl
  form keyword.Reduce e (a ∷ []) = refl
  form keyword.Reduce e (input ∷ monoid ∷ options) =
      named input _ (tried older _ (monoid_of monoid) (λ m. mapped upright older (ReduceForm name input m) (options_in v _ options) (turned v old _ options) (λ o u. u)))
  form keyword.Total e [] = refl
  form keyword.Total e (monoid ∷ []) = made older (TotalForm name) (monoid_of monoid) (λ m. refl)
  form keyword.Total e (a ∷ b ∷ more) = refl
  form keyword.Wait e [] = refl
  form keyword.Wait e (mode ∷ []) = made older (WaitForm name) (wait_mode_of mode) (λ m. refl)
  form keyword.Wait e (a ∷ b ∷ more) = refl
  form keyword.Transpose e others = cc
  form keyword.Apply e others = cc
  form keyword.Select e others = cc
  form keyword.Kronecker e others = cc
  form keyword.Diag e others = cc

words_of_older : (v : Version) → IsOlder v → ((word : Word) → passes older_keyword (keyword_in v word) ≡ true) → (words : List Word) → passes older (form_of v words) ≡ true
words_of_older v old keys [] = refl
words_of_older v old keys (word ∷ []) = refl
words_of_older v old keys (word ∷ name ∷ others) =
    named v old name name _ (chained older_keyword older (λ k. form_with v k name others) (keyword_in v word) (keys word) (λ k e. form v old name k e others))

key_of_two : (word : Word) → passes older_keyword (keyword_of word) ≡ true
key_of_two word = found older_keyword (bytes_eq word) keywords all_older
  where
    all_older : AllPass older_keyword keywords
    all_older = search rules

key_of_one : (word : Word) → passes older_keyword (keyword_in One word) ≡ true
key_of_one word = by (bytes_eq word (codes "vxm"))
  where
    by : (b : Bool) → passes older_keyword (if b then None else keyword_of word) ≡ true
    by true = refl
    by false = key_of_two word

not_later : (words : List Word) (f : Form) (o : Option Form) → passes older o ≡ true → o ≡ Some f → is_later f ≡ true → ⊥
not_later words f o old is later = by (is_later f) (subst (λ (q : Option Form). passes older q ≡ true) is old) later
  where
    by : (b : Bool) → not b ≡ true → b ≡ true → ⊥
    by true e l = cc
    by false e l = cc

pub later_forms_are_of_three : LaterFormsAreOfVersionThree
later_forms_are_of_three One words f is later = absurd (not_later words f (form_of One words) (words_of_older One (λ turns. refl) key_of_one words) is later)
later_forms_are_of_three Two words f is later = absurd (not_later words f (form_of Two words) (words_of_older Two (λ turns. refl) key_of_two words) is later)
later_forms_are_of_three Three words f is later = refl
