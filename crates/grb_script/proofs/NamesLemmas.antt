-- What a map from names to sorts is as a list.
use Rattle.std.proofs.Common.{◌≡◌, ℕ, zero, suc, ◌+◌, Bool, true, false, not, cond, List, [], ◌∷◌, ◌++◌, map, take, Option, Some, None, is_some, position, refl, sym, ap, true≢false, ◌∙◌, arith}
use Rattle.grb_script.proofs.Prelude.{position_or_len, option_map, bytes_eq, Word, Sort, Name, sort_of, stands, number_in, name_found}
use Rattle.std.specs.List.{slice_get}
use Rattle.std.proofs.lemmas.Option.{none-some, same_Some}
use Rattle.std.specs.Map.{lookup, keys_of}
use Rattle.indexmap.specs.IndexMap.{insert_entry}

module _ {V : Type 0} (bytes : V → List ℕ) where
  -- the names that these entries are
  abbrev pub names_in : List (V × Sort) → List Name
  names_in entries = map (λ e. (bytes e.0, e.1)) entries

  sort_of-names_in : (entries : List (V × Sort)) (name : List ℕ) → sort_of (names_in entries) name ≡ lookup (λ k. bytes_eq name (bytes k)) entries
  sort_of-names_in [] name = refl
  sort_of-names_in (e ∷ es) name = ap (cond (bytes_eq name (bytes e.0)) (Some e.1)) (sort_of-names_in es name)

  number_in-names_in : (entries : List (V × Sort)) (name : List ℕ) → number_in (names_in entries) name ≡ position_or_len (λ k. bytes_eq name (bytes k)) (keys_of entries)
  number_in-names_in [] name = refl
  number_in-names_in (e ∷ es) name = ap (λ n. cond (not (bytes_eq name (bytes e.0))) (1 + n) 0) (number_in-names_in es name)

  -- the place of a key, as `position` gives it
  first_place : (b : Bool) (m n : ℕ) → Some n ≡ cond b (Some m) None → m ≡ n
  first_place true m n h = let e = h in cc
  first_place false m n h = let e = h in cc

  module _ (entries : List (V × Sort)) (name : List ℕ) where
    -- what a look-up finds
    pub name_found-some : (n : ℕ) (sort : Sort) → Some n ≡ position (λ k. bytes_eq name (bytes k)) (keys_of entries) → Some sort ≡ lookup (λ k. bytes_eq name (bytes k)) entries
        → Some (n, sort) ≡ name_found (names_in entries) name
    name_found-some n sort at is =
        ap (λ m. Some (m, sort)) (sym (first_place _ _ n at) ∙ sym (number_in-names_in entries name))
        ∙ ap (option_map (λ s. (number_in (names_in entries) name, s))) (is ∙ sym (sort_of-names_in entries name))

    -- and where it finds none
    pub name_found-none : None ≡ lookup (λ k. bytes_eq name (bytes k)) entries → None ≡ name_found (names_in entries) name
    name_found-none is = ap (option_map (λ s. (number_in (names_in entries) name, s))) (is ∙ sym (sort_of-names_in entries name))

  -- a name that does not stand is none of the names
  none_of : (b : Bool) (sort : Sort) (more : Option Sort) → is_some (cond b (Some sort) more) ≡ false → (b ≡ false) × (is_some more ≡ false)
  none_of true sort more h = absurd (true≢false h)
  none_of false sort more h = (refl, h)

  -- the names after one is made
  pub insert_entry-names_in : (entries : List (V × Sort)) (name : List ℕ) (value : V) (sort : Sort) → bytes value ≡ name → stands (names_in entries) name ≡ false
      → names_in (insert_entry (λ a b. bytes_eq (bytes a) (bytes b)) entries value sort) ≡ names_in entries ++ (name, sort) ∷ []
  insert_entry-names_in [] name value sort e new = ap (λ n. (n, sort) ∷ []) e
  insert_entry-names_in (x ∷ xs) name value sort e new =
      let absent = none_of (bytes_eq name (bytes x.0)) x.1 _ new in
      ap (λ b. names_in (cond b ((x.0, sort) ∷ xs) (x ∷ insert_entry (λ a b. bytes_eq (bytes a) (bytes b)) xs value sort)))
      (ap (λ n. bytes_eq n (bytes x.0)) e ∙ absent.0)
      ∙ ap (λ names. (bytes x.0, x.1) ∷ names) (insert_entry-names_in xs name value sort e absent.1)

-- where a name is none of the first names, and the next is another, it is none of these together
pub not_among-next : (names : List Name) (n : ℕ) (e : Name) (name : Word) → slice_get names n ≡ Some e → stands (take n names) name ≡ false → bytes_eq name e.0 ≡ false
    → stands (take (suc n) names) name ≡ false
not_among-next [] n e name at none differs = absurd (none-some e at)
not_among-next (x ∷ xs) zero e name at none differs =
    let no_more : Option Sort = None in
    ap (λ b. is_some (cond b (Some x.1) no_more)) (ap (λ (y : Name). bytes_eq name y.0) (same_Some x e at) ∙ differs)
not_among-next (x ∷ xs) (suc n) e name at none differs =
    let p = none_of (λ (v : Name). v.0) (bytes_eq name x.0) x.1 _ none in
    ap (λ b. is_some (cond b (Some x.1) (sort_of (take (suc n) xs) name))) p.0 ∙ not_among-next xs n e name at p.1 differs

-- a name of this number and this sort, and the sort, if there is one, with this number
abbrev numbered : ℕ → Sort → ℕ × Sort
numbered n sort = (n, sort)

abbrev found : ℕ → Option Sort → Option (ℕ × Sort)
found n sort = option_map (numbered n) sort

-- what is found at the front of names, and behind another name
found_here : (b : Bool) (rest : Option Sort) (k : ℕ) (s : Sort) → b ≡ true → Some (numbered 0 s) ≡ found (cond (not b) (1 + k) 0) (cond b (Some s) rest)
found_here true rest k s h = refl
found_here false rest k s h = absurd (true≢false (sym h))

found_later : (b : Bool) (o : Option Sort) (k n : ℕ) (s t : Sort) → b ≡ false → Some (numbered n t) ≡ found k o → Some (numbered (suc n) t) ≡ found (cond (not b) (1 + k) 0) (cond b (Some s) o)
found_later true o k n s t h e = absurd (true≢false h)
found_later false None k n s t h e = absurd (none-some (numbered n t) (sym e))
found_later false (Some u) k n s t h e =
    let one : suc n ≡ 1 + n = omega arith in
    ap (λ m. Some (numbered m t)) one ∙ ap (option_map (λ (p : ℕ × Sort). numbered (1 + p.0) p.1)) e

-- the first name that is this one is the one that is found
pub name_found-at : (names : List Name) (n : ℕ) (e : Name) (name : Word) → slice_get names n ≡ Some e → stands (take n names) name ≡ false → bytes_eq name e.0 ≡ true
    → Some (numbered n e.1) ≡ name_found names name
name_found-at [] n e name at none same = absurd (none-some e at)
name_found-at (x ∷ xs) zero e name at none same =
    let is = same_Some x e at in
    ap (λ (y : Name). Some (numbered 0 y.1)) (sym is) ∙ found_here (bytes_eq name x.0) (sort_of xs name) (number_in xs name) x.1 (ap (λ (y : Name). bytes_eq name y.0) is ∙ same)
name_found-at (x ∷ xs) (suc n) e name at none same =
    let p = none_of (λ (v : Name). v.0) (bytes_eq name x.0) x.1 _ none in
    found_later (bytes_eq name x.0) (sort_of xs name) (number_in xs name) n x.1 e.1 p.0 (name_found-at xs n e name at p.1 same)
