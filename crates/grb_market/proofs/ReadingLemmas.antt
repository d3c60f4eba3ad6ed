-- A line that is read says what the relation has, and the other way round.
use Rattle.std.proofs.Common.{◌≡◌, ℕ, ◌+◌, ◌-◌, ◌<◌, ◌≤◌, ltb, leb, eqb, not, map, Bool, true, false, if◌then◌else◌, List, [], ◌∷◌, Option, Some, None, Ok, Err, refl, sym, ap, subst, ◌∙◌, arith}
use Rattle.grb_market.proofs.Prelude.{◌&&◌, option_map, nat_tests, and_parts, Domain, Value, Cell, is_dimension, IsDimension, Head, Size, Number, numbers_of, size_from, size_with, size_of, is_in, entry_at, entry_from, entry_with, entry_of, SpellsSize, value_stated, IsStated, SpellsEntry}
use Rattle.grb_core.specs.declared.domain.Domain.TheVariants as domain
use Rattle.grb_core.specs.declared.value.Value.TheVariants as value
use Rattle.grb_market.specs.declared.fault.FaultKind.TheVariants as kind

within : (most n : ℕ) → is_in most n ≡ true → (1 ≤ n) × (n ≤ most)
within most n h = let p = and_parts (leb 1 n) (leb n most) h in (grind (arith, nat_tests, p.0), grind (arith, nat_tests, p.1))

is_in-is : (most i : ℕ) → i < most → is_in most (i + 1) ≡ true
is_in-is most i h = grind (arith, nat_tests)

-- the size line
module _ (h : Head) where
  square_test : (r c : ℕ) (b : Bool) → (b ≡ true → r ≡ c) → (b && not (eqb r c)) ≡ false
  square_test r c true f = let e = f refl in grind (arith, nat_tests)
  square_test r c false f = refl

  square_fact : (r c : ℕ) (b : Bool) → (b && not (eqb r c)) ≡ false → b ≡ true → r ≡ c
  square_fact r c true e t = grind (arith, nat_tests)
  square_fact r c false e t = cc

  size_from-is : (s : Size) → IsDimension s.nrows → IsDimension s.ncols → (h.is_symmetric ≡ true → s.nrows ≡ s.ncols) → size_from h s.nrows s.ncols s.count ≡ Ok s
  size_from-is s r c q =
      (λ j. if not (r j && c j) then Err kind.Dimension else (if h.is_symmetric && not (eqb s.nrows s.ncols) then Err kind.NotSquare else Ok s))
      ∙ ap (λ b. if b then Err kind.NotSquare else Ok s) (square_test s.nrows s.ncols h.is_symmetric q)

  pub size_of-is : (bytes : List ℕ) (s : Size) → SpellsSize h bytes s → size_of h bytes ≡ Ok s
  size_of-is bytes s p = ap (size_with h) p.numbers ∙ size_from-is s p.rows p.columns p.square

  -- what the numbers of a size line are
  abbrev pub SizeFrom : ℕ → ℕ → ℕ → Size → Type 0
  SizeFrom r c n s = (r ≡ s.nrows) × (c ≡ s.ncols) × (n ≡ s.count) × IsDimension s.nrows × IsDimension s.ncols × (h.is_symmetric ≡ true → s.nrows ≡ s.ncols)

  size_made : (r c n : ℕ) (s : Size) → (a b : Bool) → (is_dimension r && is_dimension c) ≡ a → (h.is_symmetric && not (eqb r c)) ≡ b
      → (if not a then Err kind.Dimension else (if b then Err kind.NotSquare else Ok (record { nrows = r; ncols = c; count = n }))) ≡ Ok s → SizeFrom r c n s
  size_made r c n s false b d q e = cc
  size_made r c n s true true d q e = cc
  size_made r c n s true false d q e =
      let same : ◌≡◌ {A = Size} (record { nrows = r; ncols = c; count = n }) s = cc in
      let p = and_parts (is_dimension r) (is_dimension c) d in
      subst (SizeFrom r c n) same (refl, refl, refl, p.0, p.1, square_fact r c h.is_symmetric q)

  size_numbers : (bytes : List ℕ) (s : Size) (ns : Option (List Number)) → numbers_of bytes ≡ ns → size_with h ns ≡ Ok s → SpellsSize h bytes s
  size_numbers bytes s (Some (Some r ∷ Some c ∷ Some n ∷ [])) is e =
      let p = size_made r c n s (is_dimension r && is_dimension c) (h.is_symmetric && not (eqb r c)) refl refl e in
      record { numbers = is ∙ (λ j. Some (Some (p.0 j) ∷ Some (p.1 j) ∷ Some (p.2 j) ∷ [])); rows = p.3; columns = p.4; square = p.5 }
  size_numbers bytes s None is e = cc
  size_numbers bytes s (Some []) is e = cc
  size_numbers bytes s (Some (None ∷ ns)) is e = cc
  size_numbers bytes s (Some (Some r ∷ [])) is e = cc
  size_numbers bytes s (Some (Some r ∷ None ∷ ns)) is e = cc
  size_numbers bytes s (Some (Some r ∷ Some c ∷ [])) is e = cc
  size_numbers bytes s (Some (Some r ∷ Some c ∷ None ∷ ns)) is e = cc
  size_numbers bytes s (Some (Some r ∷ Some c ∷ Some n ∷ m ∷ ns)) is e = cc

  pub spells_size : (bytes : List ℕ) (s : Size) → size_of h bytes ≡ Ok s → SpellsSize h bytes s
  spells_size bytes s e = size_numbers bytes s (numbers_of bytes) refl e

-- an entry line
module _ (h : Head) (s : Size) where
  lower_test : (i j : ℕ) (b : Bool) → (b ≡ true → j ≤ i) → (b && ltb (i + 1) (j + 1)) ≡ false
  lower_test i j true f = let l = f refl in grind (arith, nat_tests)
  lower_test i j false f = refl

  lower_fact : (i j : ℕ) (b : Bool) → (b && ltb i j) ≡ false → b ≡ true → j - 1 ≤ i - 1
  lower_fact i j true e t = let l : j ≤ i = grind (arith, nat_tests) in omega arith
  lower_fact i j false e t = cc

  entry_from-is : (i j : ℕ) (v : Value) → i < s.nrows → j < s.ncols → (h.is_symmetric ≡ true → j ≤ i) → entry_from h s (Some (i + 1)) (Some (j + 1)) (Some v) ≡ Ok ((i, j), v)
  entry_from-is i j v r c q =
      let row : i + 1 - 1 ≡ i = omega arith in
      let column : j + 1 - 1 ≡ j = omega arith in
      (λ k. if not (is_in-is s.nrows i r k && is_in-is s.ncols j c k) then Err kind.Index else entry_at h (i + 1) (j + 1) (Some v))
      ∙ ap (λ b. if b then Err kind.UpperTriangle else Ok ((i + 1 - 1, j + 1 - 1), v)) (lower_test i j h.is_symmetric q)
      ∙ (λ k. Ok ((row k, column k), v))

  entry_with-is : (i j : ℕ) (d : Domain) (v : Value) → IsStated d v → entry_with h d s (Some (Some (i + 1) ∷ Some (j + 1) ∷ map (λ n. Some n) (value_stated v))) ≡ entry_from h s (Some (i + 1)) (Some (j + 1)) (Some v)
  entry_with-is i j domain.Uint64 (value.Uint64 n) q = refl
  entry_with-is i j domain.Bool (value.Bool b) q = ap (λ b. entry_from h s (Some (i + 1)) (Some (j + 1)) (Some (value.Bool b))) (sym q)
  entry_with-is i j domain.Uint64 (value.Bool b) q = absurd q
  entry_with-is i j domain.Bool (value.Uint64 n) q = absurd q

  pub entry_of-is : (bytes : List ℕ) (e : Cell × Value) → SpellsEntry h s bytes e → entry_of h s bytes ≡ Ok e
  entry_of-is bytes e p = ap (entry_with h h.domain s) p.numbers ∙ entry_with-is e.0.0 e.0.1 h.domain e.1 p.value ∙ entry_from-is e.0.0 e.0.1 e.1 p.row p.column p.lower

  -- what the numbers of an entry line are
  abbrev pub EntryFrom : Number → Number → Option Value → Cell × Value → Type 0
  EntryFrom i j v e = (i ≡ Some (e.0.0 + 1)) × (j ≡ Some (e.0.1 + 1)) × (v ≡ Some e.1) × (e.0.0 < s.nrows) × (e.0.1 < s.ncols) × (h.is_symmetric ≡ true → e.0.1 ≤ e.0.0)

  entry_stands : (i j : ℕ) (v : Value) (e : Cell × Value) → (is_in s.nrows i && is_in s.ncols j) ≡ true → (b : Bool) → (h.is_symmetric && ltb i j) ≡ b
      → (if b then Err kind.UpperTriangle else Ok ((i - 1, j - 1), v)) ≡ Ok e → EntryFrom (Some i) (Some j) (Some v) e
  entry_stands i j v e d true q is = cc
  entry_stands i j v e d false q is =
      let same : ◌≡◌ {A = Cell × Value} ((i - 1, j - 1), v) e = cc in
      let p = and_parts (is_in s.nrows i) (is_in s.ncols j) d in
      let row = within s.nrows i p.0 in
      let column = within s.ncols j p.1 in
      let i_is : i ≡ i - 1 + 1 = omega arith in
      let j_is : j ≡ j - 1 + 1 = omega arith in
      subst (EntryFrom (Some i) (Some j) (Some v)) same (ap (λ n. Some n) i_is, ap (λ n. Some n) j_is, refl, omega arith, omega arith, lower_fact i j h.is_symmetric q)

  entry_valued : (i j : ℕ) (v : Option Value) (e : Cell × Value) → (is_in s.nrows i && is_in s.ncols j) ≡ true → entry_at h i j v ≡ Ok e → EntryFrom (Some i) (Some j) v e
  entry_valued i j None e d is = cc
  entry_valued i j (Some v) e d is = entry_stands i j v e d (h.is_symmetric && ltb i j) refl is

  entry_inside : (i j : ℕ) (v : Option Value) (e : Cell × Value) (b : Bool) → (is_in s.nrows i && is_in s.ncols j) ≡ b → (if not b then Err kind.Index else entry_at h i j v) ≡ Ok e → EntryFrom (Some i) (Some j) v e
  entry_inside i j v e true d is = entry_valued i j v e d is
  entry_inside i j v e false d is = cc

  entry_made : (i j : Number) (v : Option Value) (e : Cell × Value) → entry_from h s i j v ≡ Ok e → EntryFrom i j v e
  entry_made None j v e is = cc
  entry_made (Some i) None v e is = cc
  entry_made (Some i) (Some j) v e is = entry_inside i j v e (is_in s.nrows i && is_in s.ncols j) refl is

  number_value : (v : Number) (w : Value) → option_map (λ n. value.Uint64 n) v ≡ Some w → (v ∷ [] ≡ map (λ n. Some n) (value_stated w)) × IsStated domain.Uint64 w
  number_value None w h = cc
  number_value (Some n) w h = let is : value.Uint64 n ≡ w = cc in subst (λ w. (Some n ∷ [] ≡ map (λ n. Some n) (value_stated w)) × IsStated domain.Uint64 w) is (refl, tt)

  pattern_value : (w : Value) → Some (value.Bool true) ≡ Some w → ([] ≡ map (λ n. Some n) (value_stated w)) × IsStated domain.Bool w
  pattern_value w h = let is : value.Bool true ≡ w = cc in subst (λ w. ([] ≡ map (λ n. Some n) (value_stated w)) × IsStated domain.Bool w) is (refl, refl)

  entry_numbers : (bytes : List ℕ) (e : Cell × Value) (d : Domain) (ns : Option (List Number)) → h.domain ≡ d → numbers_of bytes ≡ ns → entry_with h d s ns ≡ Ok e → SpellsEntry h s bytes e
  entry_numbers bytes e domain.Uint64 (Some (i ∷ j ∷ v ∷ [])) q is f =
      let p = entry_made i j (option_map (λ n. value.Uint64 n) v) e f in
      let w = number_value v e.1 p.2 in
      record { numbers = is ∙ (λ k. Some (p.0 k ∷ p.1 k ∷ w.0 k)); value = subst (λ d. IsStated d e.1) (sym q) w.1; row = p.3; column = p.4; lower = p.5 }
  entry_numbers bytes e domain.Bool (Some (i ∷ j ∷ [])) q is f =
      let p = entry_made i j (Some (value.Bool true)) e f in
      let w = pattern_value e.1 p.2 in
      record { numbers = is ∙ (λ k. Some (p.0 k ∷ p.1 k ∷ w.0 k)); value = subst (λ d. IsStated d e.1) (sym q) w.1; row = p.3; column = p.4; lower = p.5 }
  entry_numbers bytes e domain.Uint64 None q is f = cc
  entry_numbers bytes e domain.Uint64 (Some []) q is f = cc
  entry_numbers bytes e domain.Uint64 (Some (i ∷ [])) q is f = cc
  entry_numbers bytes e domain.Uint64 (Some (i ∷ j ∷ [])) q is f = cc
  entry_numbers bytes e domain.Uint64 (Some (i ∷ j ∷ v ∷ n ∷ ns)) q is f = cc
  entry_numbers bytes e domain.Bool None q is f = cc
  entry_numbers bytes e domain.Bool (Some []) q is f = cc
  entry_numbers bytes e domain.Bool (Some (i ∷ [])) q is f = cc
  entry_numbers bytes e domain.Bool (Some (i ∷ j ∷ v ∷ ns)) q is f = cc

  pub spells_entry : (bytes : List ℕ) (e : Cell × Value) → entry_of h s bytes ≡ Ok e → SpellsEntry h s bytes e
  spells_entry bytes e f = entry_numbers bytes e h.domain (numbers_of bytes) refl refl f
