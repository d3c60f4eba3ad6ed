-- A total over entries and changes of them: the fold of the values that no change is of, and that of the values that changes leave.
use Rattle.std.proofs.Common.{◌≡◌, ◌≢◌, ℕ, zero, suc, ◌<◌, ◌≤◌, Bool, true, false, not, cond, nat_eq, List, [], ◌∷◌, ◌++◌, length, get_or, refl, sym, ap, subst, ◌∙◌, arith, append_assoc}
use Rattle.std.specs.Prelude.{◌&&◌, Option, Some, None, is_some, AllPairs, map}
use Rattle.std.specs.List.{AllByRecursion}
use Rattle.std.specs.declared.cmp.Ordering.TheVariants.{Less, Equal, Greater}
use Rattle.std.specs.Ordering.{nat_cmp, is_lt, is_eq, eq_by_cmp}
use Rattle.std.specs.Option.{option_or}
use Rattle.std.specs.Cmp.{nat_cmp_total}
use Rattle.std.specs.FinMap.{put, is_sorted, nat_cmp-IsAntisymmetric}
use Rattle.std.specs.FinMap.Entries.{below_all, by_order, is_sorted-put, is_sorted-where_key}
use Rattle.std.proofs.lemmas.Bool.Decides.{nat_tests}
use Rattle.std.proofs.lemmas.List.{append-nil, map-append}
use lib.Dec.{T}
use Rattle.grb_core.specs.declared.value.Value.{Value}
use Rattle.grb_core.specs.declared.monoid.Monoid.{Monoid}
use Rattle.grb_core.specs.Value.{IsValueOf}
use Rattle.grb_core.specs.Operator.{value_of_op}
use Rattle.grb_core.specs.Monoid.{monoid_op, monoid_domain, identity_of}
use Rattle.grb_core.specs.Fold.{fold_of}
use Rattle.grb_core.specs.Results.{reduce_of}
use Rattle.grb_core.specs.Entries.{VectorEntries, restricted, without_entry, values_of}
use Rattle.grb_core.proofs.Folds.{fold_of-is}
use Rattle.grb_core.proofs.MonoidLaws.{monoid_laws}
use Rattle.grb_rows.specs.Pending.{Change, changed, last_at}
use Rattle.grb_rows.specs.Layers.{is_listed, IsChanged}
use Rattle.grb_folds.specs.Changed.{remaining, values_left}
use Rattle.grb_semirings.specs.Products.{list_of}
use Rattle.grb_semirings.proofs.Folds.{IsFolding, folded_more}

-- whether no change is of a number
abbrev pub is_unchanged : List Change → ℕ → Bool
is_unchanged cs l = not (is_some (last_at l cs))

-- tests and entries
eq_back : (q k : ℕ) → eq_by_cmp nat_cmp k q ≡ nat_eq q k
eq_back q k = grind (arith, nat_tests)

above : (y l : ℕ) → T (is_lt (nat_cmp y l)) → y < l
above y l h = grind (arith, nat_tests)

less : (k l : ℕ) → nat_cmp k l ≡ Less → k < l
less k l h = grind (arith, nat_tests)

apart : (k l : ℕ) → k < l → eq_by_cmp nat_cmp k l ≡ false
apart k l h = grind (arith, nat_tests)

unequal : (k l : ℕ) → k ≢ l → nat_eq k l ≡ false
unequal k l n = grind (arith, nat_tests)

fst : (a b : Bool) → T (a && b) → T a
fst true b p = tt
fst false b p = absurd p

snd : (a b : Bool) → T (a && b) → T b
snd true b p = p
snd false b p = absurd p

-- nothing is taken away where every entry stands above
not_there : (k y : ℕ) (x : VectorEntries) → k ≤ y → T (below_all nat_cmp y x) → without_entry nat_cmp k x ≡ x
not_there k y [] h b = refl
not_there k y (e ∷ x) h b =
    let l : y < e.0 = above y e.0 (fst _ _ b) in
    ap (λ t. cond (not t) (e ∷ without_entry nat_cmp k x) (without_entry nat_cmp k x)) (apart k e.0 (omega (arith, h, l)))
    ∙ ap (λ (t : VectorEntries). e ∷ t) (not_there k y x h (snd _ _ b))

-- two tests, one after the other
restricted-both : (p q r : ℕ → Bool) → ((l : ℕ) → r l ≡ cond (q l) (p l) false) → (x : VectorEntries) → restricted p (restricted q x) ≡ restricted r x
restricted-both p q r h [] = refl
restricted-both p q r h (e ∷ x) =
    let rest = restricted-both p q r h x in
    elim (q e.0) as (λ b. r e.0 ≡ cond b (p e.0) false → restricted p (cond b (e ∷ restricted q x) (restricted q x)) ≡ cond (r e.0) (e ∷ restricted r x) (restricted r x)) [
      | true ↦ λ t. subst (λ c. cond (p e.0) (e ∷ restricted p (restricted q x)) (restricted p (restricted q x)) ≡ cond c (e ∷ restricted r x) (restricted r x)) (sym t)
          (ap (λ (m : VectorEntries). cond (p e.0) (e ∷ m) m) rest)
      | false ↦ λ t. subst (λ c. restricted p (restricted q x) ≡ cond c (e ∷ restricted r x) (restricted r x)) (sym t) rest
    ] (h e.0)

restricted-all : (x : VectorEntries) → restricted (λ l. true) x ≡ x
restricted-all [] = refl
restricted-all (e ∷ x) = ap (λ (t : VectorEntries). e ∷ t) (restricted-all x)

unchanged_step : (k l : ℕ) (c : Option Value) (cs : List Change) → is_unchanged ((k, c) ∷ cs) l ≡ cond (not (eq_by_cmp nat_cmp k l)) (is_unchanged cs l) false
unchanged_step k l c cs =
    ap (λ b. not (is_some (option_or (last_at l cs) (cond b (Some c) None)))) (sym (eq_back l k))
    ∙ by_tests (eq_by_cmp nat_cmp k l) (last_at l cs)
  where
    by_tests : (b : Bool) (w : Option (Option Value)) → not (is_some (option_or w (cond b (Some c) None))) ≡ cond (not b) (not (is_some w)) false
    by_tests true None = refl
    by_tests true (Some x) = refl
    by_tests false None = refl
    by_tests false (Some x) = refl

-- where a change is not of a number of those that follow, the entries that none of them is of
unchanged_without : (k : ℕ) (c : Option Value) (cs : List Change) (x : VectorEntries)
    → restricted (is_unchanged cs) (without_entry nat_cmp k x) ≡ restricted (is_unchanged ((k, c) ∷ cs)) x
unchanged_without k c cs x =
    restricted-both (is_unchanged cs) (λ l. not (eq_by_cmp nat_cmp k l)) (is_unchanged ((k, c) ∷ cs)) (λ l. unchanged_step k l c cs) x

-- no change of a number that is apart from those of all
last_at-none : (k : ℕ) (cs : List Change) → ((j : ℕ) (d : Change) → j < length cs → k ≢ (get_or cs j d).0) → last_at k cs ≡ None
last_at-none k [] h = refl
last_at-none k (c ∷ cs) h =
    ap (λ w. option_or w (cond (nat_eq k c.0) (Some c.1) None)) (last_at-none k cs (λ j d l. h (suc j) d (omega arith)))
    ∙ ap (λ b. cond b (Some c.1) None) (unequal k c.0 (h zero c (omega arith)))

module _ (m : Monoid) where
  abbrev Is : Value → Type 0
  Is = IsValueOf (monoid_domain m)

  abbrev op : Value → Value → Value
  op = value_of_op (monoid_op m)

  left_comm : (a b c : Value) → Is a → Is b → Is c → op a (op b c) ≡ op b (op a c)
  left_comm a b c f g h =
      let laws = monoid_laws m in
      sym (laws.associative a b c f g h) ∙ ap (λ x. op x c) (laws.commutative a b f g) ∙ laws.associative b a c g f h

  folding_before : (v : Value) (vs : List Value) (u : Value) → Is v → IsFolding m vs u → IsFolding m (v ∷ vs) (op v u)
  folding_before v vs u is h = record { is_sum = ap (op v) h.is_sum; of_domain = (is, h.of_domain) }

  folded : (vs : List Value) → AllByRecursion Is vs → IsFolding m vs (fold_of m vs)
  folded vs h = record { is_sum = refl; of_domain = h }

  -- a value that comes to the fold behind another
  folding_later : (v w : Value) (us vs : List Value) (u : Value) → Is v → IsFolding m (w ∷ us) u → IsFolding m vs (op v (fold_of m us)) → IsFolding m (w ∷ vs) (op v u)
  folding_later v w us vs u is g h = record {
    is_sum = ap (op v) g.is_sum ∙ left_comm v w (fold_of m us) is g.of_domain.0 (fold_of-is m us g.of_domain.1) ∙ ap (op w) h.is_sum;
    of_domain = (g.of_domain.0, h.of_domain);
  }

  -- a value that is put comes to the fold of the entries elsewhere
  folded-put : (p : ℕ → Bool) (k : ℕ) (v : Value) (x : VectorEntries) (u : Value) → T (is_sorted nat_cmp x) → p k ≡ true → Is v
      → IsFolding m (values_of (restricted p (without_entry nat_cmp k x))) u → IsFolding m (values_of (restricted p (put nat_cmp k v x))) (op v u)
  folded-put p k v [] u s t is h =
      subst (λ b. IsFolding m (values_of (cond b ((k, v) ∷ []) [])) (op v u)) (sym t) (folding_before v [] u is h)
  folded-put p k v (e ∷ x) u s t is h =
      elim (nat_cmp k e.0) as (λ r. nat_cmp k e.0 ≡ r → IsFolding m (values_of (restricted p (cond (not (is_eq r)) (e ∷ without_entry nat_cmp k x) (without_entry nat_cmp k x)))) u
      → IsFolding m (values_of (restricted p (by_order r ((k, v) ∷ e ∷ x) ((e.0, v) ∷ x) (e ∷ put nat_cmp k v x)))) (op v u)) [
        | Less ↦ λ c g.
            subst (λ b. IsFolding m (values_of (cond b ((k, v) ∷ restricted p (e ∷ x)) (restricted p (e ∷ x)))) (op v u)) (sym t)
            (folding_before v (values_of (restricted p (e ∷ x))) u is
            (subst (λ (y : VectorEntries). IsFolding m (values_of (restricted p (e ∷ y))) u) (not_there k e.0 x (le (less k e.0 c)) (fst _ _ s)) g))
        | Equal ↦ λ c g.
            subst (λ b. IsFolding m (values_of (cond b ((e.0, v) ∷ restricted p x) (restricted p x))) (op v u)) (sym (ap p (sym (nat_cmp-IsAntisymmetric k e.0 c)) ∙ t))
            (folding_before v (values_of (restricted p x)) u is
            (subst (λ (y : VectorEntries). IsFolding m (values_of (restricted p y)) u) (not_there k e.0 x (same (nat_cmp-IsAntisymmetric k e.0 c)) (fst _ _ s)) g))
        | Greater ↦ λ c.
            let without = restricted p (without_entry nat_cmp k x) in
            let with = restricted p (put nat_cmp k v x) in
            elim (p e.0) as (λ b. IsFolding m (values_of (cond b (e ∷ without) without)) u → IsFolding m (values_of (cond b (e ∷ with) with)) (op v u)) [
              | true ↦ λ g. folding_later v e.1 (values_of without) (values_of with) u is g (folded-put p k v x (fold_of m (values_of without)) (snd _ _ s) t is (folded (values_of without) g.of_domain.1))
              | false ↦ λ g. folded-put p k v x u (snd _ _ s) t is g
            ]
      ] refl h
    where
      le : {a b : ℕ} → a < b → a ≤ b
      le l = omega (arith, l)

      same : {a b : ℕ} → a ≡ b → a ≤ b
      same e = omega (arith, e)

  -- the law: what changes leave is folded with what they are not of
  pub folded-changed : (cs : List Change) (x : VectorEntries) (u w : Value) → T (is_sorted nat_cmp x) → AllPairs (λ c d. c.0 ≢ d.0) cs
      → IsFolding m (values_of (restricted (is_unchanged cs) x)) u → IsFolding m (values_left cs) w → op u w ≡ fold_of m (values_of (changed x cs))
  folded-changed [] x u w s a h g =
      let laws = monoid_laws m in
      let is : Is u = subst Is (sym h.is_sum) (fold_of-is m _ h.of_domain) in
      ap (op u) g.is_sum ∙ laws.commutative u (identity_of m) is laws.identity_is ∙ laws.neutral u is
      ∙ h.is_sum ∙ ap (λ (t : VectorEntries). fold_of m (values_of t)) (restricted-all x)
  folded-changed ((k, None) ∷ cs) x u w s a h g =
      folded-changed cs (without_entry nat_cmp k x) u w (is_sorted-where_key nat_cmp (λ l. not (eq_by_cmp nat_cmp k l)) x s) (λ i j d l n. a (suc i) (suc j) d (omega arith) (omega arith))
      (subst (λ (t : VectorEntries). IsFolding m (values_of t) u) (sym (unchanged_without k None cs x)) h) g
  folded-changed ((k, Some v) ∷ cs) x u w s a h g =
      let laws = monoid_laws m in
      let free : is_unchanged cs k ≡ true = ap (λ o. not (is_some o)) (last_at-none k cs (λ j d l. a zero (suc j) d (omega arith) (omega arith))) in
      let rest = values_left cs in
      let of_rest : AllByRecursion Is rest = g.of_domain.1 in
      let is_u : Is u = subst Is (sym h.is_sum) (fold_of-is m _ h.of_domain) in
      let is_rest : Is (fold_of m rest) = fold_of-is m rest of_rest in
      ap (op u) g.is_sum
      ∙ left_comm u v (fold_of m rest) is_u g.of_domain.0 is_rest
      ∙ sym (laws.associative v u (fold_of m rest) g.of_domain.0 is_u is_rest)
      ∙ folded-changed cs (put nat_cmp k v x) (op v u) (fold_of m rest) (is_sorted-put nat_cmp nat_cmp_total k v x s) (λ i j d l n. a (suc i) (suc j) d (omega arith) (omega arith))
      (folded-put (is_unchanged cs) k v x u s free g.of_domain.0 (subst (λ (t : VectorEntries). IsFolding m (values_of t) u) (sym (unchanged_without k (Some v) cs x)) h))
      (folded rest of_rest)

-- by place and by number
remaining-numbered : (out : ℕ → Bool) (f : ℕ → Bool) (x : VectorEntries) → ((q : ℕ) (d : ℕ × Value) → q < length x → out q ≡ f (get_or x q d).0)
    → remaining out (values_of x) ≡ values_of (restricted (λ l. not (f l)) x)
remaining-numbered out f [] h = refl
remaining-numbered out f (e ∷ x) h =
    let rest = remaining-numbered (λ q. out (suc q)) f x (λ q d l. h (suc q) d (omega arith)) in
    ap (λ b. cond b (remaining (λ q. out (suc q)) (values_of x)) (e.1 ∷ remaining (λ q. out (suc q)) (values_of x))) (h zero e (omega arith))
    ∙ ap (λ (t : List Value). cond (f e.0) t (e.1 ∷ t)) rest
    ∙ elim (f e.0) as (λ b. cond b (values_of (restricted (λ l. not (f l)) x)) (e.1 ∷ values_of (restricted (λ l. not (f l)) x)) ≡ values_of (cond (not b) (e ∷ restricted (λ l. not (f l)) x) (restricted (λ l. not (f l)) x))) [
      | true ↦ refl
      | false ↦ refl
    ]

-- the total of what changes make of entries, from the fold of the values at places that are not listed and the fold of those left
pub total_changed : (m : Monoid) (x : VectorEntries) (places : List ℕ) (cs : List Change) (vs : List Value) (u w : Value) → IsChanged x places cs → vs ≡ values_of x
    → IsFolding m (remaining (is_listed places) vs) u → IsFolding m (values_left cs) w → value_of_op (monoid_op m) u w ≡ reduce_of m (changed x cs)
total_changed m x places cs vs u w c same h g =
    folded-changed m cs x u w (subst T (sym c.ordered) tt) c.apart
    (subst (λ t. IsFolding m t u) (ap (remaining (is_listed places)) same ∙ remaining-numbered (is_listed places) (λ l. is_some (last_at l cs)) x c.placed) h) g

-- the values that one more change leaves
values_left-append : (cs ds : List Change) → values_left (cs ++ ds) ≡ values_left cs ++ values_left ds
values_left-append [] ds = refl
values_left-append (c ∷ cs) ds = ap (λ (t : List Value). list_of c.1 ++ t) (values_left-append cs ds) ∙ sym (append_assoc (list_of c.1) (values_left cs) (values_left ds))

-- changes that are gone through, as what shows them: those so far, and those that follow
module _ {A : Type 0} (shows : A → Change) (ys : List A) where
  pub through_next : (y : A) (rest more all : List Change) → map shows ys ++ rest ≡ all → rest ≡ shows y ∷ more → map shows (ys ++ y ∷ []) ++ more ≡ all
  through_next y rest more all h e =
      ap (λ (t : List Change). t ++ more) (map-append shows ys (y ∷ [])) ∙ append_assoc (map shows ys) (shows y ∷ []) more
      ∙ ap (λ (t : List Change). map shows ys ++ t) (sym e) ∙ h

  pub through_all : (rest all : List Change) → map shows ys ++ rest ≡ all → rest ≡ [] → map shows ys ≡ all
  through_all rest all h e = sym (append-nil (map shows ys)) ∙ ap (λ (t : List Change). map shows ys ++ t) (sym e) ∙ h

  module _ (m : Monoid) (y : A) where
    next_left : (o : Option Value) → (shows y).1 ≡ o → values_left (map shows (ys ++ y ∷ [])) ≡ values_left (map shows ys) ++ (list_of o ++ [])
    next_left o e =
        ap values_left (map-append shows ys (y ∷ [])) ∙ values_left-append (map shows ys) (shows y ∷ [])
        ∙ ap (λ w. values_left (map shows ys) ++ (list_of w ++ [])) e

    pub left_some : (v sum next : Value) → (shows y).1 ≡ Some v → IsFolding m (values_left (map shows ys)) sum → IsValueOf (monoid_domain m) v → next ≡ value_of_op (monoid_op m) sum v
        → IsFolding m (values_left (map shows (ys ++ y ∷ []))) next
    left_some v sum next e h is made =
        subst (λ vs. IsFolding m vs next) (sym (next_left (Some v) e)) (folded_more m (values_left (map shows ys)) sum v next h is made)

    pub left_none : (sum : Value) → (shows y).1 ≡ None → IsFolding m (values_left (map shows ys)) sum → IsFolding m (values_left (map shows (ys ++ y ∷ []))) sum
    left_none sum e h = subst (λ vs. IsFolding m vs sum) (sym (next_left None e ∙ append-nil (values_left (map shows ys)))) h
