-- A fold so far, and one that ends early.
use Rattle.std.proofs.Common.{◌≡◌, ℕ, zero, suc, ◌+◌, arith, ◌<◌, ◌≤◌, List, [], ◌∷◌, ◌++◌, length, take, drop, get_or, sym, ap, subst, ◌∙◌}
use Rattle.std.specs.Prelude.{All, map}
use Rattle.std.specs.List.{AllByRecursion}
use Rattle.std.proofs.Math.Seq.{take-add}
use Rattle.std.proofs.lemmas.List.{map_more, map-append, take_all, take-append-drop}
use Rattle.std.proofs.lemmas.List.Elements.{recursion_from_All}
use Rattle.grb_core.specs.declared.value.Value.{Value}
use Rattle.grb_core.specs.declared.monoid.Monoid.{Monoid}
use Rattle.grb_core.specs.Value.{IsValueOf}
use Rattle.grb_core.specs.Operator.{value_of_op}
use Rattle.grb_core.specs.Monoid.{monoid_op, monoid_domain, identity_of}
use Rattle.grb_core.specs.Fold.{fold_of}
use Rattle.grb_core.proofs.MonoidLaws.{monoid_laws}
use Rattle.grb_core.proofs.Folds.{fold_of-append, fold_of-is}
use Rattle.grb_core.proofs.Made.{all-append, all-map}

-- a fold so far: its value, and that its values are of the domain
pub record IsFolding (m : Monoid) (vs : List Value) (sum : Value) : Type 0 where
  pub is_sum : sum ≡ fold_of m vs
  pub of_domain : AllByRecursion (IsValueOf (monoid_domain m)) vs

module _ (m : Monoid) where
  pub all_more : (vs : List Value) (v : Value) → AllByRecursion (IsValueOf (monoid_domain m)) vs → IsValueOf (monoid_domain m) v → AllByRecursion (IsValueOf (monoid_domain m)) (vs ++ v ∷ [])
  all_more [] v h is = (is, tt)
  all_more (x ∷ vs) v h is = (h.0, all_more vs v h.1 is)

  pub fold_of-one : (v : Value) → IsValueOf (monoid_domain m) v → fold_of m (v ∷ []) ≡ v
  fold_of-one v is = (monoid_laws m).commutative v (identity_of m) is (monoid_laws m).identity_is ∙ (monoid_laws m).neutral v is

  pub fold_of-more : (vs : List Value) (v : Value) → AllByRecursion (IsValueOf (monoid_domain m)) vs → IsValueOf (monoid_domain m) v
      → fold_of m (vs ++ v ∷ []) ≡ value_of_op (monoid_op m) (fold_of m vs) v
  fold_of-more vs v h is = fold_of-append m vs (v ∷ []) h (is, tt) ∙ ap (value_of_op (monoid_op m) (fold_of m vs)) (fold_of-one v is)

  -- one more value
  pub folded_more : (vs : List Value) (sum v next : Value) → IsFolding m vs sum → IsValueOf (monoid_domain m) v → next ≡ value_of_op (monoid_op m) sum v
      → IsFolding m (vs ++ v ∷ []) next
  folded_more vs sum v next h is e = record {
    is_sum = e ∙ ap (λ x. value_of_op (monoid_op m) x v) h.is_sum ∙ sym (fold_of-more vs v h.of_domain is);
    of_domain = all_more vs v h.of_domain is;
  }

  -- the identity changes no fold
  pub added_nothing : (vs : List Value) (sum : Value) → IsFolding m vs sum → value_of_op (monoid_op m) sum (identity_of m) ≡ sum
  added_nothing vs sum h =
      let is : IsValueOf (monoid_domain m) sum = subst (IsValueOf (monoid_domain m)) (sym h.is_sum) (fold_of-is m vs h.of_domain) in
      (monoid_laws m).commutative sum (identity_of m) is (monoid_laws m).identity_is ∙ (monoid_laws m).neutral sum is

  -- two lists that are folded apart
  pub folded_parts : (us vs : List Value) (a b sum : Value) → IsFolding m us a → IsFolding m vs b → sum ≡ value_of_op (monoid_op m) a b → IsFolding m (us ++ vs) sum
  folded_parts us vs a b sum g h e = record {
    is_sum = e ∙ ap (λ x. value_of_op (monoid_op m) x b) g.is_sum ∙ ap (value_of_op (monoid_op m) (fold_of m us)) h.is_sum ∙ sym (fold_of-append m us vs g.of_domain h.of_domain);
    of_domain = all-append (IsValueOf (monoid_domain m)) us vs g.of_domain h.of_domain;
  }

  -- a sum that no value changes is the sum of more values too
  pub folded_final : (us vs : List Value) (sum : Value) → IsFolding m us sum → AllByRecursion (IsValueOf (monoid_domain m)) vs
      → ((v : Value) → IsValueOf (monoid_domain m) v → value_of_op (monoid_op m) sum v ≡ sum) → sum ≡ fold_of m (us ++ vs)
  folded_final us vs sum h is stays =
      sym (stays (fold_of m vs) (fold_of-is m vs is)) ∙ ap (λ x. value_of_op (monoid_op m) x (fold_of m vs)) h.is_sum ∙ sym (fold_of-append m us vs h.of_domain is)

  -- a fold that meets a terminal value has it as its result
  pub fold_of-terminal : (us : List Value) (t : Value) (vs : List Value) → AllByRecursion (IsValueOf (monoid_domain m)) us → IsValueOf (monoid_domain m) t
      → ((v : Value) → value_of_op (monoid_op m) t v ≡ t) → fold_of m (us ++ t ∷ vs) ≡ t
  fold_of-terminal [] t vs h is stays = stays (fold_of m vs)
  fold_of-terminal (u ∷ us) t vs h is stays =
      ap (value_of_op (monoid_op m) u) (fold_of-terminal us t vs h.1 is stays)
      ∙ (monoid_laws m).commutative u t h.0 is
      ∙ stays u

-- a list that is read up to an element, that element, and the rest
pub map-parted : {V : Type 0} (value : V → Value) (vs : List V) (i : ℕ) (x : V) → i < length vs → x ≡ get_or vs i x
    → map value vs ≡ map value (take i vs) ++ value x ∷ map value (drop (suc i) vs)
map-parted value [] i x h e = absurd (omega arith)
map-parted value (v ∷ vs) zero x h e = ap (λ w. value w ∷ map value vs) (sym e)
map-parted value (v ∷ vs) (suc i) x h e = ap (λ (t : List Value). value v ∷ t) (map-parted value vs i x (omega arith) e)

pub met_terminal : (m : Monoid) {V : Type 0} (value : V → Value) (vs : List V) (i : ℕ) (x : V) (sum : Value) → IsFolding m (map value (take i vs)) sum → IsValueOf (monoid_domain m) (value x)
    → ((v : Value) → value_of_op (monoid_op m) (value x) v ≡ value x) → i < length vs → x ≡ get_or vs i x → value x ≡ fold_of m (map value vs)
met_terminal m value vs i x sum h is stays lt e =
    sym (fold_of-terminal m (map value (take i vs)) (value x) (map value (drop (suc i) vs)) h.of_domain is stays)
    ∙ ap (fold_of m) (sym (map-parted value vs i x lt e))

pub all_later : (P : Value → Type 0) (us vs : List Value) → AllByRecursion P (us ++ vs) → AllByRecursion P vs
all_later P [] vs h = h
all_later P (u ∷ us) vs h = all_later P us vs h.1

pub all_before : (P : Value → Type 0) (us vs : List Value) → AllByRecursion P (us ++ vs) → AllByRecursion P us
all_before P [] vs h = tt
all_before P (u ∷ us) vs h = (h.0, all_before P us vs h.1)

-- a list of values of the domain in two parts
module _ (m : Monoid) {V : Type 0} (value : V → Value) (vs : List V) (i : ℕ) (is : All (λ x. IsValueOf (monoid_domain m) (value x)) vs) where
  pub values_parted : map value vs ≡ map value (take i vs) ++ map value (drop i vs)
  values_parted = ap (map value) (sym (take-append-drop i vs)) ∙ map-append value (take i vs) (drop i vs)

  pub values_later : AllByRecursion (IsValueOf (monoid_domain m)) (map value (drop i vs))
  values_later =
      all_later (IsValueOf (monoid_domain m)) (map value (take i vs)) (map value (drop i vs))
      (subst (AllByRecursion (IsValueOf (monoid_domain m))) values_parted
      (all-map (IsValueOf (monoid_domain m)) value vs (recursion_from_All (λ x. IsValueOf (monoid_domain m) (value x)) vs is)))

-- one more part of a list
pub folded_block : (m : Monoid) {V : Type 0} (value : V → Value) (vs : List V) (i n : ℕ) (sum part next : Value) → All (λ x. IsValueOf (monoid_domain m) (value x)) vs
    → IsFolding m (map value (take i vs)) sum → part ≡ fold_of m (map value (take n (drop i vs))) → next ≡ value_of_op (monoid_op m) sum part → IsFolding m (map value (take (i + n) vs)) next
folded_block m value vs i n sum part next is h e made =
    let rest = drop i vs in
    let some : AllByRecursion (IsValueOf (monoid_domain m)) (map value (take n rest)) =
    all_before (IsValueOf (monoid_domain m)) (map value (take n rest)) (map value (drop n rest))
    (subst (AllByRecursion (IsValueOf (monoid_domain m))) (ap (map value) (sym (take-append-drop n rest)) ∙ map-append value (take n rest) (drop n rest)) (values_later m value vs i is)) in
    subst (λ us. IsFolding m us next) (sym (ap (map value) (take-add i n vs) ∙ map-append value (take i vs) (take n rest)))
    (folded_parts m (map value (take i vs)) (map value (take n rest)) sum part next h (record { is_sum = e; of_domain = some }) made)

-- one more value of a list: what reading it shows
pub folded_next : (m : Monoid) {V : Type 0} (value : V → Value) (vs : List V) (i : ℕ) (read item : V) (sum next : Value) → IsFolding m (map value (take i vs)) sum
    → IsValueOf (monoid_domain m) (value item) → read ≡ item → i < length vs → item ≡ get_or vs i item → next ≡ value_of_op (monoid_op m) sum (value read)
    → IsFolding m (map value (take (i + 1) vs)) next
folded_next m value vs i read item sum next h is same lt at made =
    subst (λ us. IsFolding m us next) (sym (map_more value vs i item lt ∙ ap (λ v. map value (take i vs) ++ value v ∷ []) (sym at)))
    (folded_more m (map value (take i vs)) sum (value item) next h is (made ∙ ap (λ x. value_of_op (monoid_op m) sum (value x)) same))

-- all values of a list
pub folded_all : (m : Monoid) {V : Type 0} (value : V → Value) (vs : List V) (i : ℕ) (sum : Value) → IsFolding m (map value (take i vs)) sum → length vs ≤ i → IsFolding m (map value vs) sum
folded_all m value vs i sum h le = subst (λ us. IsFolding m (map value us) sum) (take_all i vs le) h
