-- Changes one after the other: what is stored at an index after them.
use Rattle.std.proofs.Common.{Result, Ok, Err, ◌≡◌, ℕ, ◌+◌, ◌<◌, ◌≤◌, Bool, true, false, not, cond, nat_eq, List, [], ◌∷◌, ◌++◌, length, Some, None, Option, refl, sym, ap, ◌∙◌, arith}
use Rattle.std.specs.Prelude.{is_some, IsOk, OnOk}
use Rattle.std.specs.List.{AllByRecursion}
use Rattle.std.specs.declared.cmp.Ordering.TheVariants.{Less, Equal, Greater}
use Rattle.std.specs.Ordering.{nat_cmp, eq_by_cmp}
use Rattle.std.specs.Option.{option_or}
use Rattle.std.specs.Cmp.{nat_cmp_total}
use Rattle.std.specs.FinMap.{find, put, is_sorted, nat_cmp-IsAntisymmetric}
use Rattle.std.specs.FinMap.Entries.{by_order, is_sorted-put, is_sorted-where_key, find-put, find-where_key, length-put, length_without, same_entries}
use Rattle.std.proofs.lemmas.Bool.Decides.{nat_tests}
use lib.Dec.{T}
use Rattle.grb_core.specs.declared.value.Value.{Value}
use Rattle.grb_core.specs.Entries.{VectorEntries, without_entry}
use Rattle.grb_rows.specs.Pending.{Change, changed_at, changed, last_at, over}
use Rattle.grb_lists.proofs.Ends.{keys_put}

pub eq_cmp : (q k : ℕ) → eq_by_cmp nat_cmp q k ≡ nat_eq q k
eq_cmp q k = grind (arith, nat_tests)

eq_back : (q k : ℕ) → eq_by_cmp nat_cmp k q ≡ nat_eq q k
eq_back q k = grind (arith, nat_tests)

without_self : (b : Bool) (w : Option Value) → cond (not b) w None ≡ cond b None w
without_self true w = refl
without_self false w = refl

pub find-changed_at : (q k : ℕ) (c : Option Value) (m : VectorEntries) → find nat_cmp q (changed_at k c m) ≡ cond (nat_eq q k) c (find nat_cmp q m)
find-changed_at q k None m =
    find-where_key nat_cmp (λ l. not (eq_by_cmp nat_cmp k l)) q (λ x t. ap (λ l. not (eq_by_cmp nat_cmp k l)) (sym (nat_cmp-IsAntisymmetric q x t))) m
    ∙ ap (λ b. cond (not b) (find nat_cmp q m) None) (eq_back q k)
    ∙ without_self (nat_eq q k) (find nat_cmp q m)
find-changed_at q k (Some v) m = find-put nat_cmp nat_cmp_total q k v m ∙ ap (λ b. cond b (Some v) (find nat_cmp q m)) (eq_cmp q k)

over_step : (l : Option (Option Value)) (b : Bool) (c w : Option Value) → over l (cond b c w) ≡ over (option_or l (cond b (Some c) None)) w
over_step None true c w = refl
over_step None false c w = refl
over_step (Some x) b c w = refl

-- the last change of an index counts
pub find-changed : (q : ℕ) (cs : List Change) (m : VectorEntries) → find nat_cmp q (changed m cs) ≡ over (last_at q cs) (find nat_cmp q m)
find-changed q [] m = refl
find-changed q (c ∷ cs) m =
    find-changed q cs (changed_at c.0 c.1 m)
    ∙ ap (over (last_at q cs)) (find-changed_at q c.0 c.1 m)
    ∙ over_step (last_at q cs) (nat_eq q c.0) c.1 (find nat_cmp q m)

pub is_sorted-changed_at : (k : ℕ) (c : Option Value) (m : VectorEntries) → T (is_sorted nat_cmp m) → T (is_sorted nat_cmp (changed_at k c m))
is_sorted-changed_at k None m h = is_sorted-where_key nat_cmp (λ l. not (eq_by_cmp nat_cmp k l)) m h
is_sorted-changed_at k (Some v) m h = is_sorted-put nat_cmp nat_cmp_total k v m h

pub is_sorted-changed : (cs : List Change) (m : VectorEntries) → T (is_sorted nat_cmp m) → T (is_sorted nat_cmp (changed m cs))
is_sorted-changed [] m h = h
is_sorted-changed (c ∷ cs) m h = is_sorted-changed cs (changed_at c.0 c.1 m) (is_sorted-changed_at c.0 c.1 m h)

or_step : (b : Bool) (c : Option Value) (l x : Option (Option Value)) → option_or (cond b (Some c) l) x ≡ cond b (Some c) (option_or l x)
or_step true c l x = refl
or_step false c l x = refl

-- one more change
pub last_at-push : (q k : ℕ) (c : Option Value) (cs : List Change) → last_at q (cs ++ (k, c) ∷ []) ≡ cond (nat_eq q k) (Some c) (last_at q cs)
last_at-push q k c [] = refl
last_at-push q k c (d ∷ cs) =
    ap (λ l. option_or l (cond (nat_eq q d.0) (Some d.1) None)) (last_at-push q k c cs)
    ∙ or_step (nat_eq q k) c (last_at q cs) (cond (nat_eq q d.0) (Some d.1) None)

pub changed-push : (k : ℕ) (c : Option Value) (cs : List Change) (m : VectorEntries) → changed m (cs ++ (k, c) ∷ []) ≡ changed_at k c (changed m cs)
changed-push k c [] m = refl
changed-push k c (d ∷ cs) m = changed-push k c cs (changed_at d.0 d.1 m)

-- two maps in order that have the same at each index are one
pub same_map : (m n : VectorEntries) → T (is_sorted nat_cmp m) → T (is_sorted nat_cmp n) → ((q : ℕ) → find nat_cmp q m ≡ find nat_cmp q n) → m ≡ n
same_map m n g h is = same_entries nat_cmp nat_cmp_total nat_cmp-IsAntisymmetric m n g h is

-- the number of entries after a change: what was stored there, and what is
pub length-changed_at : (k : ℕ) (c : Option Value) (m : VectorEntries) → T (is_sorted nat_cmp m)
    → length (changed_at k c m) + cond (is_some (find nat_cmp k m)) 1 0 ≡ length m + cond (is_some c) 1 0
length-changed_at k None m h = let e = length_without nat_cmp nat_cmp_total k m h in omega (arith, e)
length-changed_at k (Some v) m h =
    elim (is_some (find nat_cmp k m)) as (λ b. length (put nat_cmp k v m) ≡ cond b (length m) (length m + 1) → length (put nat_cmp k v m) + cond b 1 0 ≡ length m + 1) [
      | true ↦ λ e. omega (arith, e)
      | false ↦ λ e. omega (arith, e)
    ] (length-put nat_cmp nat_cmp_total k v m h)

at_most_one : (b : Bool) → cond b 1 0 ≤ 1
at_most_one true = omega arith
at_most_one false = omega arith

pub length-changed_le : (cs : List Change) (m : VectorEntries) → T (is_sorted nat_cmp m) → length (changed m cs) ≤ length m + length cs
length-changed_le [] m h = omega arith
length-changed_le (c ∷ cs) m h =
    let rest = length-changed_le cs (changed_at c.0 c.1 m) (is_sorted-changed_at c.0 c.1 m h) in
    let one = length-changed_at c.0 c.1 m h in
    let few = at_most_one (is_some c.1) in
    omega (arith, rest, one, few)

-- what is said of an answer that is there
pub told : {X E : Type 0} {P : Type 0} (r : Result X E) → IsOk r → OnOk r P → P
told (Ok x) i h = h
told (Err e) i h = cc

-- ---- changes at the end of a map
lower : (a k : ℕ) → a < k → nat_cmp a k ≡ Less
lower a k l = grind (arith, nat_tests)

other : (a k : ℕ) → a < k → eq_by_cmp nat_cmp a k ≡ false
other a k l = grind (arith, nat_tests)

changed_at-front : (k : ℕ) (c : Option Value) (e : ℕ × Value) (m : VectorEntries) → k < e.0 → changed_at k c (m ++ e ∷ []) ≡ changed_at k c m ++ e ∷ []
changed_at-front k None e [] l = ap (λ b. cond (not b) (e ∷ []) []) (other k e.0 l)
changed_at-front k None e (x ∷ m) l =
    elim (eq_by_cmp nat_cmp k x.0) as (λ b. cond (not b) (x ∷ without_entry nat_cmp k (m ++ e ∷ [])) (without_entry nat_cmp k (m ++ e ∷ [])) ≡ cond (not b) (x ∷ without_entry nat_cmp k m) (without_entry nat_cmp k m) ++ e ∷ []) [
      | true ↦ changed_at-front k None e m l
      | false ↦ ap (λ (s : VectorEntries). x ∷ s) (changed_at-front k None e m l)
    ]
changed_at-front k (Some v) e [] l = ap (λ r. by_order r ((k, v) ∷ e ∷ []) ((e.0, v) ∷ []) (e ∷ (k, v) ∷ [])) (lower k e.0 l)
changed_at-front k (Some v) e (x ∷ m) l =
    elim (nat_cmp k x.0) as (λ r. by_order r ((k, v) ∷ x ∷ (m ++ e ∷ [])) ((x.0, v) ∷ (m ++ e ∷ [])) (x ∷ put nat_cmp k v (m ++ e ∷ [])) ≡ by_order r ((k, v) ∷ x ∷ m) ((x.0, v) ∷ m) (x ∷ put nat_cmp k v m) ++ e ∷ []) [
      | Less ↦ refl
      | Equal ↦ refl
      | Greater ↦ ap (λ (s : VectorEntries). x ∷ s) (changed_at-front k (Some v) e m l)
    ]

-- an entry above all changes stays at the end
pub changed-front : (cs : List Change) (e : ℕ × Value) (m : VectorEntries) → AllByRecursion (λ c. c.0 < e.0) cs → changed (m ++ e ∷ []) cs ≡ changed m cs ++ e ∷ []
changed-front [] e m h = refl
changed-front (c ∷ cs) e m h = ap (λ (n : VectorEntries). changed n cs) (changed_at-front c.0 c.1 e m h.0) ∙ changed-front cs e (changed_at c.0 c.1 m) h.1

-- indices after changes
keys_changed_at : (x k : ℕ) (c : Option Value) (m : VectorEntries) → k < x → AllByRecursion (λ e. e.0 < x) m → AllByRecursion (λ e. e.0 < x) (changed_at k c m)
keys_changed_at x k None [] l h = tt
keys_changed_at x k None (e ∷ m) l h =
    let rest = keys_changed_at x k None m l h.1 in
    elim (eq_by_cmp nat_cmp k e.0) as (λ b. AllByRecursion (λ e. e.0 < x) (cond (not b) (e ∷ without_entry nat_cmp k m) (without_entry nat_cmp k m))) [ true ↦ rest | false ↦ (h.0, rest) ]
keys_changed_at x k (Some v) m l h = keys_put (λ a. a < x) k v m l h

pub keys_changed : (x : ℕ) (cs : List Change) (m : VectorEntries) → AllByRecursion (λ e. e.0 < x) m → AllByRecursion (λ c. c.0 < x) cs → AllByRecursion (λ e. e.0 < x) (changed m cs)
keys_changed x [] m h g = h
keys_changed x (c ∷ cs) m h g = keys_changed x cs (changed_at c.0 c.1 m) (keys_changed_at x c.0 c.1 m g.0 h) g.1
