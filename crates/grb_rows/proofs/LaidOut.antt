-- What is found in a row with changes, and after one more write or change.
use Rattle.std.proofs.Common.{◌≡◌, ℕ, ◌<◌, Bool, true, false, cond, nat_eq, List, [], ◌∷◌, length, get_or, set, Some, None, Option, refl, sym, ap, subst, ◌∙◌, arith}
use Rattle.std.specs.Prelude.{is_some, IfSome}
use Rattle.std.specs.Ordering.{nat_cmp, is_lt}
use Rattle.std.specs.Option.{option_or}
use Rattle.std.specs.Cmp.{nat_cmp_total}
use Rattle.std.specs.FinMap.{find, put, is_sorted}
use Rattle.std.specs.FinMap.Entries.{below_all, is_sorted-put, find-put}
use Rattle.std.proofs.lemmas.Bool.Decides.{nat_tests}
use lib.Dec.{T}
use Rattle.grb_core.specs.declared.value.Value.{Value}
use Rattle.grb_core.specs.declared.value.Value.TheVariants as value
use Rattle.grb_core.specs.Value.{value_domain}
use Rattle.grb_core.specs.Entries.{VectorEntries}
use Rattle.grb_rows.specs.Pending.{Change, changed, last_at, IsChangeOf, over}
use Rattle.grb_lists.specs.Stored.{RowView}
use Rattle.grb_rows.specs.Held.{stored, IsLaid}
use Rattle.grb_lists.proofs.Places.{first, second, holds, passes, find-at, put-at}
use Rattle.grb_lists.proofs.Ends.{tie}
use Rattle.grb_rows.proofs.Changes.{eq_cmp, find-changed, is_sorted-changed, same_map}

is_it : (q k : ℕ) → nat_eq q k ≡ true → q ≡ k
is_it q k h = grind (arith, nat_tests)

pub is_sorted-stored : (row : RowView) (cs : List Change) → T (is_sorted nat_cmp row.entries) → T (is_sorted nat_cmp (stored row cs))
is_sorted-stored row cs h = is_sorted-changed cs row.entries h

-- whether something is stored at an index after changes, from what the last one leaves
pub stands-over : (row : RowView) (cs : List Change) (k : ℕ) (stood : Bool) → stood ≡ is_some (over (last_at k cs) (find nat_cmp k row.entries)) → stood ≡ is_some (find nat_cmp k (stored row cs))
stands-over row cs k stood is = is ∙ ap is_some (sym (find-changed k cs row.entries))

module _ (row : RowView) (cs : List Change) (laid : IsLaid row cs) (k : ℕ) where
  module _ (i : ℕ) (inside : i < length row.entries) (is : (d : ℕ × Value) → (get_or row.entries i d).0 ≡ k) where
    -- where a value stands in the row and no change waits
    pub stands-stored : last_at k cs ≡ None → true ≡ is_some (find nat_cmp k (stored row cs))
    stands-stored none =
        let d : ℕ × Value = (k, value.Bool true) in
        let stands = ap is_some (find-at nat_cmp_total k row.entries i d (holds laid.ordered) inside (tie k _ (sym (is d)))) in
        stands-over row cs k true (sym (ap (λ l. is_some (over l (find nat_cmp k row.entries))) none ∙ stands))

    -- after a write of a value where no change waits
    module _ (v : Value) (new : RowView) (rows : (d : ℕ × Value) → new.entries ≡ set row.entries i ((get_or row.entries i d).0, v)) where
      is_put : new.entries ≡ put nat_cmp k v row.entries
      is_put = let d : ℕ × Value = (k, v) in rows d ∙ put-at nat_cmp_total k v row.entries i d (holds laid.ordered) inside (tie k _ (sym (is d)))

      pub find-written : last_at k cs ≡ None → (q : ℕ) → find nat_cmp q (stored new cs) ≡ cond (nat_eq q k) (Some v) (find nat_cmp q (stored row cs))
      find-written none q =
          find-changed q cs new.entries
          ∙ ap (λ (m : VectorEntries). over (last_at q cs) (find nat_cmp q m)) is_put
          ∙ ap (over (last_at q cs)) (find-put nat_cmp nat_cmp_total q k v row.entries ∙ ap (λ b. cond b (Some v) (find nat_cmp q row.entries)) (eq_cmp q k))
          ∙ past (nat_eq q k) (last_at q cs) (Some v) (find nat_cmp q row.entries) (λ t. ap (λ x. last_at x cs) (is_it q k t) ∙ none)
          ∙ ap (cond (nat_eq q k) (Some v)) (sym (find-changed q cs row.entries))
        where
          past : (t : Bool) (l : Option (Option Value)) (x w : Option Value) → (t ≡ true → l ≡ None) → over l (cond t x w) ≡ cond t x (over l w)
          past true l x w h = ap (λ y. over y x) (h refl)
          past false l x w h = refl

      pub laid-written : new.domain ≡ row.domain → IsLaid new cs
      laid-written same = record {
        ordered = passes _ (subst (λ (m : VectorEntries). T (is_sorted nat_cmp m)) (sym is_put) (is_sorted-put nat_cmp nat_cmp_total k v row.entries (holds laid.ordered)));
        inside = λ q. subst (λ x. IfSome (last_at q cs) (λ d. IsChangeOf x (q, d))) (sym same) (laid.inside q);
      }

  -- after one more change
  module _ (c : Option Value) (fs : List Change) (is : (q : ℕ) → last_at q fs ≡ cond (nat_eq q k) (Some c) (last_at q cs)) where
    pub find-pushed : (q : ℕ) → find nat_cmp q (stored row fs) ≡ cond (nat_eq q k) c (find nat_cmp q (stored row cs))
    find-pushed q =
        find-changed q fs row.entries
        ∙ ap (λ l. over l (find nat_cmp q row.entries)) (is q)
        ∙ past (nat_eq q k) (last_at q cs) (find nat_cmp q row.entries)
        ∙ ap (cond (nat_eq q k) c) (sym (find-changed q cs row.entries))
      where
        past : (t : Bool) (l : Option (Option Value)) (w : Option Value) → over (cond t (Some c) l) w ≡ cond t c (over l w)
        past true l w = refl
        past false l w = refl

    pub laid-pushed : IfSome c (λ v. value_domain v ≡ row.domain) → IsLaid row fs
    laid-pushed of_domain = record {
      ordered = laid.ordered;
      inside = λ q. subst (λ l. IfSome l (λ d. IsChangeOf row.domain (q, d))) (sym (is q)) (each (nat_eq q k) q (last_at q cs) (laid.inside q));
    }
      where
        each : (t : Bool) (q : ℕ) (l : Option (Option Value)) → IfSome l (λ d. IsChangeOf row.domain (q, d)) → IfSome (cond t (Some c) l) (λ d. IsChangeOf row.domain (q, d))
        each true q l h = of_domain
        each false q l h = h

  -- after a removal where nothing is
  pub find-same : find nat_cmp k (stored row cs) ≡ None → (q : ℕ) → find nat_cmp q (stored row cs) ≡ cond (nat_eq q k) None (find nat_cmp q (stored row cs))
  find-same none q = same (nat_eq q k) (find nat_cmp q (stored row cs)) (λ t. ap (λ x. find nat_cmp x (stored row cs)) (is_it q k t) ∙ none)
    where
      same : (t : Bool) (w : Option Value) → (t ≡ true → w ≡ None) → w ≡ cond t None w
      same true w h = h refl
      same false w h = refl

-- ---- the last changes alone
none_below : (x : ℕ) (cs : List Change) → T (below_all nat_cmp x cs) → last_at x cs ≡ None
none_below x [] h = refl
none_below x (c ∷ cs) h =
    ap (λ l. option_or l (cond (nat_eq x c.0) (Some c.1) None)) (none_below x cs (second _ _ h))
    ∙ ap (λ b. cond b (Some c.1) None) (lower x c.0 (passes _ (first _ _ h)))
  where
    lower : (x k : ℕ) → is_lt (nat_cmp x k) ≡ true → nat_eq x k ≡ false
    lower x k h = grind (arith, nat_tests)

-- in a list in order each index has one change
pub last_at-sorted : (q : ℕ) (cs : List Change) → T (is_sorted nat_cmp cs) → last_at q cs ≡ find nat_cmp q cs
last_at-sorted q [] h = refl
last_at-sorted q (c ∷ cs) h =
    elim (nat_eq q c.0) as (λ b. nat_eq q c.0 ≡ b → option_or (last_at q cs) (cond b (Some c.1) None) ≡ cond b (Some c.1) (find nat_cmp q cs)) [
      | true ↦ λ t. ap (λ l. option_or l (Some c.1)) (ap (λ x. last_at x cs) (is_it q c.0 t) ∙ none_below c.0 cs (first _ _ h))
      | false ↦ λ t. or_none (last_at q cs) ∙ last_at-sorted q cs (second _ _ h)
    ] refl
    ∙ ap (λ b. cond b (Some c.1) (find nat_cmp q cs)) (sym (eq_cmp q c.0))
  where
    or_none : (l : Option (Option Value)) → option_or l None ≡ l
    or_none None = refl
    or_none (Some x) = refl

-- changes that have the same last ones make the same map
pub same_changes : (m : VectorEntries) (cs ds : List Change) → T (is_sorted nat_cmp m) → ((q : ℕ) → last_at q cs ≡ last_at q ds) → changed m cs ≡ changed m ds
same_changes m cs ds h is = same_map (changed m cs) (changed m ds) (is_sorted-changed cs m h) (is_sorted-changed ds m h) (λ q. find-changed q cs m ∙ ap (λ l. over l (find nat_cmp q m)) (is q) ∙ sym (find-changed q ds m))

pub nothing_there : (w : Option Value) → is_some w ≡ false → w ≡ None
nothing_there None e = refl
nothing_there (Some v) e = cc
