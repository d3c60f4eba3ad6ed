-- Lists of entries, the maps that they make, and the entries on the other side of the diagonal.
use Rattle.std.proofs.Common.{not, ◌≡◌, ◌≢◌, Bool, true, false, ◌||◌, if◌then◌else◌, cond, List, [], ◌∷◌, ◌++◌, map, Option, Some, None, is_some, refl, sym, ap, ◌∙◌}
use Rattle.grb_market.proofs.Prelude.{Ordering, Less, Equal, Greater, option_or, list_any, find, put, is_sorted, by_order, find-put, is_sorted-put, same_entries, eq_by_cmp, is_eq, match_ordering, ordering_reverse, T, Value, Cell, cell_cmp, MatrixEntries, map_from, not-true, passes, cell_cmp_total, cell_cmp-IsAntisymmetric, find-append_maps, find-map_from, is_sorted-map_from, Head, mirrored, written_out}
use Rattle.std.specs.BTreeMap.{insert_entry}
use Rattle.std.specs.Prelude.{IsTrue}

-- std's insertion into a tree is that of a finite map
pub insert_entry-put : {K X : Type 0} (R : K → K → Ordering) (k : K) (v : X) (es : List (K × X)) → insert_entry R es k v ≡ put R k v es
insert_entry-put R k v [] = refl
insert_entry-put R k v (e ∷ es) = by (insert_entry-put R k v es) (R k e.0)
  where
    by : insert_entry R es k v ≡ put R k v es → (o : Ordering) → match_ordering o ((k, v) ∷ e ∷ es) ((e.0, v) ∷ es) (e ∷ insert_entry R es k v) ≡ by_order o ((k, v) ∷ e ∷ es) ((e.0, v) ∷ es) (e ∷ put R k v es)
    by r Less = refl
    by r Equal = refl
    by r Greater = ap (λ l. e ∷ l) r

-- maps in order that have the same at each place are one
pub same_map : (es fs : MatrixEntries) → T (is_sorted cell_cmp es) → T (is_sorted cell_cmp fs) → ((q : Cell) → find cell_cmp q es ≡ find cell_cmp q fs) → es ≡ fs
same_map es fs g h is = same_entries cell_cmp cell_cmp_total cell_cmp-IsAntisymmetric es fs g h is

-- places that tie are one, and where they do not a place is another
pub tied_cells : (p q : Cell) → eq_by_cmp cell_cmp p q ≡ true → p ≡ q
tied_cells p q h = by (cell_cmp p q) refl h
  where
    by : (o : Ordering) → cell_cmp p q ≡ o → is_eq o ≡ true → p ≡ q
    by Less e h = cc
    by Equal e h = cell_cmp-IsAntisymmetric p q e
    by Greater e h = cc

pub same_cell : (p : Cell) → cell_cmp p p ≡ Equal
same_cell p = by (cell_cmp p p) (cell_cmp_total.antisymm p p)
  where
    by : (o : Ordering) → o ≡ ordering_reverse o → o ≡ Equal
    by Less e = cc
    by Equal e = refl
    by Greater e = cc

pub same_place : (p : Cell) → eq_by_cmp cell_cmp p p ≡ true
same_place p = ap is_eq (same_cell p)

pub apart_cells : (p q : Cell) → p ≢ q → eq_by_cmp cell_cmp p q ≡ false
apart_cells p q h = by (eq_by_cmp cell_cmp p q) refl
  where
    by : (b : Bool) → eq_by_cmp cell_cmp p q ≡ b → b ≡ false
    by true e = absurd (h (tied_cells p q e))
    by false e = refl

-- one entry more, at another place
pub map_from-push : (es : MatrixEntries) (e : Cell × Value) → find cell_cmp e.0 (map_from cell_cmp es) ≡ None → put cell_cmp e.0 e.1 (map_from cell_cmp es) ≡ map_from cell_cmp (es ++ e ∷ [])
map_from-push es e h =
    same_map _ _ (is_sorted-put cell_cmp cell_cmp_total e.0 e.1 _ (is_sorted-map_from cell_cmp cell_cmp_total es)) (is_sorted-map_from cell_cmp cell_cmp_total (es ++ e ∷ []))
    (λ q. find-put cell_cmp cell_cmp_total q e.0 e.1 (map_from cell_cmp es)
    ∙ ap (λ o. cond (eq_by_cmp cell_cmp q e.0) (Some e.1) o) (find-map_from cell_cmp cell_cmp_total q es)
    ∙ by q (eq_by_cmp cell_cmp q e.0) refl (find cell_cmp q es) refl
    ∙ sym (find-append_maps cell_cmp q es (e ∷ []))
    ∙ sym (find-map_from cell_cmp cell_cmp_total q (es ++ e ∷ [])))
  where
    by : (q : Cell) (b : Bool) → eq_by_cmp cell_cmp q e.0 ≡ b → (o : Option Value) → find cell_cmp q es ≡ o → cond b (Some e.1) o ≡ option_or o (cond b (Some e.1) None)
    by q true t None is = refl
    by q true t (Some v) is =
        let here : find cell_cmp q es ≡ None = ap (λ p. find cell_cmp p es) (tied_cells q e.0 t) ∙ sym (find-map_from cell_cmp cell_cmp_total e.0 es) ∙ h in
        cc
    by q false t None is = refl
    by q false t (Some v) is = refl

-- the map has an entry where the list has one
is_some-found : (q : Cell) (es : MatrixEntries) → is_some (find cell_cmp q es) ≡ list_any (λ e. eq_by_cmp cell_cmp q e.0) es
is_some-found q [] = refl
is_some-found q (e ∷ es) = by (eq_by_cmp cell_cmp q e.0) (is_some-found q es)
  where
    by : (b : Bool) → is_some (find cell_cmp q es) ≡ list_any (λ e. eq_by_cmp cell_cmp q e.0) es → is_some (cond b (Some e.1) (find cell_cmp q es)) ≡ (b || list_any (λ e. eq_by_cmp cell_cmp q e.0) es)
    by true r = refl
    by false r = r

pub is_some-map_from : (q : Cell) (es : MatrixEntries) → is_some (find cell_cmp q (map_from cell_cmp es)) ≡ list_any (λ e. eq_by_cmp cell_cmp q e.0) es
is_some-map_from q es = ap is_some (find-map_from cell_cmp cell_cmp_total q es) ∙ is_some-found q es

-- the other side of the diagonal
abbrev pub swapped : Cell → Cell
swapped q = (q.1, q.0)

pub swapped_ties : (p q : Cell) → eq_by_cmp cell_cmp p (swapped q) ≡ eq_by_cmp cell_cmp (swapped p) q
swapped_ties p q = by (eq_by_cmp cell_cmp p (swapped q)) refl (eq_by_cmp cell_cmp (swapped p) q) refl
  where
    by : (a : Bool) → eq_by_cmp cell_cmp p (swapped q) ≡ a → (b : Bool) → eq_by_cmp cell_cmp (swapped p) q ≡ b → a ≡ b
    by true e true f = refl
    by false e false f = refl
    by true e false f = let t = same_place q in let is = ap swapped (tied_cells p (swapped q) e) in sym (ap (λ p. eq_by_cmp cell_cmp p q) is ∙ t) ∙ f
    by false e true f = let t = same_place p in let is = ap swapped (tied_cells (swapped p) q f) in sym e ∙ ap (λ q. eq_by_cmp cell_cmp p q) (sym is) ∙ t

pub find-mirrored : (q : Cell) (es : MatrixEntries) → find cell_cmp q (map mirrored es) ≡ find cell_cmp (swapped q) es
find-mirrored q [] = refl
find-mirrored q (e ∷ es) = (λ j. cond (swapped_ties q e.0 j) (Some e.1) (find-mirrored q es j))

-- what a symmetric matrix has at a place
pub find-both : (q : Cell) (es : MatrixEntries) → find cell_cmp q (es ++ map mirrored es) ≡ option_or (find cell_cmp q es) (find cell_cmp (swapped q) es)
find-both q es = find-append_maps cell_cmp q es (map mirrored es) ∙ ap (option_or (find cell_cmp q es)) (find-mirrored q es)

pub or_none : (o : Option Value) → option_or o None ≡ o
or_none None = refl
or_none (Some v) = refl

-- a map in order is the map of its entries
pub map_from-sorted : (es : MatrixEntries) → T (is_sorted cell_cmp es) → map_from cell_cmp es ≡ es
map_from-sorted es h = same_map _ _ (is_sorted-map_from cell_cmp cell_cmp_total es) h (λ q. find-map_from cell_cmp cell_cmp_total q es)

-- the entries of a map are written out as those of its list
map_from-both : (es : MatrixEntries) → map_from cell_cmp (map_from cell_cmp es ++ map mirrored (map_from cell_cmp es)) ≡ map_from cell_cmp (es ++ map mirrored es)
map_from-both es =
    same_map _ _ (is_sorted-map_from cell_cmp cell_cmp_total (map_from cell_cmp es ++ map mirrored (map_from cell_cmp es))) (is_sorted-map_from cell_cmp cell_cmp_total (es ++ map mirrored es))
    (λ q. find-map_from cell_cmp cell_cmp_total q (map_from cell_cmp es ++ map mirrored (map_from cell_cmp es)) ∙ find-both q (map_from cell_cmp es)
    ∙ (λ j. option_or (find-map_from cell_cmp cell_cmp_total q es j) (find-map_from cell_cmp cell_cmp_total (swapped q) es j))
    ∙ sym (find-both q es) ∙ sym (find-map_from cell_cmp cell_cmp_total q (es ++ map mirrored es)))

pub written_out-map_from : (h : Head) (es : MatrixEntries) → map_from cell_cmp (written_out h (map_from cell_cmp es)) ≡ map_from cell_cmp (written_out h es)
written_out-map_from h es = by h.is_symmetric
  where
    by : (b : Bool) → map_from cell_cmp (if b then map_from cell_cmp es ++ map mirrored (map_from cell_cmp es) else map_from cell_cmp es) ≡ map_from cell_cmp (if b then es ++ map mirrored es else es)
    by true = map_from-both es
    by false = map_from-sorted (map_from cell_cmp es) (is_sorted-map_from cell_cmp cell_cmp_total es)

-- a matrix that is not symmetric is as it stands
pub written_out-general : (h : Head) (es : MatrixEntries) → not h.is_symmetric ≡ true → T (is_sorted cell_cmp es) → es ≡ map_from cell_cmp (written_out h es)
written_out-general h es g s = sym (ap (λ b. map_from cell_cmp (if b then es ++ map mirrored es else es)) (not-true h.is_symmetric g) ∙ map_from-sorted es s)

pub sorted-map_from : (es : MatrixEntries) → IsTrue (is_sorted cell_cmp (map_from cell_cmp es))
sorted-map_from es = passes _ (is_sorted-map_from cell_cmp cell_cmp_total es)
