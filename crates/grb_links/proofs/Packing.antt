-- A node is kept in two parts, and those kept before stay.
use Rattle.std.proofs.Common.{◌≡◌, ℕ, ◌+◌, ◌≤◌, List, [], ◌∷◌, ◌++◌, length, map, get_or, refl, sym, ap, subst, ◌∙◌, arith}
use Rattle.std.specs.List.{All}
use Rattle.std.proofs.lemmas.List.{length_push}
use Rattle.std.proofs.lemmas.List.Elements.{All-head, All-nil, All-cons, All-push, All-tail}
use Rattle.grb_links.specs.declared.node.Node.{Node}
use Rattle.grb_links.specs.declared.nodes.Packed.{Packed}
use Rattle.grb_links.specs.declared.nodes.Rest.{Rest}
use Rattle.grb_links.specs.Nodes.{AreKept, joined, object_of, rest_at, rest_of, unpacked}

-- a list of four numbers
four : (xs : List ℕ) → length xs ≡ 4 → get_or xs 0 0 ∷ get_or xs 1 0 ∷ get_or xs 2 0 ∷ get_or xs 3 0 ∷ [] ≡ xs
four [] e = absurd (omega (arith, e))
four (w ∷ []) e = absurd (omega (arith, e))
four (w ∷ x ∷ []) e = absurd (omega (arith, e))
four (w ∷ x ∷ y ∷ []) e = absurd (omega (arith, e))
four (w ∷ x ∷ y ∷ z ∷ []) e = refl
four (w ∷ x ∷ y ∷ z ∷ v ∷ vs) e = absurd (omega (arith, e))

map_push : {X Y : Type 0} (f : X → Y) (xs : List X) (x : X) → map f (xs ++ x ∷ []) ≡ map f xs ++ f x ∷ []
map_push f [] x = refl
map_push f (y ∷ xs) x = ap (λ (ys : List _). f y ∷ ys) (map_push f xs x)

module _ (rests more : List Rest) (kept : (n : ℕ) → n ≤ length rests → rest_at more n ≡ rest_at rests n) where
  same_nodes : (ps : List Packed) → All (λ p. p.rest ≤ length rests) ps → map (unpacked more) ps ≡ map (unpacked rests) ps
  same_nodes [] within = refl
  same_nodes (p ∷ ps) within =
      ap (λ (r : Rest). joined p r ∷ map (unpacked more) ps) (kept p.rest (All-head (λ (q : Packed). q.rest ≤ length rests) p ps within))
      ∙ ap (λ (ns : List Node). unpacked rests p ∷ ns) (same_nodes ps (All-tail (λ (q : Packed). q.rest ≤ length rests) p ps within))

  -- one more node
  pub pushed : (ps qs : List Packed) (p : Packed) (node : Node) → AreKept rests ps → length node.links ≡ 4 → object_of p.target ≡ node.target → p.link ≡ get_or node.links 0 0 → rest_at more p.rest ≡ rest_of node →
      qs ≡ ps ++ p ∷ [] → map (unpacked more) qs ≡ map (unpacked rests) ps ++ node ∷ []
  pushed ps qs p node were long target link rest is =
      ap (map (unpacked more)) is ∙ map_push (unpacked more) ps p ∙ ap (λ (ns : List Node). ns ++ unpacked more p ∷ []) (same_nodes ps were.within)
      ∙ ap (λ (r : Rest). map (unpacked rests) ps ++ joined p r ∷ []) rest
      ∙ (λ i. map (unpacked rests) ps ++ record { target = target i; links = link i ∷ get_or node.links 1 0 ∷ get_or node.links 2 0 ∷ get_or node.links 3 0 ∷ []; noted = node.noted } ∷ [])
      ∙ ap (λ (ms : List ℕ). map (unpacked rests) ps ++ record { target = node.target; links = ms; noted = node.noted } ∷ []) (four node.links long)

  still_within : length rests ≤ length more → (ps : List Packed) → All (λ p. p.rest ≤ length rests) ps → All (λ p. p.rest ≤ length more) ps
  still_within longer [] within = All-nil (λ (q : Packed). q.rest ≤ length more)
  still_within longer (p ∷ ps) within =
      let first : p.rest ≤ length rests = All-head (λ (q : Packed). q.rest ≤ length rests) p ps within in
      All-cons (λ (q : Packed). q.rest ≤ length more) p ps (omega (arith, first, longer)) (still_within longer ps (All-tail (λ (q : Packed). q.rest ≤ length rests) p ps within))

  pub still_kept : (ps qs : List Packed) (p : Packed) → AreKept rests ps → length rests ≤ length more → length more ≤ length rests + 1 → p.rest ≤ length more → qs ≡ ps ++ p ∷ [] → AreKept more qs
  still_kept ps qs p were longer few within is =
      let count : length qs ≡ length ps + 1 = ap length is ∙ length_push ps p in
      record {
        within = subst (λ (rs : List Packed). All (λ q. q.rest ≤ length more) rs) (sym is) (All-push (λ (q : Packed). q.rest ≤ length more) ps p (still_within longer ps were.within) within);
        few = omega (arith, count, few, were.few);
      }
