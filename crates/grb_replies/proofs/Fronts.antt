-- What a sink has taken of a text that is put in pieces, where the last piece still waits.
use Rattle.std.proofs.Common.{◌≡◌, ℕ, ◌+◌, ◌<◌, ◌≤◌, List, [], ◌++◌, ◌∷◌, drop, get_or, length, take, take-append-drop, Option, refl, sym, ap, subst, ◌∙◌, append_assoc, append-nil, length-append, arith}
use Rattle.std.proofs.KnownBytes.{Appends-nil, Appends-trans}
use Rattle.std.proofs.lemmas.List.{take-append-le, take_more}
use Rattle.std.proofs.lemmas.List.Concat.{flat_map-append}
use Rattle.std.specs.List.{flat_map}
use Rattle.std.specs.Io.KnownBytes.{Appends}
use Rattle.grb_market.specs.Sink.{AppendsBeginning}
use Rattle.grb_market.specs.Written.{PutFront}
use Rattle.grb_market.proofs.WrittenLemmas.{SoFar, SoFar-failed}

-- nothing was put, and all still waits
pub PutFront-none : (known : Option (List ℕ)) (a b : List ℕ) → b ≡ a → PutFront known known a b
PutFront-none known a b e = ([], Appends-nil known, sym e)

-- all that waited was put, and the next words wait
pub PutFront-all : (before after : Option (List ℕ)) (a w b : List ℕ) → Appends before after a → b ≡ w → PutFront before after (a ++ w) b
PutFront-all before after a w b taken e = (a, taken, ap (λ l. a ++ l) (sym e))

-- what was put so far of a whole, by what waits
pub SoFar-of : (before now : Option (List ℕ)) (text b rest whole : List ℕ) → PutFront before now text b → whole ≡ text ++ rest → SoFar before now (b ++ rest) whole
SoFar-of before now text b rest whole p e = record {
  done = p.0;
  taken = p.1;
  split = e ∙ ap (λ l. l ++ rest) p.2 ∙ append_assoc p.0 b rest;
}

-- the whole is put, but for what waits
pub PutFront-of : (before now : Option (List ℕ)) (b whole : List ℕ) → SoFar before now (b ++ []) whole → PutFront before now whole b
PutFront-of before now b whole s = (s.done, s.taken, s.split ∙ ap (λ l. s.done ++ l) (append-nil b))

-- more words were put behind a text
pub PutFront-more : (before mid now : Option (List ℕ)) (text a w b : List ℕ) → PutFront before mid text a → PutFront mid now (a ++ w) b → PutFront before now (text ++ w) b
PutFront-more before mid now text a w b p q = (
  p.0 ++ q.0,
  Appends-trans before mid now p.0 q.0 p.1 q.1,
  ap (λ l. l ++ w) p.2 ∙ append_assoc p.0 a w ∙ ap (λ l. p.0 ++ l) q.2 ∙ sym (append_assoc p.0 q.0 b),
)

-- a beginning of a text is one of a longer text
pub AppendsBeginning-more : (before after : Option (List ℕ)) (a w : List ℕ) → AppendsBeginning before after a → AppendsBeginning before after (a ++ w)
AppendsBeginning-more before after a w p =
    let below = p.1 in (
      p.0,
      omega (arith, below, length-append a w),
      subst (Appends before after) (sym (take-append-le p.0 a w (omega (arith, below)))) p.2,
    )

-- the sink failed at words behind a text
pub AppendsBeginning-behind : (before mid now : Option (List ℕ)) (text a w rest whole : List ℕ) → PutFront before mid text a → AppendsBeginning mid now (a ++ w) → whole ≡ (text ++ w) ++ rest → AppendsBeginning before now whole
AppendsBeginning-behind before mid now text a w rest whole p failed e =
    SoFar-failed before mid now (a ++ w) rest whole
    (record { done = p.0; taken = p.1; split = e ∙ ap (λ l. l ++ rest) (ap (λ l. l ++ w) p.2 ∙ append_assoc p.0 a w) ∙ append_assoc p.0 (a ++ w) rest })
    failed

-- where nothing more is to come, what is put behind this is all
pub SoFar-end : (before now : Option (List ℕ)) (b rest end whole : List ℕ) → SoFar before now (b ++ rest) whole → rest ≡ end → SoFar before now ((b ++ end) ++ []) whole
SoFar-end before now b rest end whole s e = record {
  done = s.done;
  taken = s.taken;
  split = s.split ∙ ap (λ l. s.done ++ l) (ap (λ l. b ++ l) e ∙ sym (append-nil (b ++ end)));
}

module _ {X : Type 0} (f : X → List ℕ) (xs : List X) where
  -- one more, behind the first of a list
  pub flat_map-take : (i : ℕ) (x : X) → i < length xs → x ≡ get_or xs i x → flat_map f (take (i + 1) xs) ≡ flat_map f (take i xs) ++ f x
  flat_map-take i x within is =
      ap (flat_map f) (take_more xs i x within ∙ ap (λ y. take i xs ++ y ∷ []) (sym is)) ∙ flat_map-append f (take i xs) (x ∷ []) ∙ ap (λ l. flat_map f (take i xs) ++ l) (append-nil (f x))

  -- the first of a list, and the others
  pub flat_map-split : (n : ℕ) → flat_map f xs ≡ flat_map f (take n xs) ++ flat_map f (drop n xs)
  flat_map-split n = ap (flat_map f) (sym (take-append-drop n xs)) ∙ flat_map-append f (take n xs) (drop n xs)
