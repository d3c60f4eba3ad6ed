-- What a sink has taken of a text that it is given piece by piece.
use Rattle.std.proofs.Common.{◌≡◌, ℕ, ◌+◌, ◌≤◌, List, ◌++◌, length, take, Option, sym, ap, subst, ◌∙◌, append_assoc, length-append, arith}
use Rattle.std.proofs.KnownBytes.{Appends-trans}
use Rattle.grb_market.proofs.Prelude.{take-append-add, take-append-le, take_all, Appends}
use Rattle.grb_market.specs.Sink.{AppendsBeginning}
use Rattle.grb_market.specs.Written.{AppendsFront, PutFront}

-- what was put so far, and what of the whole is to be put
pub record SoFar (before now : Option (List ℕ)) (pending whole : List ℕ) : Type 0 where
  pub done : List ℕ
  pub taken : Appends before now done
  pub split : whole ≡ done ++ pending

pub SoFar-put : (before mid now : Option (List ℕ)) (a b rest whole : List ℕ) → SoFar before mid (a ++ rest) whole → PutFront mid now a b → SoFar before now (b ++ rest) whole
SoFar-put before mid now a b rest whole s p = record {
  done = s.done ++ p.0;
  taken = Appends-trans before mid now s.done p.0 s.taken p.1;
  split = s.split ∙ ap (λ l. s.done ++ (l ++ rest)) p.2 ∙ ap (λ l. s.done ++ l) (append_assoc p.0 b rest) ∙ sym (append_assoc s.done p.0 (b ++ rest));
}

-- a line moves from what is to come into the text
pub SoFar-line : (before now : Option (List ℕ)) (a line more rest whole : List ℕ) → SoFar before now (a ++ rest) whole → rest ≡ line ++ more → SoFar before now ((a ++ line) ++ more) whole
SoFar-line before now a line more rest whole s e = record {
  done = s.done;
  taken = s.taken;
  split = s.split ∙ ap (λ l. s.done ++ l) (ap (λ l. a ++ l) e ∙ sym (append_assoc a line more));
}

front_of : (done a rest : List ℕ) (n : ℕ) → n ≤ length a → done ++ take n a ≡ take (length done + n) (done ++ (a ++ rest))
front_of done a rest n l = ap (λ l. done ++ l) (sym (take-append-le n a rest l)) ∙ sym (take-append-add done (a ++ rest) n)

pub SoFar-failed : (before mid now : Option (List ℕ)) (a rest whole : List ℕ) → SoFar before mid (a ++ rest) whole → AppendsBeginning mid now a → AppendsBeginning before now whole
SoFar-failed before mid now a rest whole s p =
    let below = p.1 in
    let size : length whole ≡ length s.done + (length a + length rest) = ap length s.split ∙ length-append s.done (a ++ rest) ∙ ap (λ n. length s.done + n) (length-append a rest) in (
      length s.done + p.0,
      omega arith,
      subst (Appends before now) (front_of s.done a rest p.0 (omega arith) ∙ ap (take (length s.done + p.0)) (sym s.split)) (Appends-trans before mid now s.done (take p.0 a) s.taken p.2),
    )

pub SoFar-front : (before now : Option (List ℕ)) (pending whole : List ℕ) → SoFar before now pending whole → AppendsFront before now whole
SoFar-front before now pending whole s = (
  length s.done,
  subst (Appends before now) (sym (take-append-le (length s.done) s.done pending (omega arith) ∙ take_all (length s.done) s.done (omega arith)) ∙ ap (take (length s.done)) (sym s.split)) s.taken,
)
