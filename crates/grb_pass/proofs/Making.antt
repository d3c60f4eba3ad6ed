-- Which calls are answered without that a call of the history is made.
use Rattle.std.proofs.Common.{◌≡◌, ℕ, ◌≤◌, true, false, inl, inr, length, None, Some, sym, ap, subst, ◌∙◌, arith}
use Rattle.std.specs.Prelude.{Option}
use Rattle.grb_core.specs.declared.refusal.Refusal.{Refusal}
use Rattle.grb_pass.proofs.Prelude.{Call, enters, is_build, is_size, refused_by_shapes, shapes_of, History, store_of, Knowing, Making, known, MakesNone, ReadsNone}

-- one that only reads, and was not refused
pub read_none : (now new : Knowing) (c : Call) (settled : ℕ) → new ≡ record now { settled = new.settled; made = new.made } → now.settled ≡ settled → refused_by_shapes (shapes_of (store_of (known now))) c ≡ None
    → (is_size c ≡ true → new.made ≡ now.made) → (length (known now) ≤ now.settled → new.made.count ≡ now.made.count) → ReadsNone settled (known new) c → new.made.count ≡ now.made.count
read_none now new c settled same before accepted size all (inl is) = ap (λ (m : Making). m.count) (size is)
read_none now new c settled same before accepted size all (inr (inl is)) =
    let g : known new ≡ known now = ap known same in
    let some : refused_by_shapes (shapes_of (store_of (known now))) c ≡ Some is.0 = subst (λ (h : History). refused_by_shapes (shapes_of (store_of h)) c ≡ Some is.0) g is.1 in
    let no : ◌≡◌ {A = Option Refusal} None (Some is.0) = sym accepted ∙ some in cc
read_none now new c settled same before accepted size all (inr (inr is)) =
    let g : length (known new) ≡ length (known now) = ap (λ (p : Knowing). length (known p)) same in
    all (omega (arith, is, g, before))

-- one that enters and is no build
pub entered_none : (settled : ℕ) (g : History) (c : Call) {X : Type 0} {n m : X} → enters c ≡ true → (is_build c ≡ false → n ≡ m) → MakesNone settled g c → n ≡ m
entered_none settled g c writes plain (inl is) = plain is.1
entered_none settled g c writes plain (inr is) = let no : true ≡ false = sym writes ∙ is.0 in cc

-- and one that only reads
pub read_only_none : (settled : ℕ) (g : History) (c : Call) {X : Type 0} {n m : X} → enters c ≡ false → (ReadsNone settled g c → n ≡ m) → MakesNone settled g c → n ≡ m
read_only_none settled g c reads none (inl is) = let no : true ≡ false = sym is.0 ∙ reads in cc
read_only_none settled g c reads none (inr is) = none is.1
