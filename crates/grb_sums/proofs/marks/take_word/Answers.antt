use Rattle.std.proofs.Common.{◌≡◌, ◌<◌, ◌+◌, ◌++◌, [], ◌∷◌, ℕ, true, false, refl, ap, sym, ◌∙◌, arith, length, set}
use Rattle.std.specs.Prelude.{nat_eq, Some}
use Rattle.std.proofs.lemmas.Nat.Bits.{bit_at-zero}
use Rattle.grb_core.specs.Monoid.{identity_of}
use Rattle.grb_kernels.specs.Typed.{first_entries}
use Rattle.grb_sums.specs.Naming.{name_in}
use Rattle.grb_kernels.specs.Bits.{has_bit}
use Rattle.grb_sums.specs.Bits.{value_at}
use Rattle.grb_sums.specs.Marks.{bits_from}
use Rattle.grb_kernels.proofs.Lists.{append_nil, first-set_more}
use Rattle.grb_sums.proofs.Cleared.{value-set_other, cleared_here, stays_cleared}
use Rattle.grb_sums.proofs.LowestBit.{took_lowest, no_bits, value-read}
use Rattle.grb_sums.proofs.Tops.{after_lowest}
use Rattle.grb_sums.proofs.marks.take_word.Goals as goal

differ : false ≡ true → ⊥
differ e = cc

pub bits-init : goal.bits-init
bits-init g c = record {
  in_range = c.requires.in_range;
  before = λ t h. omega (arith, c.requires.before);
  within = c.requires.within;
  most = omega (arith, c.requires.before);
  left = λ t h. refl;
  above = λ i h. refl;
  clear = λ t l h n. absurd (differ (sym n ∙ h));
  stay = λ i h. h;
  so_far = refl;
}

pub bits-preserved : goal.bits-preserved
bits-preserved g c =
    let tv = g.T.Scalar.value in
    let v = identity_of g.M.MonoidOver.monoid in
    let held = c.bits.invariant in
    let low = c.lowest_bit-t.result in
    let lowest = c.lowest_bit-t.ensures in
    let rest = c.without_bit-left.ensures in
    let base = c.args.base in
    let ss = c.bits.sums in
    let name = name_in c.args.names.now in
    let at = c.args.base + low in
    let k = c.bits.k in
    let x = c.index-sums-at.result in
    let columns = c.bits.columns in
    let values = c.bits.values in
    let inside : base + low < length c.args.sums.now = held.in_range low lowest.set in
    let inside_sums : base + low < length ss = omega (arith, inside) in
    let before = held.before low lowest.set in
    let room : k < length columns = omega (arith, inside, before) in
    let same : length columns ≡ length values = omega arith in
    let above : (t : ℕ) → has_bit c.without_bit-left.result t ≡ true → low < t = λ t h. after_lowest (has_bit c.bits.left) (has_bit c.without_bit-left.result) low t lowest.below rest.gone rest.among h in
    record {
      in_range = λ t h. held.in_range t (rest.among t h);
      before = λ t h. omega (arith, before, above t h);
      within = omega (arith, before, inside);
      most = omega (arith, before, lowest.low);
      left = λ t h. value-set_other tv ss at (base + t) _ (λ e. omega (arith, e, above t h)) ∙ held.left t (rest.among t h);
      above = λ i h. value-set_other tv ss at i _ (λ e. omega (arith, e, h, lowest.low)) ∙ held.above i h;
      clear = λ t l h n. cleared_here tv v (has_bit c.bits.left) (has_bit c.without_bit-left.result) ss base low t _ l inside_sums c.identity.ensures rest.same (λ m. held.clear t l h m) n;
      stay = λ i h. stays_cleared tv v ss at i _ inside_sums c.identity.ensures (held.stay i h);
      so_far = took_lowest name (has_bit c.bits.left) (has_bit c.without_bit-left.result) (value_at tv c.args.sums.now) base low lowest.set lowest.below rest.gone rest.same
          (first_entries tv k columns values) (first_entries tv (k + 1) (set columns k c.name.result) (set values k x))
          (first_entries tv c.args.k c.args.columns.now c.args.values.now ++ bits_from name (has_bit c.args.word) (value_at tv c.args.sums.now) base 64 0)
          (Some (tv x)) lowest.low held.so_far (value-read tv ss at x inside_sums c.index-sums-at.is ∙ held.left low lowest.set)
          (first-set_more tv columns values k c.name.result x room same ∙ ap (λ j. first_entries tv k columns values ++ (j, tv x) ∷ []) c.name.ensures);
    }

pub returns-clause-entries : goal.returns-clause-entries
returns-clause-entries g c =
    let tv = g.T.Scalar.value in
    let out = first_entries tv c.bits.k c.bits.columns c.bits.values in
    let at = value_at tv c.args.sums.now in
    let none : c.bits.left ≡ 0 = omega arith in
    let nothing : bits_from (name_in c.args.names.now) (has_bit c.bits.left) at c.args.base 64 0 ≡ [] =
    no_bits (name_in c.args.names.now) (has_bit c.bits.left) at c.args.base 64 0 (λ i. ap (λ w. has_bit w i) none ∙ ap (λ (b : ℕ). nat_eq b 1) (bit_at-zero i)) in
    sym (append_nil out) ∙ ap (λ m. out ++ m) (sym nothing) ∙ c.bits.invariant.so_far

pub returns-clause-clear : goal.returns-clause-clear
returns-clause-clear g c t h =
    let none : c.bits.left ≡ 0 = omega arith in
    λ l. c.bits.invariant.clear t h l (ap (λ w. has_bit w t) none ∙ ap (λ (b : ℕ). nat_eq b 1) (bit_at-zero t))
