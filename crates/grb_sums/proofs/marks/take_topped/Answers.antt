use Rattle.std.proofs.Common.{◌≡◌, ◌<◌, ◌≤◌, ◌+◌, ◌*◌, ◌^◌, ℕ, true, refl, ap, sym, ◌∙◌, arith, length, get_or, set, subst, inl, inr}
use Rattle.std.proofs.lemmas.Bool.{cases_eq, cases_lt}
use Rattle.std.proofs.lemmas.List.{get_or-set_same, get_or-set_other}
use Rattle.grb_core.specs.Monoid.{identity_of}
use Rattle.grb_sums.specs.Naming.{name_in}
use Rattle.grb_kernels.specs.Bits.{has_bit}
use Rattle.grb_sums.specs.Marks.{marks_of}
use Rattle.grb_sums.specs.Reach.{IsOutside}
use Rattle.grb_sums.proofs.MarksOf.{length-marks_of}
use Rattle.grb_sums.proofs.Reach.{unreached}
use Rattle.grb_sums.proofs.Taken.{taken_begins, taken_entries, taken_zeros}
use Rattle.grb_sums.proofs.Tops.{top_in_range, tops_skipped, among_begins, among_more, among_ends}
use Rattle.grb_sums.proofs.WordByWord.{bit_in_range}
use Rattle.grb_sums.proofs.marks.take_topped.Goals as goal

pub tops-init : goal.tops-init
tops-init g c =
    let first = c.next_touched-h.ensures in
    let tops = c.args.tops.now in
    let outside : (u : ℕ) → IsOutside c.args.from c.args.upto u → get_or tops u 0 ≡ 0 = λ u out.
    unreached g.T.Scalar.value c.args.words.now tops c.args.sums.now c.requires.sound.bits c.requires.tops (λ w. (c.type_inv.words w).fits) (first.fit) u
    (λ p l at. c.requires.outside p l (subst (IsOutside c.args.from c.args.upto) (sym at) out)) in
    let none : (u : ℕ) → u < c.next_touched-h.result → get_or tops u 0 ≡ 0 = λ u l. elim (cases_lt u c.args.from) [
      | inl before ↦ outside u (inl before)
      | inr past ↦ first.none u past l
    ] in
    record {
      upto = first.within;
      few = omega arith;
      within = omega arith;
      zeros = none;
      outside = outside;
      later = λ u h. refl;
      taken = tops_skipped g.T.Scalar.value (identity_of g.M.MonoidOver.monoid) (name_in c.args.names.now) c.args.words.now c.args.sums.now c.args.tops.now c.requires.sound.bits c.requires.sound.clear c.requires.tops.bits
          0 c.next_touched-h.result 0 _ _ _ _ (omega arith) (λ q f l. none q l)
          (taken_begins g.T.Scalar.value (identity_of g.M.MonoidOver.monoid) (name_in c.args.names.now) c.args.words.now c.args.sums.now c.args.columns.now c.args.values.now);
    }

pub words-init : goal.words-init
words-init g c =
    let words = c.args.words.now in
    let tops = c.args.tops.now in
    let h = c.tops.h in
    let held = c.tops.invariant in
    let here = held.later h (omega arith) in
    record {
      within = held.within;
      inside = λ t l b. top_in_range words tops h t c.requires.tops.bits l (subst (λ x. has_bit x t ≡ true) here b);
      among = among_begins g.T.Scalar.value (identity_of g.M.MonoidOver.monoid) (name_in c.args.names.now) words c.args.sums.now tops c.requires.sound.bits c.requires.sound.clear c.requires.tops.bits h _ c.tops.k c.tops.words c.tops.columns
          c.tops.sums c.tops.values here held.taken held.few;
    }

pub take_word-k-requires-clause-in_range : goal.take_word-k-requires-clause-in_range
take_word-k-requires-clause-in_range g c t b =
    let n = length c.args.sums.now in
    let words = c.args.words.now in
    let low = c.lowest_bit-t.result in
    let w = 64 * c.tops.h + low in
    let among = c.words.invariant.among in
    let later = among.taken.later w (among.ahead low c.lowest_bit-t.ensures.set) in
    let inside = bit_in_range (marks_of n words) words w t c.requires.sound.bits (subst (λ x. x < 2 ^ 64) later (c.type_inv.words w).fits) (subst (λ x. has_bit x t ≡ true) later b) in
    omega (arith, inside, length-marks_of words n)

pub take_word-k-requires-clause-before : goal.take_word-k-requires-clause-before
take_word-k-requires-clause-before g c =
    let among = c.words.invariant.among in
    omega (arith, among.few, among.ahead c.lowest_bit-t.result c.lowest_bit-t.ensures.set)

pub words-preserved : goal.words-preserved
words-preserved g c =
    let done = c.take_word-k.ensures in
    let lowest = c.lowest_bit-t.ensures in
    let rest = c.without_bit-left.ensures in
    let h = c.tops.h in
    let low = c.lowest_bit-t.result in
    let among = c.words.invariant.among in
    record {
      within = omega (arith, done.within);
      inside = λ t l b. c.words.invariant.inside t l (rest.among t b);
      among = among_more g.T.Scalar.value (identity_of g.M.MonoidOver.monoid) (name_in c.args.names.now) c.args.words.now c.args.sums.now c.args.tops.now c.requires.sound.bits c.requires.sound.clear c.requires.tops.bits
          h c.words.left c.words.k c.words.words c.words.columns c.words.sums c.words.values among c.without_bit-left.result c.take_word-k.result low c.take_word-k.new.columns c.take_word-k.new.sums c.take_word-k.new.values
          lowest.low lowest.set lowest.below rest.gone rest.same rest.among (omega (arith, c.words.invariant.inside low lowest.low lowest.set)) (omega (arith, done.most)) done.entries (λ t l b. done.clear t l b) done.stay done.above;
    }

pub tops-preserved : goal.tops-preserved
tops-preserved g c =
    let tops = c.tops.tops in
    let h = c.tops.h in
    let held = c.tops.invariant in
    let among = c.words.invariant.among in
    let next = c.next_touched-h-in-tops.ensures in
    let none : c.words.left ≡ 0 = omega arith in
    let later : (u : ℕ) → h + 1 ≤ u → get_or (set tops h 0) u 0 ≡ get_or c.args.tops.now u 0 =
    λ u l. get_or-set_other tops h u 0 0 (λ e. omega (arith, e, l)) ∙ held.later u (omega (arith, l)) in
    record {
      upto = next.within;
      few = omega (arith, among.few, among.upto, next.onward);
      within = c.words.invariant.within;
      zeros = λ u l. elim (cases_lt u (h + 1)) [
        | inl before ↦ elim (cases_eq u h) [
          | inl e ↦ ap (λ x. get_or (set tops h 0) x 0) e ∙ get_or-set_same tops h 0 0 (omega arith)
          | inr n ↦ get_or-set_other tops h u 0 0 n ∙ held.zeros u (omega (arith, before, n))
        ]
        | inr past ↦ next.none u past l
      ];
      later = λ u l. later u (omega (arith, l, next.onward));
      outside = held.outside;
      taken = tops_skipped g.T.Scalar.value (identity_of g.M.MonoidOver.monoid) (name_in c.args.names.now) c.args.words.now c.args.sums.now c.args.tops.now c.requires.sound.bits c.requires.sound.clear c.requires.tops.bits
          (h + 1) c.next_touched-h-in-tops.result c.words.k c.words.words c.words.columns c.words.sums c.words.values next.onward (λ q f l. sym (later q f) ∙ next.none q f l)
          (among_ends g.T.Scalar.value (identity_of g.M.MonoidOver.monoid) (name_in c.args.names.now) c.args.words.now c.args.sums.now c.args.tops.now c.requires.sound.bits c.requires.sound.clear c.requires.tops.bits
          h c.words.left c.words.k c.words.words c.words.columns c.words.sums c.words.values among none);
    }

pub returns-clause-taken : goal.returns-clause-taken
returns-clause-taken g c =
    let tv = g.T.Scalar.value in
    let v = identity_of g.M.MonoidOver.monoid in
    let name = name_in c.args.names.now in
    let end = length c.args.tops.now in
    let held = tops_skipped tv v name c.args.words.now c.args.sums.now c.args.tops.now c.requires.sound.bits c.requires.sound.clear c.requires.tops.bits
    c.tops.h end c.tops.k c.tops.words c.tops.columns c.tops.sums c.tops.values (omega (arith, c.tops.invariant.upto, c.requires.within)) (λ q f l. c.tops.invariant.outside q (inr (omega (arith, f, c.tops-test.false)))) c.tops.invariant.taken in
    let all : length c.args.words.now ≤ 64 * end = omega (arith, c.requires.tops.long) in
    let long : length c.args.sums.now ≤ 64 * (64 * end) = omega (arith, all, c.requires.sound.words_long) in
    record {
      entries = taken_entries tv v name c.args.words.now c.args.sums.now (64 * end) _ _ _ _ _ held long;
      most = c.tops.invariant.within;
      ready = record {
        long = omega arith;
        words_long = omega arith;
        words_few = omega arith;
        none = taken_zeros tv v name c.args.words.now c.args.sums.now (64 * end) _ _ _ _ _ held all;
        clear = λ p l. held.clear p (omega (arith, l, long)) (omega (arith, l));
      };
    }

pub returns-clause-none : goal.returns-clause-none
returns-clause-none g c = record {
  long = omega (arith, c.requires.tops.long);
  none = λ u. elim (cases_lt u c.tops.h) [
    | inl under ↦ c.tops.invariant.zeros u under
    | inr past ↦ c.tops.invariant.later u past ∙ c.tops.invariant.outside u (inr (omega (arith, past, c.tops-test.false)))
  ];
}
