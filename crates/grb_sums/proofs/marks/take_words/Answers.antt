use Rattle.std.proofs.Common.{◌≡◌, ◌<◌, ◌^◌, true, arith, length, subst}
use Rattle.grb_core.specs.Monoid.{identity_of}
use Rattle.grb_sums.specs.Naming.{name_in}
use Rattle.grb_kernels.specs.Bits.{has_bit}
use Rattle.grb_sums.specs.Marks.{marks_of}
use Rattle.grb_sums.proofs.MarksOf.{length-marks_of}
use Rattle.grb_sums.proofs.Taken.{taken_begins, taken_more, taken_entries, taken_zeros}
use Rattle.grb_sums.proofs.WordByWord.{bit_in_range}
use Rattle.grb_sums.proofs.marks.take_words.Goals as goal

pub words-init : goal.words-init
words-init g c = record {
  k = omega arith;
  within = omega arith;
  taken = taken_begins g.T.Scalar.value (identity_of g.M.MonoidOver.monoid) (name_in c.args.names.now) c.args.words.now c.args.sums.now c.args.columns.now c.args.values.now;
}

pub take_word-k-requires-clause-in_range : goal.take_word-k-requires-clause-in_range
take_word-k-requires-clause-in_range g c t h =
    let n = length c.args.sums.now in
    let words = c.args.words.now in
    let w = c.words.w in
    let later = c.words.invariant.taken.later w (omega arith) in
    let inside = bit_in_range (marks_of n words) words w t c.requires.sound.bits (subst (λ x. x < 2 ^ 64) later (c.type_inv.words w).fits) (subst (λ x. has_bit x t ≡ true) later h) in
    omega (arith, inside, length-marks_of words n)

pub words-preserved : goal.words-preserved
words-preserved g c =
    let done = c.take_word-k.ensures in
    record {
      k = omega (arith, done.most);
      within = omega (arith, done.within);
      taken = taken_more g.T.Scalar.value (identity_of g.M.MonoidOver.monoid) (name_in c.args.names.now) c.args.words.now c.args.sums.now c.requires.sound.bits c.requires.sound.clear c.words.w
          c.words.k c.take_word-k.result c.words.words c.words.columns c.take_word-k.new.columns c.words.sums c.take_word-k.new.sums c.words.values c.take_word-k.new.values
          c.words.invariant.taken (omega arith) done.entries (λ t l h. done.clear t l h) done.stay done.above;
    }

pub returns : goal.returns
returns g c =
    let tv = g.T.Scalar.value in
    let v = identity_of g.M.MonoidOver.monoid in
    let name = name_in c.args.names.now in
    let held = c.words.invariant.taken in
    record {
      entries = taken_entries tv v name c.args.words.now c.args.sums.now c.words.w _ _ _ _ _ held (omega arith);
      most = c.words.invariant.within;
      ready = record {
        long = omega arith;
        words_long = omega arith;
        words_few = omega arith;
        none = taken_zeros tv v name c.args.words.now c.args.sums.now c.words.w _ _ _ _ _ held (omega arith);
        clear = λ p l. held.clear p (omega (arith, l)) (omega (arith, l));
      };
    }
