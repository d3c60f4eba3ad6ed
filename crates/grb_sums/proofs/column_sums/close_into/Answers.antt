use Rattle.std.proofs.Common.{◌≡◌, ◌+◌, ◌*◌, ◌++◌, [], length, get_or, arith, ap, refl, sym, ◌∙◌, append_assoc}
use Rattle.grb_core.specs.Entries.{VectorEntries}
use Rattle.grb_kernels.specs.Typed.{first_entries}
use Rattle.grb_kernels.proofs.Lists.{append_nil, first-all}
use Rattle.grb_sums.specs.Bits.{word_values}
use Rattle.grb_sums.proofs.MarkedPlaces.{all_words, bit_in_range, from_word, next_word, past_words, length-both}
use Rattle.grb_sums.proofs.column_sums.close_into.Goals as goal

pub words-init : goal.words-init
words-init g c =
    let all = ap length (all_words g.T.Scalar.value (g.C.Columns.names c.args.columns.now) c.args.words.now c.args.sums.now c.requires.marked) in
    record {
      count = omega (arith, all, c.requires.room);
      so_far = refl;
    }

pub close_word-k-requires-clause-in_range : goal.close_word-k-requires-clause-in_range
close_word-k-requires-clause-in_range g c t h =
    bit_in_range c.args.words.now (length (g.C.Columns.names c.args.columns.now)) c.words.w t c.requires.marked.within (c.type_inv.words c.words.w).fits h

pub close_word-k-requires-clause-room : goal.close_word-k-requires-clause-room
close_word-k-requires-clause-room g c =
    let tv = g.T.Scalar.value in
    let names = g.C.Columns.names c.args.columns.now in
    let words = c.args.words.now in
    let w = c.words.w in
    let next = ap length (next_word tv names words c.args.sums.now w (omega arith)) in
    let both = length-both (word_values tv names (get_or words w 0) (64 * w) c.args.sums.now) (from_word tv names words c.args.sums.now (w + 1)) in
    omega (arith, next, both, c.words.invariant.count)

pub words-preserved : goal.words-preserved
words-preserved g c =
    let tv = g.T.Scalar.value in
    let names = g.C.Columns.names c.args.columns.now in
    let words = c.args.words.now in
    let w = c.words.w in
    let ss = c.args.sums.now in
    let here = word_values tv names (get_or words w 0) (64 * w) ss in
    let later = from_word tv names words ss (w + 1) in
    let next = next_word tv names words ss w (omega arith) in
    let long = ap length next in
    let both = length-both here later in
    let done = c.close_word-k.ensures in
    let out = first_entries tv c.words.k c.words.indices c.words.values in
    record {
      count = omega (arith, long, both, done.count, c.words.invariant.count);
      so_far = ap (λ (m : VectorEntries). m ++ later) done.entries ∙ append_assoc out here later ∙ ap (λ (m : VectorEntries). out ++ m) (sym next) ∙ c.words.invariant.so_far;
    }

pub returns : goal.returns
returns g c =
    let tv = g.T.Scalar.value in
    let names = g.C.Columns.names c.args.columns.now in
    let words = c.args.words.now in
    let ss = c.args.sums.now in
    let out = first_entries tv c.words.k c.words.indices c.words.values in
    let none : from_word tv names words ss c.words.w ≡ [] = past_words tv names words ss c.words.w (omega arith) in
    let count = ap length none in
    sym (first-all tv c.words.indices c.words.values c.words.k (omega (arith, count, c.words.invariant.count)) (omega arith))
    ∙ sym (append_nil out)
    ∙ ap (λ (m : VectorEntries). out ++ m) (sym none)
    ∙ c.words.invariant.so_far
    ∙ all_words tv names words ss c.requires.marked
