use Rattle.std.proofs.Common.{◌≡◌, ◌+◌, ◌<◌, ◌++◌, [], ◌∷◌, ℕ, Some, length, get_or, set, arith, ap, sym, ◌∙◌}
use Rattle.grb_core.specs.Entries.{VectorEntries}
use Rattle.grb_kernels.specs.Typed.{first_entries}
use Rattle.grb_kernels.proofs.Lists.{append_nil, first-set_more}
use Rattle.grb_kernels.specs.Bits.{has_bit}
use Rattle.grb_sums.specs.Bits.{value_at, word_values}
use Rattle.grb_sums.proofs.MarkedPlaces.{entries_at-none, fewer_left, no_bit, some_in_word, took_lowest}
use Rattle.grb_sums.proofs.SumsByColumn.{value-read}
use Rattle.grb_sums.proofs.column_sums.close_word.Goals as goal

pub bounds-indices-k : goal.bounds-indices-k
bounds-indices-k g c =
    let lowest = c.lowest_bit-t.ensures in
    let held = c.bits.invariant in
    let inside = c.requires.in_range c.lowest_bit-t.result (held.among c.lowest_bit-t.result lowest.set) in
    let some = some_in_word g.T.Scalar.value (g.C.Columns.names c.args.columns.now) c.bits.left c.args.base c.lowest_bit-t.result c.args.sums.now lowest.set lowest.low (omega (arith, inside, c.requires.sums_long)) in
    omega (arith, some, held.count, c.requires.room, c.bits.auto.indices)

pub bounds-values-k : goal.bounds-values-k
bounds-values-k g c =
    let lowest = c.lowest_bit-t.ensures in
    let held = c.bits.invariant in
    let inside = c.requires.in_range c.lowest_bit-t.result (held.among c.lowest_bit-t.result lowest.set) in
    let some = some_in_word g.T.Scalar.value (g.C.Columns.names c.args.columns.now) c.bits.left c.args.base c.lowest_bit-t.result c.args.sums.now lowest.set lowest.low (omega (arith, inside, c.requires.sums_long)) in
    omega (arith, some, held.count, c.requires.room, c.requires.room_same, c.bits.auto.values)

pub bits-preserved : goal.bits-preserved
bits-preserved g c =
    let tv = g.T.Scalar.value in
    let names = g.C.Columns.names c.args.columns.now in
    let held = c.bits.invariant in
    let low = c.lowest_bit-t.result in
    let lowest = c.lowest_bit-t.ensures in
    let rest = c.without_bit-left.ensures in
    let ss = c.args.sums.now in
    let base = c.args.base in
    let k = c.bits.k in
    let x = c.index-sums-at.result in
    let inside : base + low < length names = c.requires.in_range low (held.among low lowest.set) in
    let inside_sums : base + low < length ss = omega (arith, inside, c.requires.sums_long) in
    let some = some_in_word tv names c.bits.left base low ss lowest.set lowest.low inside_sums in
    let room : k < length c.bits.indices = omega (arith, some, held.count, c.requires.room, c.bits.auto.indices) in
    let same : length c.bits.indices ≡ length c.bits.values = omega (arith, c.requires.room_same, c.bits.auto.indices, c.bits.auto.values) in
    let there : Some (tv x) ≡ value_at tv ss (base + low) = value-read tv ss (base + low) x inside_sums c.index-sums-at.is in
    let name = λ (t : ℕ). get_or names (base + t) 0 in
    let at = λ (t : ℕ). value_at tv ss (base + t) in
    let out = first_entries tv k c.bits.indices c.bits.values in
    let fewer = fewer_left name (has_bit c.bits.left) (has_bit c.without_bit-left.result) at low lowest.set lowest.below rest.gone rest.same (tv x) lowest.low there in
    record {
      among = λ t h. held.among t (rest.among t h);
      count = omega (arith, fewer, held.count);
      so_far = took_lowest name (has_bit c.bits.left) (has_bit c.without_bit-left.result) at low lowest.set lowest.below rest.gone rest.same
          out (first_entries tv (k + 1) (set c.bits.indices k c.name.result) (set c.bits.values k x))
          (first_entries tv c.args.k c.args.indices.now c.args.values.now ++ word_values tv names c.args.word base ss) (tv x) lowest.low held.so_far there
          (first-set_more tv c.bits.indices c.bits.values k c.name.result x room same ∙ ap (λ j. out ++ (j, tv x) ∷ []) c.name.ensures);
    }

pub returns-clause-entries : goal.returns-clause-entries
returns-clause-entries g c =
    let tv = g.T.Scalar.value in
    let names = g.C.Columns.names c.args.columns.now in
    let none : c.bits.left ≡ 0 = omega arith in
    let out = first_entries tv c.bits.k c.bits.indices c.bits.values in
    let nothing : word_values tv names c.bits.left c.args.base c.args.sums.now ≡ [] =
    entries_at-none (λ (t : ℕ). get_or names (c.args.base + t) 0) (has_bit c.bits.left) (λ (t : ℕ). value_at tv c.args.sums.now (c.args.base + t)) 0 64 (λ i l. no_bit c.bits.left i none) in
    sym (append_nil out) ∙ ap (λ (m : VectorEntries). out ++ m) (sym nothing) ∙ c.bits.invariant.so_far

pub returns-clause-count : goal.returns-clause-count
returns-clause-count g c =
    let tv = g.T.Scalar.value in
    let names = g.C.Columns.names c.args.columns.now in
    let none : c.bits.left ≡ 0 = omega arith in
    let nothing : length (word_values tv names c.bits.left c.args.base c.args.sums.now) ≡ 0 =
    ap length (entries_at-none (λ (t : ℕ). get_or names (c.args.base + t) 0) (has_bit c.bits.left) (λ (t : ℕ). value_at tv c.args.sums.now (c.args.base + t)) 0 64 (λ i l. no_bit c.bits.left i none)) in
    omega (arith, nothing, c.bits.invariant.count)
