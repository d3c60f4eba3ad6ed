use Rattle.std.proofs.Common.{◌≡◌, ◌<◌, ◌+◌, ℕ, List, arith, ap, sym, subst, ◌∙◌, length, get_or, set, inl, inr}
use Rattle.std.proofs.lemmas.Bool.{cases_eq}
use Rattle.std.proofs.lemmas.List.{get_or-set_same, get_or-set_other}
use Rattle.grb_sums.proofs.RowSpans.{AreBelow, none_below, below_next, are_spans}
use Rattle.grb_sums.proofs.spans.fill_spans.Goals as goal

pub numbers-init : goal.numbers-init
numbers-init c = record { below = none_below c.args.lists.now.rows; starts = λ r h. absurd (omega (arith, h)) }

pub numbers-preserved : goal.numbers-preserved
numbers-preserved c =
    let lists = c.args.lists.now in
    let rows = lists.rows in
    let starts = c.starts-starts.result.now in
    let spans = c.numbers.spans in
    let number = c.numbers.number in
    let k = c.numbers.k in
    let next = c.rows_upto-k in
    let held = c.numbers.invariant in
    let start : c.start_of.result ≡ get_or starts k (length lists.entries) = c.start_of.ensures.start ∙ ap (get_or starts k) c.len.ensures.len in
    record {
      below = below_next rows c.rows-rows.ensures.rise k next.result number held.below
          (subst (λ (rs : List ℕ). k < length rs → get_or rs k 0 ≡ number → next.result ≡ k + 1) c.rows-rows.ensures.list next.ensures.more)
          (subst (λ (rs : List ℕ). (k < length rs → get_or rs k 0 ≡ number → ⊥) → next.result ≡ k) c.rows-rows.ensures.list next.ensures.same);
      starts = λ r l. elim (cases_eq r number) [
        | inl e ↦ record {
          n = k;
          below = subst (AreBelow rows k) (sym e) held.below;
          is = ap (λ x. get_or (set spans number c.start_of.result) x 0) e ∙ get_or-set_same spans number c.start_of.result 0 (omega (arith, c.numbers-test.true)) ∙ start;
        }
        | inr n ↦ let was = held.starts r (omega (arith, l, n)) in record { n = was.n; below = was.below; is = get_or-set_other spans number r c.start_of.result 0 n ∙ was.is }
      ];
    }

pub returns : goal.returns
returns c =
    let lists = c.args.lists.now in
    are_spans lists.rows c.starts-starts.result.now lists.entries c.rows-rows.ensures.rise c.starts-starts.ensures.len c.starts-starts.ensures.rise c.starts-starts.ensures.within c.starts-starts.ensures.spans c.rows-rows.ensures.all
    c.numbers.spans (λ r l. c.numbers.invariant.starts r (omega (arith, l, c.numbers-test.false))) (λ k l. omega (arith, c.requires.room k l))
