use Rattle.std.proofs.Common.{◌≡◌, List, [], ◌∷◌, ◌++◌, length, inl, inr, sym, ap, subst, arith, ◌∙◌}
use Rattle.std.specs.List.{All}
use Rattle.grb_reader.proofs.Prelude.{View, IsOf, Shown, Learns}
use Rattle.grb_reader.proofs.Answering.{length_known}
use Rattle.grb_reader.proofs.Counted.{counts_same, counts_then, steps_few}
use Rattle.grb_reader.proofs.Learnt.{learns_then, learns_word, learns_vacant, learns_same}
use Rattle.grb_reader.proofs.reader.Reader.learn.Goals as goal

pub look-requires-clause-few : goal.look-requires-clause-few
look-requires-clause-few c =
    let p = c.catch_up.new.self in let s = c.catch_up.ensures.steady in
    steps_few c.args.self.now p (counts_then c.args.self.now c.words.self c.catch_up.new.self c.words.invariant.counts (counts_same c.words.self c.catch_up.new.self c.catch_up.ensures.steps c.catch_up.ensures.view)) (ap (λ (v : View). v.looks) c.catch_up.ensures.view ∙ c.words.invariant.looks) c.requires.few (omega (arith, s.sound.few, s.small))

pub words-preserved : goal.words-preserved
words-preserved c =
    let old = c.args.self.now in let p = c.catch_up.new.self in let q = c.look.new.self in
    let look = c.in-Next.ensures.look in
    let first : Learns old p = learns_then old _ p c.words.invariant.learns c.catch_up.ensures.learns in
    record {
      order = c.look.ensures.order ∙ c.catch_up.ensures.order ∙ c.words.invariant.order;
      of = subst (λ (l : List Shown). All (IsOf c.args.records.now) l) (sym c.look.ensures.shown) c.catch_up.ensures.of;
      looks = ap (λ (v : View). v.looks) look.0 ∙ ap (λ (v : View). v.looks) c.catch_up.ensures.view ∙ c.words.invariant.looks;
      counts = counts_then old p q (counts_then c.args.self.now c.words.self c.catch_up.new.self c.words.invariant.counts (counts_same c.words.self c.catch_up.new.self c.catch_up.ensures.steps c.catch_up.ensures.view)) c.look.ensures.counts;
      learns = learns_then old p q first (learns_word p q c.catch_up.ensures.steady.few c.look.ensures.shown c.look.ensures.statuses c.look.ensures.settled c.in-Next.field-0 look.0);
      made = c.look.ensures.made ∙ c.catch_up.ensures.made ∙ c.words.invariant.made;
    }

pub returns-in_err-catch_up-clause-looks : goal.returns-in_err-catch_up-clause-looks
returns-in_err-catch_up-clause-looks c = inr (ap (λ (v : View). v.looks) c.catch_up.ensures.view ∙ c.words.invariant.looks, inl c.in_err-catch_up.ensures.refused.1)

pub returns-in-Vacant-clause-looks : goal.returns-in-Vacant-clause-looks
returns-in-Vacant-clause-looks c =
    let old = c.args.self.now in let p = c.catch_up.new.self in let is = c.in-Vacant.ensures.look.0 in let left = c.in-Vacant.ensures.look.1 in
    let same : length c.look.new.self.view.words ≡ length p.view.words = ap (λ (v : View). length v.words) is in
    let before : p.view.looks ≡ old.view.looks = ap (λ (v : View). v.looks) c.catch_up.ensures.view ∙ c.words.invariant.looks in
    let shown : length c.look.new.self.shown ≡ length c.look.new.self.view.words = ap length c.look.ensures.shown ∙ c.in_ok-catch_up.ensures.all ∙ sym same in
    inl (ap (λ (v : View). v.looks) is ∙ (λ i. before i ++ length (sym is i).words ∷ []), omega (arith, same, left), length_known c.look.new.self shown)

pub returns-in-Full-clause-looks : goal.returns-in-Full-clause-looks
returns-in-Full-clause-looks c =
    let look = c.in-Full.ensures.look in
    inr (ap (λ (v : View). v.looks) look.0 ∙ ap (λ (v : View). v.looks) c.catch_up.ensures.view ∙ c.words.invariant.looks, inr (ap (λ (v : View). length v.words) look.0 ∙ look.1))

pub returns-in_err-catch_up-clause-learns : goal.returns-in_err-catch_up-clause-learns
returns-in_err-catch_up-clause-learns c = learns_then _ _ _ c.words.invariant.learns c.catch_up.ensures.learns

pub returns-in-Vacant-clause-learns : goal.returns-in-Vacant-clause-learns
returns-in-Vacant-clause-learns c =
    let old = c.args.self.now in let p = c.catch_up.new.self in let q = c.look.new.self in
    let first : Learns old p = learns_then old _ p c.words.invariant.learns c.catch_up.ensures.learns in
    learns_then old p q first (learns_vacant p q c.catch_up.ensures.steady.few c.look.ensures.shown c.look.ensures.statuses c.look.ensures.settled c.in-Vacant.ensures.look.0)

pub returns-in-Full-clause-learns : goal.returns-in-Full-clause-learns
returns-in-Full-clause-learns c =
    let old = c.args.self.now in let p = c.catch_up.new.self in let q = c.look.new.self in
    let first : Learns old p = learns_then old _ p c.words.invariant.learns c.catch_up.ensures.learns in
    learns_then old p q first (learns_same p q c.catch_up.ensures.steady.few c.look.ensures.shown c.look.ensures.statuses c.look.ensures.settled c.in-Full.ensures.look.0)

pub returns-in_err-catch_up-clause-made : goal.returns-in_err-catch_up-clause-made
returns-in_err-catch_up-clause-made c = c.catch_up.ensures.made ∙ c.words.invariant.made

pub returns-in-Vacant-clause-made : goal.returns-in-Vacant-clause-made
returns-in-Vacant-clause-made c = c.look.ensures.made ∙ c.catch_up.ensures.made ∙ c.words.invariant.made

pub returns-in-Full-clause-made : goal.returns-in-Full-clause-made
returns-in-Full-clause-made c = c.look.ensures.made ∙ c.catch_up.ensures.made ∙ c.words.invariant.made
