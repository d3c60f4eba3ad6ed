use Rattle.std.proofs.Common.{◌++◌, ◌≡◌, List, ℕ, ap, sym, subst, ◌∙◌, eqb}
use Rattle.std.specs.List.{Contains}
use Rattle.std.specs.List.Sorted.{IsStrictlyIncreasing}
use Rattle.std.proofs.lemmas.List.Elements.{Contains-append_left, Contains-append_right, Contains-append_cases}
use Rattle.std.proofs.lemmas.List.Filters.{dedup_is}
use Rattle.std.proofs.lemmas.List.Kept.{Contains-dedup_nat, Contains-from_dedup}
use Rattle.std.proofs.lemmas.List.Sorted.{Contains-permutation, IsPermutation-sym}
use Rattle.std.proofs.lemmas.Map.Keys.{IsStrictlyIncreasing-dedup}
use Rattle.grb_ewise.proofs.RankLemmas.{rise_from_steps}
use Rattle.grb_ewise.proofs.ranks.distinct.Goals as goal

pub returns-clause-rising : goal.returns-clause-rising
returns-clause-rising c =
    let sorted = c.sort_unstable.new.self in
    rise_from_steps c.dedup.new.self.items
    (subst IsStrictlyIncreasing (sym (dedup_is eqb sorted.items c.dedup.new.self.items c.dedup.ensures.filtered)) (IsStrictlyIncreasing-dedup sorted.items c.sort_unstable.ensures.sorted))

pub returns-clause-all : goal.returns-clause-all
returns-clause-all c j h =
    let sorted = c.sort_unstable.new.self in
    let first = c.extend_from_slice.new.self in
    let both = c.extend_from_slice-2.new.self in
    let in_first : Contains first.items j = subst (λ (s : List ℕ). Contains s j) (sym (c.in_ok-extend_from_slice.ensures.items ∙ ap (λ (s : List ℕ). s ++ c.args.columns.now) c.new-names.ensures.items)) h in
    let in_both : Contains both.items j = subst (λ (s : List ℕ). Contains s j) (sym c.in_ok-extend_from_slice-2.ensures.items) (Contains-append_left first.items c.args.others.now j in_first) in
    subst (λ (s : List ℕ). Contains s j) (sym (dedup_is eqb sorted.items c.dedup.new.self.items c.dedup.ensures.filtered))
    (Contains-dedup_nat sorted.items j (Contains-permutation both.items sorted.items j c.sort_unstable.ensures.permutation in_both))

pub returns-clause-others : goal.returns-clause-others
returns-clause-others c j h =
    let sorted = c.sort_unstable.new.self in
    let first = c.extend_from_slice.new.self in
    let both = c.extend_from_slice-2.new.self in
    let in_both : Contains both.items j = subst (λ (s : List ℕ). Contains s j) (sym c.in_ok-extend_from_slice-2.ensures.items) (Contains-append_right first.items c.args.others.now j h) in
    subst (λ (s : List ℕ). Contains s j) (sym (dedup_is eqb sorted.items c.dedup.new.self.items c.dedup.ensures.filtered))
    (Contains-dedup_nat sorted.items j (Contains-permutation both.items sorted.items j c.sort_unstable.ensures.permutation in_both))

-- nothing comes of a sort or of taking out what stands twice
pub returns-clause-no_other : goal.returns-clause-no_other
returns-clause-no_other c j h =
    let sorted = c.sort_unstable.new.self in
    let first = c.extend_from_slice.new.self in
    let both = c.extend_from_slice-2.new.self in
    let in_sorted : Contains sorted.items j = Contains-from_dedup eqb sorted.items j (subst (λ (s : List ℕ). Contains s j) (dedup_is eqb sorted.items c.dedup.new.self.items c.dedup.ensures.filtered) h) in
    let in_both : Contains both.items j = Contains-permutation sorted.items both.items j (IsPermutation-sym both.items sorted.items c.sort_unstable.ensures.permutation) in_sorted in
    let columns : first.items ≡ c.args.columns.now = c.in_ok-extend_from_slice.ensures.items ∙ ap (λ (s : List ℕ). s ++ c.args.columns.now) c.new-names.ensures.items in
    Contains-append_cases c.args.columns.now c.args.others.now j
    (subst (λ (s : List ℕ). Contains s j) (c.in_ok-extend_from_slice-2.ensures.items ∙ ap (λ (s : List ℕ). s ++ c.args.others.now) columns) in_both)
