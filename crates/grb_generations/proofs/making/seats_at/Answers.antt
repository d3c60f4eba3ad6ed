use Rattle.std.proofs.Common.{◌≡◌, ◌+◌, ℕ, suc, ◌∙◌, ◌∷◌, [], List, IfSome, Option, None, Some, length, ap, arith, sym, subst}
use Rattle.std.proofs.lemmas.List.{length-append}
use Rattle.grb_context.specs.Known.{Knowing}
use Rattle.grb_slots.specs.Row.{AllFit}
use Rattle.grb_slots.proofs.Fitting.{first_fits, more_fit, none_fit}
use Rattle.grb_generations.specs.Sites.{IsPassAt, IsSeatAt}
use Rattle.grb_generations.specs.declared.generation.Seat.{Seat}
use Rattle.grb_generations.specs.declared.site.Site.{Site}
use Rattle.grb_generations.proofs.making.seats_at.Goals as goal

-- all come after no seat
begun : (site : Site) (n : ℕ) (passes : List Knowing) → n ≡ 0 → AllFit (IsPassAt site) passes → AllFit (λ (k : ℕ) (p : Knowing). IsPassAt site (k + n) p) passes
begun site n passes none ok k p e = let is = ok k p e in record { goes_on = is.goes_on; number_is = omega (arith, is.number_is, none) }

-- the rest come after one seat more
further : (site : Site) (n m : ℕ) (rest : List Knowing) → m ≡ n + 1 → AllFit (λ (k : ℕ) (p : Knowing). IsPassAt site (suc k + n) p) rest → AllFit (λ (k : ℕ) (p : Knowing). IsPassAt site (k + m) p) rest
further site n m rest more ok k p e = let is = ok k p e in record { goes_on = is.goes_on; number_is = omega (arith, is.number_is, more) }

pub passes-init : goal.passes-init
passes-init c =
    let site : Site = c.args.site.now in let F : ℕ → Option Seat → Type 0 = λ k x. IfSome x (IsSeatAt site k) in
    record {
      rest = begun site _ _ (ap length c.in_ok-seats.ensures.items) (subst (AllFit (IsPassAt site)) (sym c.into_iter-pass-iterator.ensures.into_iter_gives.0) c.requires.passes);
      seats = subst (AllFit F) (sym c.in_ok-seats.ensures.items) (none_fit F);
      own = tt;
      number = tt;
    }

pub passes-preserved-in-Continue-branch-2 : goal.passes-preserved-in-Continue-branch-2
passes-preserved-in-Continue-branch-2 c =
    let site : Site = c.args.site.now in let seats : List (Option Seat) = c.passes.seats.items in let n : ℕ = length seats in
    let N : ℕ → Knowing → Type 0 = λ k p. IsPassAt site (k + n) p in
    let F : ℕ → Option Seat → Type 0 = λ k x. IfSome x (IsSeatAt site k) in
    let pass : Knowing = c.in-Some.pass in let rest : List Knowing = c.next.new.self.rest.items in
    let fit = first_fits N pass rest (subst (AllFit N) c.in-Some.ensures.steps.0 c.passes.invariant.rest) in
    let more = ap length c.in_ok-push.ensures.items ∙ length-append seats (None ∷ []) in
    record {
      rest = further site n _ rest more fit.1;
      seats = subst (AllFit F) (sym c.in_ok-push.ensures.items) (more_fit F seats None c.passes.invariant.seats tt);
      own = fit.0.goes_on;
      number = sym c.number.ensures ∙ c.if-number.true;
    }

pub passes-preserved : goal.passes-preserved
passes-preserved c =
    let site : Site = c.args.site.now in let seats : List (Option Seat) = c.passes.seats.items in let n : ℕ = length seats in
    let N : ℕ → Knowing → Type 0 = λ k p. IsPassAt site (k + n) p in
    let F : ℕ → Option Seat → Type 0 = λ k x. IfSome x (IsSeatAt site k) in
    let pass : Knowing = c.in-Some.pass in let rest : List Knowing = c.next.new.self.rest.items in
    let fit = first_fits N pass rest (subst (AllFit N) c.in-Some.ensures.steps.0 c.passes.invariant.rest) in
    let more = ap length c.in_ok-push-2.ensures.items ∙ length-append seats (Some (record { pass = pass }) ∷ []) in
    record {
      rest = further site n _ rest more fit.1;
      seats = subst (AllFit F) (sym c.in_ok-push-2.ensures.items) (more_fit F seats (Some (record { pass = pass })) c.passes.invariant.seats (record { goes_on = fit.0.goes_on; number_is = omega (arith, fit.0.number_is) }));
      own = c.passes.invariant.own;
      number = c.passes.invariant.number;
    }
