use Rattle.std.proofs.Common.{◌≡◌, ◌∙◌, IfSome, Option, Ok, ap, sym, subst}
use Rattle.grb_context.specs.Known.{Knowing, Shared, known}
use Rattle.grb_context.specs.Meeting.{Met}
use Rattle.grb_generations.specs.Keeping.{IsAtEnd}
use Rattle.grb_generations.specs.Seated.{IsEnded, Seated}
use Rattle.grb_generations.specs.Sites.{IsEndOf}
use Rattle.grb_generations.specs.declared.ended.Ended.{Ended}
use Rattle.grb_generations.specs.declared.site.Site.{Site}
use Rattle.grb_generations.proofs.Ending.{ended_by, is_met, met_end, met_same}
use Rattle.grb_generations.proofs.member.Member.ended.Goals as goal

pub give-requires-2-clause-fits : goal.give-requires-2-clause-fits
give-requires-2-clause-fits c =
    let i = c.self.inside in let site : Site = i.ending.value.tag in let e : Ended = c.in-Some.ended in let q : Knowing = c.meet-met.new.pass in
    let found : IfSome c.in_ok-found.found (IsEndOf site) = subst (λ (t : Site). IfSome c.in_ok-found.found (IsEndOf t)) (ap (λ r. r.tag) c.deref.ensures) c.in_ok-found.ensures.fits in
    let fits : IsEndOf site e = subst (λ (x : Option Ended). IfSome x (IsEndOf site)) c.in-Some.is found in
    let met : Met site.mark.context e.pass q i.pass c.meet-met.result = subst (λ (x : Shared). Met x e.pass q i.pass c.meet-met.result) (c.deref-2.ensures ∙ sym c.self.invariant.1.context_is) c.meet-met.ensures.met in
    subst (λ (t : Site). IsEndOf t (record e { pass = q })) (ap (λ r. r.tag) (sym c.deref-3.ensures)) (met_end site e q i.pass c.meet-met.result fits met)

pub returns-clause-ended : goal.returns-clause-ended
returns-clause-ended c =
    let i = c.self.inside in let site : Site = i.ending.value.tag in let e : Ended = c.in-Some.ended in let q : Knowing = c.meet-met.new.pass in
    let old : Seated = record { chain = i.generations.value; page = i.page; context = i.context.value; numbers = i.numbers.value; pass = i.pass; generation = i.generation; reason = i.reason } in
    let found : IfSome c.in_ok-found.found (IsEndOf site) = subst (λ (t : Site). IfSome c.in_ok-found.found (IsEndOf t)) (ap (λ r. r.tag) c.deref.ensures) c.in_ok-found.ensures.fits in
    let fits : IsEndOf site e = subst (λ (x : Option Ended). IfSome x (IsEndOf site)) c.in-Some.is found in
    let ok : c.meet-met.result ≡ Ok (record {}) = is_met c.meet-met.result (sym c.if-is_err.ensures.value) in
    let met : Met old.context e.pass q i.pass (Ok (record {})) = subst (λ r. Met old.context e.pass q i.pass r) ok (subst (λ (x : Shared). Met x e.pass q i.pass c.meet-met.result) c.deref-2.ensures c.meet-met.ensures.met) in
    let end : IsAtEnd i.pass = subst (λ (x : Seated). IsAtEnd x.pass) (sym c.self.view_is) c.requires.end in
    let order = fits.pass.order ∙ ap (λ (x : Shared). x.order) c.self.invariant.1.context_is in
    let same : known e.pass ≡ known i.pass = met_same old.context e.pass q i.pass order c.self.invariant.0.pass.order fits.end end met in
    subst (λ (x : Seated). IsEnded x c.again-page.result) c.self.view_is
    (subst (IsEnded old) (sym c.again-page.ensures) (ended_by old site e c.self.invariant.1 fits same))
