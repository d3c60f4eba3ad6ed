use Rattle.std.proofs.Common.{◌<◌, List, length, map, sym, subst, arith}
use Rattle.std.specs.Prelude.{All}
use Rattle.std.proofs.lemmas.List.{length-map}
use Rattle.std.proofs.lemmas.List.Elements.{All-weaker}
use Rattle.grb_call.specs.declared.call.Call.{Call}
use Rattle.grb_results.specs.declared.exchange.Kept.{Kept}
use Rattle.grb_results.specs.Kept.{AreKept, IsKeptOf}
use Rattle.grb_editions.proofs.edition.Edition.take_into.Goals as goal

pub returns : goal.returns
returns c =
    let cs : List Call = map (λ a. a.now) c.args.calls.now in let own : List Call = c.self.inside.calls.items in let results : List Kept = c.self.inside.results.items in
    let theirs : AreKept c.deref.result.now results = subst (λ (ds : List Call). AreKept ds results) (sym c.deref.ensures.value) c.self.invariant.0 in
    let kept : AreKept cs c.deref-2.result.now = subst (λ (ks : List Kept). AreKept cs ks) (sym c.deref-2.ensures.value) (c.begin_with.ensures.kept c.if-not-begin_with.false results theirs) in
    let below : All (λ (k : Kept). k.at < length own) results = All-weaker (IsKeptOf own) (λ k. k.at < length own) (λ k is. is.within) results c.self.invariant.0 in
    let given : All (λ (k : Kept). k.at < length own) c.deref-2.result.now = subst (λ (ks : List Kept). All (λ (k : Kept). k.at < length own) ks) (sym c.deref-2.ensures.value) below in
    record {
      table = c.keep_all.ensures.table cs kept;
      same = c.keep_all.ensures.same;
      stays = c.keep_all.ensures.stays;
      first = λ k from. c.keep_all.ensures.first (length own) given k (omega (arith, from, c.len.ensures));
      within = omega (arith, c.len.ensures, c.begin_with.ensures.within c.if-not-begin_with.false, c.deref.ensures.len, length-map c.args.calls.now (λ a. a.now));
      none = λ e. absurd (omega (arith, e, c.len.ensures, c.self.invariant.1));
    }
