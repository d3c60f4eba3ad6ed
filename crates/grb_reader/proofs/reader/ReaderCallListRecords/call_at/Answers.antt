use Rattle.std.proofs.Common.{◌≡◌, ◌<◌, length, sym, ap, subst, ◌∙◌, arith}
use Rattle.grb_reader.proofs.Prelude.{slice_get, All-get_or, IsOf, Call, calls_of, Knowing, known, knowing}
use Rattle.std.specs.Prelude.{All, Some}
use Rattle.grb_reader.proofs.Spelling.{call_known, known_within, length-calls_of}
use Rattle.grb_reader.proofs.reader.ReaderCallListRecords.call_at.Goals as goal

pub index_mut-requires : goal.index_mut-requires
index_mut-requires c =
    let here : c.args.at < length (known c.args.self.now) = omega (arith, c.requires.at, length-calls_of (known c.args.self.now)) in
    let inside = c.self.inside in let n = inside.tokens.ok.0 in
    let lt : c.args.at < length inside.tokens.items = known_within (knowing inside) c.args.at c.self.invariant.few (subst (λ (p : Knowing). c.args.at < length (known p)) (sym c.self.view_is) here) in
    omega (arith, lt, n)

pub call_of-requires : goal.call_of-requires
call_of-requires c =
    let here : c.args.at < length (known c.args.self.now) = omega (arith, c.requires.at, length-calls_of (known c.args.self.now)) in
    let inside = c.self.inside in let records = c.args.source.now in
    let lt : c.args.at < length inside.tokens.items = known_within (knowing inside) c.args.at c.self.invariant.few (subst (λ (p : Knowing). c.args.at < length (known p)) (sym c.self.view_is) here) in
    subst (IsOf records) (sym c.index_mut.ensures.value)
    (All-get_or (IsOf records) inside.tokens.items c.args.at c.index_mut.result.now lt (subst (λ (p : Knowing). All (IsOf records) p.shown) (sym c.self.view_is) c.requires.held))

pub returns-clause-call : goal.returns-clause-call
returns-clause-call c =
    let here : c.args.at < length (known c.args.self.now) = omega (arith, c.requires.at, length-calls_of (known c.args.self.now)) in
    let inside = c.self.inside in
    let lt : c.args.at < length inside.tokens.items = known_within (knowing inside) c.args.at c.self.invariant.few (subst (λ (p : Knowing). c.args.at < length (known p)) (sym c.self.view_is) here) in
    subst (λ (p : Knowing). slice_get (calls_of (known p)) c.args.at ≡ Some c.call_of.result.now) c.self.view_is
    (call_known (knowing inside) c.args.at c.index_mut.result.now c.self.invariant.few lt c.index_mut.ensures.value ∙ ap (λ (x : Call). Some x) (sym c.call_of.ensures.call))
