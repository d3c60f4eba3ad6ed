use Rattle.std.proofs.Common.{◌≡◌, ◌<◌, length, get_or, subst, sym}
use Rattle.grb_reader.proofs.Prelude.{number_of, index_of, Knowing}
use Rattle.grb_reader.proofs.Readers.{kept_admit}
use Rattle.grb_reader.proofs.reader.Reader.admit.Goals as goal

pub invariant_of-self : goal.invariant_of-self
invariant_of-self c =
    let back = sym c.self.view_is in let token = c.args.token in
    kept_admit _ _ _ _ _ _ _ c.self.invariant token c.args.call.now _ _ _
    (subst (λ (p : Knowing). length p.shown < length p.view.words) back c.requires.next)
    (subst (λ (p : Knowing). token.pass ≡ number_of (get_or p.view.words (length p.shown) 0)) back c.requires.pass)
    (subst (λ (p : Knowing). token.index ≡ index_of (get_or p.view.words (length p.shown) 0)) back c.requires.index)
    c.requires.call c.push_reserved.ensures.items c.push_reserved.ensures.capacity c.absorb.ensures.objects c.absorb.ensures.room
