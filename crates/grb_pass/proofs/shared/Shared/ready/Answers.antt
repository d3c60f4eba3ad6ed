use Rattle.std.proofs.Common.{◌≡◌, ℕ, List, [], ◌∷◌, ◌++◌, length, refl, sym, ap, subst, ◌∙◌}
use Rattle.grb_reader.specs.Point.{GrewTo}
use Rattle.grb_pass.proofs.Prelude.{Ok, err_from_is_err_and, OrderFull, room_of, LookedLast, Knowing, Finds, IsRefused, IsAtEnd, at_end_after, ready_after, refused_after, refused_checked, refused_by_room}
use Rattle.grb_reader.specs.declared.learn.End.{End}
use Rattle.grb_reader.specs.declared.learn.End.TheVariants.{Vacant}
use Rattle.grb_pass.proofs.Evaluating.{state_learns}
use Rattle.grb_pass.proofs.shared.Shared.ready.Goals as goal

end_in_err_check : (g : _) (c : goal.After-from_residual-in_err-check g) → IsAtEnd c.args.self.now (room_of c.args.self.now.order) c.args.pass.now c.check.new.self
end_in_err_check g c =
    let is = c.learn.ensures in let room = room_of c.args.self.now.order in
    at_end_after c.args.self.now room c.args.pass.now c.learn.new.reader c.check.new.self c.check.ensures.same
    (subst (λ (old : Knowing). IsAtEnd c.args.self.now room old c.learn.new.reader) c.pass.view_is (record { pass = is.pass; counts = is.counts; looks = is.looks; learns = is.learns; steady = is.steady }))

pub returns-in_err-check-clause-pass : goal.returns-in_err-check-clause-pass
returns-in_err-check-clause-pass g c = (end_in_err_check g c).pass

pub returns-in_err-check-clause-counts : goal.returns-in_err-check-clause-counts
returns-in_err-check-clause-counts g c = (end_in_err_check g c).counts

pub returns-in_err-check-clause-looks : goal.returns-in_err-check-clause-looks
returns-in_err-check-clause-looks g c = (end_in_err_check g c).looks

pub returns-in_err-check-clause-learns : goal.returns-in_err-check-clause-learns
returns-in_err-check-clause-learns g c = (end_in_err_check g c).learns

pub returns-in_err-check-clause-steady : goal.returns-in_err-check-clause-steady
returns-in_err-check-clause-steady g c = (end_in_err_check g c).steady

pub returns-in_err-check-clause-made : goal.returns-in_err-check-clause-made
returns-in_err-check-clause-made g c plain = c.check.ensures.made plain ∙ c.learn.ensures.made ∙ ap (λ (p : Knowing). p.made) c.pass.view_is

end_in_Full : (g : _) (c : goal.In-Full g) → IsAtEnd c.args.self.now (room_of c.args.self.now.order) c.args.pass.now c.check.new.self
end_in_Full g c =
    let is = c.learn.ensures in let room = room_of c.args.self.now.order in
    at_end_after c.args.self.now room c.args.pass.now c.learn.new.reader c.check.new.self c.check.ensures.same
    (subst (λ (old : Knowing). IsAtEnd c.args.self.now room old c.learn.new.reader) c.pass.view_is (record { pass = is.pass; counts = is.counts; looks = is.looks; learns = is.learns; steady = is.steady }))

pub returns-in-Full-clause-pass : goal.returns-in-Full-clause-pass
returns-in-Full-clause-pass g c = (end_in_Full g c).pass

pub returns-in-Full-clause-counts : goal.returns-in-Full-clause-counts
returns-in-Full-clause-counts g c = (end_in_Full g c).counts

pub returns-in-Full-clause-looks : goal.returns-in-Full-clause-looks
returns-in-Full-clause-looks g c = (end_in_Full g c).looks

pub returns-in-Full-clause-learns : goal.returns-in-Full-clause-learns
returns-in-Full-clause-learns g c = (end_in_Full g c).learns

pub returns-in-Full-clause-steady : goal.returns-in-Full-clause-steady
returns-in-Full-clause-steady g c = (end_in_Full g c).steady

pub returns-in-Full-clause-made : goal.returns-in-Full-clause-made
returns-in-Full-clause-made g c plain = c.check.ensures.made plain ∙ c.learn.ensures.made ∙ ap (λ (p : Knowing). p.made) c.pass.view_is

end_in_Vacant : (g : _) (c : goal.In-Vacant g) → IsAtEnd c.args.self.now (room_of c.args.self.now.order) c.args.pass.now c.check.new.self
end_in_Vacant g c =
    let is = c.learn.ensures in let room = room_of c.args.self.now.order in
    at_end_after c.args.self.now room c.args.pass.now c.learn.new.reader c.check.new.self c.check.ensures.same
    (subst (λ (old : Knowing). IsAtEnd c.args.self.now room old c.learn.new.reader) c.pass.view_is (record { pass = is.pass; counts = is.counts; looks = is.looks; learns = is.learns; steady = is.steady }))

pub returns-in-Vacant-clause-pass : goal.returns-in-Vacant-clause-pass
returns-in-Vacant-clause-pass g c = (end_in_Vacant g c).pass

pub returns-in-Vacant-clause-counts : goal.returns-in-Vacant-clause-counts
returns-in-Vacant-clause-counts g c = (end_in_Vacant g c).counts

pub returns-in-Vacant-clause-looks : goal.returns-in-Vacant-clause-looks
returns-in-Vacant-clause-looks g c = (end_in_Vacant g c).looks

pub returns-in-Vacant-clause-learns : goal.returns-in-Vacant-clause-learns
returns-in-Vacant-clause-learns g c = (end_in_Vacant g c).learns

pub returns-in-Vacant-clause-steady : goal.returns-in-Vacant-clause-steady
returns-in-Vacant-clause-steady g c = (end_in_Vacant g c).steady

pub returns-in-Vacant-clause-made : goal.returns-in-Vacant-clause-made
returns-in-Vacant-clause-made g c plain = c.check.ensures.made plain ∙ c.learn.ensures.made ∙ ap (λ (p : Knowing). p.made) c.pass.view_is

pub returns-in-Vacant-clause-ready : goal.returns-in-Vacant-clause-ready
returns-in-Vacant-clause-ready g c =
    let room = room_of c.args.self.now.order in let mid = c.learn.new.reader in
    let f : Finds room c.pass.inside.reader (Ok Vacant) mid = subst (λ (end : End). Finds room c.pass.inside.reader (Ok end) mid) c.in-Vacant.is c.in_ok-end.ensures.finds in
    let looked : LookedLast mid.view = (c.pass.inside.reader.view.looks, f.1) in
    ready_after c.args.self.now room c.args.pass.now mid c.check.new.self c.check.ensures.same c.args.call.now (record { all = f.0; looked = looked; room_left = f.2; unrefused = c.in_ok-check.ensures.checked })

pub returns-in_err-check-clause-refused : goal.returns-in_err-check-clause-refused
returns-in_err-check-clause-refused g c =
    let room = room_of c.args.self.now.order in let mid = c.learn.new.reader in let call = c.args.call.now in let r = c.in_err-check.field-0.0 in
    let p = err_from_is_err_and c.from_residual-in_err-check.result c.from_residual-in_err-check.ensures.1 in
    let is : IsRefused room c.pass.inside.reader mid call r = refused_checked room c.pass.inside.reader mid c.in_ok-end.end call r c.in_ok-end.ensures.finds c.in_err-check.ensures.checked in
    rw (p.1, p.2) (subst (λ (old : Knowing). IsRefused room old c.check.new.self call r) c.pass.view_is (refused_after c.args.self.now room c.pass.inside.reader mid c.check.new.self c.check.ensures.same call r is))

pub returns-in-Full-clause-refused : goal.returns-in-Full-clause-refused
returns-in-Full-clause-refused g c =
    let room = room_of c.args.self.now.order in let mid = c.learn.new.reader in let call = c.args.call.now in
    let f = subst (λ (end : End). Finds room c.pass.inside.reader (Ok end) mid) c.in-Full.is c.in_ok-end.ensures.finds in
    subst (λ (old : Knowing). IsRefused room old c.check.new.self call OrderFull) c.pass.view_is
    (refused_after c.args.self.now room c.pass.inside.reader mid c.check.new.self c.check.ensures.same call OrderFull (refused_by_room room c.pass.inside.reader mid call f c.requires.enters c.in_ok-check.ensures.checked))

pub invariant_of-pass : goal.invariant_of-pass
invariant_of-pass g c =
    state_learns c.pass.inside.reader c.learn.new.reader c.pass.inside.evaluated c.pass.inside.row.next c.learn.ensures.learns c.learn.ensures.made c.pass.invariant

pub invariant_of-pass-2 : goal.invariant_of-pass-2
invariant_of-pass-2 g c =
    state_learns c.pass.inside.reader c.learn.new.reader c.pass.inside.evaluated c.pass.inside.row.next c.learn.ensures.learns c.learn.ensures.made c.pass.invariant

append_none : (xs : List ℕ) → xs ++ [] ≡ xs
append_none [] = refl
append_none (x ∷ xs) = ap (λ (ys : List ℕ). x ∷ ys) (append_none xs)

pub returns-in-Vacant-clause-looked : goal.returns-in-Vacant-clause-looked
returns-in-Vacant-clause-looked g c =
    let room = room_of c.args.self.now.order in let mid = c.learn.new.reader in
    let f : Finds room c.pass.inside.reader (Ok Vacant) mid = subst (λ (end : End). Finds room c.pass.inside.reader (Ok end) mid) c.in-Vacant.is c.in_ok-end.ensures.finds in
    let grew : GrewTo c.pass.inside.reader.view.looks mid.view.looks (length mid.view.words) =
    ([], f.1 ∙ ap (λ (xs : List ℕ). xs ++ length mid.view.words ∷ []) (sym (append_none c.pass.inside.reader.view.looks))) in
    let new : GrewTo c.pass.inside.reader.view.looks c.check.new.self.view.looks (length c.check.new.self.view.words) =
    subst (λ (p : Knowing). GrewTo c.pass.inside.reader.view.looks p.view.looks (length p.view.words)) (sym c.check.ensures.same) grew in
    subst (λ (p : Knowing). GrewTo p.view.looks c.check.new.self.view.looks (length c.check.new.self.view.words)) c.pass.view_is new
