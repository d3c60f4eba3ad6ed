use Rattle.std.proofs.Common.{◌≡◌, ℕ, ◌<◌, ◌≤◌, List, length, get_or, drop, sym, ap, ◌∙◌, subst, arith}
use Rattle.grb_order.specs.Word.{StartsWith}
use Rattle.grb_order.specs.View.{is_told, IsOthers, IsSound}
use Rattle.grb_order.proofs.Rows.{others_after}
use Rattle.std.specs.List.{All}
use Rattle.grb_order.specs.declared.standing.Role.TheVariants.{Seated, Note}
use Rattle.grb_order.specs.declared.view.View.{View}
use Rattle.grb_order.specs.declared.standing.Standing.{Standing}
use Rattle.grb_order.proofs.Steps.{writes, reads, compares, hears}
use Rattle.grb_order.proofs.Seats.{moved, seated_learns, is_told-learns, is_told-all, known_told}
use Rattle.grb_order.proofs.order.Order.tell.Goals as goal

pub split_seat-note-requires : goal.split_seat-note-requires
split_seat-note-requires c =
    let row = c.self.inside.table.shared in
    let same : c.other.inside.table_seat.table_id ≡ row.table_id = ap (λ h. h.table_id) c.other.view_is ∙ c.requires.other ∙ sym c.self.view_is in
    (same, c.self.invariant.0, writes row.key _ _ c.other.invariant.role)

pub join_seat-requires : goal.join_seat-requires
join_seat-requires c =
    let row = c.self.inside.table.shared in let cut = c.split_seat-note.ensures in
    let same : c.seat.inside.table_seat.table_id ≡ row.table_id = ap (λ h. h.table_id) c.seat.view_is ∙ c.requires.seat ∙ sym c.self.view_is in
    let same_other : c.other.inside.table_seat.table_id ≡ row.table_id = ap (λ h. h.table_id) c.other.view_is ∙ c.requires.other ∙ sym c.self.view_is in
    let note : c.split_seat-note.result.me.0.role ≡ Note = ap (λ m. m.0.role) cut.4 in
    (same, cut.3 ∙ same_other, ap (λ m. m.1) cut.4, c.self.invariant.0, reads row.key _ _ _ _ c.seat.invariant.role note)

pub load-requires : goal.load-requires
load-requires c =
    let row = c.self.inside.table.shared in let joined = c.join_seat.ensures in
    let same : c.seat.inside.table_seat.table_id ≡ row.table_id = ap (λ h. h.table_id) c.seat.view_is ∙ c.requires.seat ∙ sym c.self.view_is in
    let role : c.join_seat.new.seat.me.0.role ≡ Seated = ap (λ m. m.0.role) joined.2 ∙ c.seat.invariant.role in
    (joined.0 ∙ same, c.self.invariant.0, compares row.key _ _ c.join_seat.new.seat.me role)

pub load-word-requires : goal.load-word-requires
load-word-requires c =
    let row = c.self.inside.table.shared in let now = c.loop-row.seat-inside in let i = c.loop-row.invariant in let p = i.seated in
    let other = c.other.inside in let told_by = c.other.invariant in
    let same_before : c.seat.inside.table_seat.table_id ≡ row.table_id = ap (λ h. h.table_id) c.seat.view_is ∙ c.requires.seat ∙ sym c.self.view_is in
    let same : now.table_seat.table_id ≡ row.table_id = i.table ∙ c.load.ensures.0 ∙ c.join_seat.ensures.0 ∙ same_before in
    let same_other : other.table_seat.table_id ≡ row.table_id = ap (λ h. h.table_id) c.other.view_is ∙ c.requires.other ∙ sym c.self.view_is in
    let wide : other.table_seat.table_id.words ≡ row.table_id.words = ap (λ z. z.words) same_other in
    let few : length other.table_seat.me.0.view.words ≤ other.table_seat.table_id.words = told_by.sound.few in
    let long : other.words.len ≡ length other.words.items = other.words.ok.0 in
    let long_too : length other.words.items ≡ length other.table_seat.me.0.view.words = ap length told_by.words_are in
    let told : length now.table_seat.me.0.told ≡ length other.words.items = ap length i.told in
    let here : length now.table_seat.me.0.view.words ≡ c.len-at.result = sym (c.len-at.ensures ∙ now.words.ok.0 ∙ ap length p.words_are) in
    let lt : c.len-at.result < other.words.len = omega arith in
    (same, omega arith, hears row.key _ _ _ now.table_seat.me p.role here (omega arith))

pub loop-row-preserved : goal.loop-row-preserved
loop-row-preserved c =
    let row = c.self.inside.table.shared in let now = c.loop-row.seat-inside in let i = c.loop-row.invariant in let p = i.seated in
    let other = c.other.inside in let told_by = c.other.invariant in let v : Standing = now.table_seat.me.0 in
    let same_before : c.seat.inside.table_seat.table_id ≡ row.table_id = ap (λ h. h.table_id) c.seat.view_is ∙ c.requires.seat ∙ sym c.self.view_is in
    let same : now.table_seat.table_id ≡ row.table_id = i.table ∙ c.load.ensures.0 ∙ c.join_seat.ensures.0 ∙ same_before in
    let same_other : other.table_seat.table_id ≡ row.table_id = ap (λ h. h.table_id) c.other.view_is ∙ c.requires.other ∙ sym c.self.view_is in
    let wide : other.table_seat.table_id.words ≡ now.table_seat.table_id.words = ap (λ z. z.words) (same_other ∙ sym same) in
    let few : length other.table_seat.me.0.view.words ≤ other.table_seat.table_id.words = told_by.sound.few in
    let long : other.words.len ≡ length other.words.items = other.words.ok.0 in
    let long_too : length other.words.items ≡ length other.table_seat.me.0.view.words = ap length told_by.words_are in
    let here : length v.view.words ≡ c.len-at.result = sym (c.len-at.ensures ∙ now.words.ok.0 ∙ ap length p.words_are) in
    let below : c.len-at.result < other.words.len = omega arith in
    let near : length v.view.words < now.table_seat.table_id.words = omega arith in
    let lt : length v.view.words < length other.words.items = omega arith in
    let t = c.load-word.ensures in let heard = t.2 in let x : ℕ = c.load-word.result in
    let is : x ≡ get_or other.words.items (length v.view.words) 0 = heard.1 ∙ (λ k. get_or (i.told k) (sym here k) 0) in
    record {
      table = t.0 ∙ i.table;
      seated = moved _ _ _ _ _ _ _ _ _ _ (ap (λ z. z.words) t.0) c.push_reserved.ensures.items c.push_reserved.ensures.capacity (ap (λ m. m.0) heard.0.0) (seated_learns _ _ _ _ _ v p near x heard.0.1);
      told = ap (λ m. m.0.told) heard.0.0 ∙ i.told;
      whole = ap (λ m. is_told m.0.view other.words.items) heard.0.0 ∙ is_told-learns v.view other.words.items x lt is ∙ i.whole;
    }

pub returns-clause-told : goal.returns-clause-told
returns-clause-told c =
    let now = c.loop-row.seat-inside in let i = c.loop-row.invariant in let other = c.other.inside in let v : View = now.table_seat.me.0.view in
    let here : now.words.len ≡ length v.words = now.words.ok.0 ∙ ap length i.seated.words_are in
    let long : other.words.len ≡ length other.words.items = other.words.ok.0 in
    let le : length other.words.items ≤ length v.words = omega arith in
    let before : c.load.new.seat.me.0.view ≡ c.args.seat.now.view = ap (λ m. m.0.view) (c.load.ensures.2.0 ∙ c.join_seat.ensures.2) ∙ ap (λ h. h.view) c.seat.view_is in
    let words : other.words.items ≡ c.args.other.now.view.words = c.other.invariant.words_are ∙ ap (λ h. h.view.words) c.other.view_is in
    sym (is_told-all v other.words.items le) ∙ i.whole ∙ (λ k. is_told (before k) (words k))

pub returns-clause-known : goal.returns-clause-known
returns-clause-known c =
    let now = c.loop-row.seat-inside in let i = c.loop-row.invariant in let other = c.other.inside in let v : View = now.table_seat.me.0.view in
    let here : now.words.len ≡ length v.words = now.words.ok.0 ∙ ap length i.seated.words_are in
    let long : other.words.len ≡ length other.words.items = other.words.ok.0 in
    let le : length other.words.items ≤ length v.words = omega arith in
    let u : Standing = c.join_seat.new.seat.me.0 in
    let told : u.told ≡ other.table_seat.me.0.view.words = ap (λ m. m.0.told) c.join_seat.ensures.2 ∙ ap (λ m. m.0.view.words) c.split_seat-note.ensures.4 in
    let words : u.told ≡ c.args.other.now.view.words = told ∙ ap (λ h. h.view.words) c.other.view_is in
    let items : other.words.items ≡ u.told = c.other.invariant.words_are ∙ sym told in
    let same : v ≡ is_told u.view u.told = sym (is_told-all v other.words.items le) ∙ i.whole ∙ (λ k. is_told (c.load.ensures.2.0 k).0.view (items k)) in
    subst (λ (y : List ℕ × List ℕ). StartsWith y.0 y.1) (λ k. ((sym same k).words, words k)) (known_told u.view u.told c.load.ensures.2.1 c.load.ensures.2.2)

pub returns-clause-others : goal.returns-clause-others
returns-clause-others c =
    let now = c.loop-row.seat-inside in let i = c.loop-row.invariant in let other = c.other.inside in let v : View = now.table_seat.me.0.view in
    let here : now.words.len ≡ length v.words = now.words.ok.0 ∙ ap length i.seated.words_are in
    let long : other.words.len ≡ length other.words.items = other.words.ok.0 in
    let le : length other.words.items ≤ length v.words = omega arith in
    let u : View = c.seat.inside.table_seat.me.0.view in let words : List ℕ = other.words.items in
    let before : c.load.new.seat.me.0.view ≡ u = ap (λ m. m.0.view) (c.load.ensures.2.0 ∙ c.join_seat.ensures.2) in
    let same : v ≡ is_told u words = sym (is_told-all v words le) ∙ i.whole ∙ ap (λ w. is_told w words) before in
    let old = c.seat.invariant.sound in
    let new = subst (IsSound now.table_seat.table_id.words) same i.seated.sound in
    let others : All (IsOthers u) (drop (length u.words) words) = others_after u.passes u.number u.words (drop (length u.words) words) u.own old.own new.own new.words in
    let words_are : words ≡ c.args.other.now.view.words = c.other.invariant.words_are ∙ ap (λ h. h.view.words) c.other.view_is in
    subst (λ (y : View × List ℕ). All (IsOthers y.0) (drop (length y.0.words) y.1)) (λ k. ((c.seat.view_is k).view, words_are k)) others
