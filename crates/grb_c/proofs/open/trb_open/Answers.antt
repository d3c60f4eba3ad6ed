use lib.Signed.{mag}
use Rattle.std.proofs.Common.{◌≡◌, ◌∙◌, ◌<◌, ℕ, ℤ, List, Option, Some, None, ap, sym, subst, arith, length, to_z, of_z, w32, to_z-of_z}
use Rattle.std.proofs.lemmas.List.{length-map}
use Rattle.std.specs.Prelude.{map, slice_get, slice_index_or}
use Rattle.grb_context.specs.Known.{AreNew, Knowing, Shared}
use Rattle.grb_codes.specs.Codes.{success}
use Rattle.grb_c.specs.Opening.{new_pass}
use Rattle.grb_c.specs.Sessions.{Opened}
use Rattle.grb_c.proofs.Opening.{held_as}
use Rattle.grb_c.proofs.open.trb_open.Goals as goal

-- a status is what its bits say
put_code : (n : ℤ) → mag n < 2147483648 → n ≡ to_z w32 (of_z w32 n)
put_code n small = grind (arith, to_z-of_z, small)

known_in : Knowing → Option Knowing → Knowing
known_in d (Some p) = p
known_in d None = d

pub returns-clause-opened : goal.returns-clause-opened
unfolding known_in
returns-clause-opened c code =
    let context : Shared = c.in-Ok.context in let hs : List (Option Opened) = map (λ h. h.raw.session) c.hand_out_context.new.passes in
    let opened : List Knowing = c.in-Ok.opened.items in let n : ℕ = length c.args.passes.now in
    let done : c.hand_out_context.result ≡ success = put_code c.hand_out_context.result c.hand_out_context.type_inv ∙ code in
    let count : length hs ≡ n = length-map c.hand_out_context.new.passes (λ h. h.raw.session) ∙ c.hand_out_context.ensures.count in
    let new : AreNew context.order n opened n = c.in-Ok.ensures.passes in
    record {
      context = context;
      room_is = c.in-Ok.ensures.room;
      hold = λ k from within. held_as context c.args.store (λ p. slice_get opened k ≡ Some p) (λ p. p ≡ new_pass context.order (length hs) k)
          (λ p got. ap (known_in p) (sym got ∙ new.each k (subst (λ (m : ℕ). k < m) count within)) ∙ ap (λ (m : ℕ). new_pass context.order m k) (sym count))
          (slice_index_or hs k None) (c.hand_out_context.ensures.hold done k from within);
    }
