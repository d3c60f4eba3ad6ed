-- What a pass knows that learnt the order to its end and entered nothing.
use Rattle.std.proofs.Common.{◌≡◌, ℕ, length, sym, ap, subst}
use Rattle.std.specs.Prelude.{Err, Ok, OnOk, Result}
use Rattle.grb_core.specs.declared.refusal.Refusal.{Refusal}
use Rattle.grb_pass.proofs.Prelude.{CountsCall, Counts, Finds, Knowing, Learns, LooksAtEnd, LooksOnce, counts_alike, counts_begun, counts_looked, known, looks_once}
use Rattle.grb_pass.specs.Looking.{IsNow, Looks}
use Rattle.grb_reader.proofs.Answering.{length_known, point_found}
use Rattle.grb_reader.proofs.Counted.{begun}
use Rattle.grb_reader.specs.Point.{IsAtPoint}
use Rattle.grb_reader.specs.declared.learn.End.{End}
use Rattle.grb_reader.specs.declared.learn.End.TheVariants.{Full, Vacant}

pub looks_from : (room : ℕ) (old now new : Knowing) → now ≡ begun old → Learns now new → Counts now new → LooksAtEnd room now new → Looks room old new
looks_from room old now new is learns counts looks =
    let l : Learns (begun old) new = subst (λ (k : Knowing). Learns k new) is learns in
    let none : now.steps ≡ 0 = ap (λ (k : Knowing). k.steps) is in
    record {
      learns = record {
        grown = l.grown;
        own = l.own;
        learnt = l.learnt;
        known_is = l.known_is;
        others = l.others;
        passes = l.passes;
        statuses = l.statuses;
        settled = l.settled;
      };
      counts = counts_begun room old now new is (counts_looked room now new learns counts none looks);
      once = subst (λ (k : Knowing). LooksOnce k new) is (looks_once room now new counts none looks);
    }

all_found : (room : ℕ) (old new : Knowing) (end : End) → Finds room old (Ok end) new → length (known new) ≡ length new.view.words
all_found room old new Vacant found = length_known new found.0
all_found room old new Full found = length_known new found.0

pub now_found : (room : ℕ) (old now new : Knowing) (end : End) → now ≡ begun old → Finds room now (Ok end) new → IsNow room old new
now_found room old now new end is found = record {
  point = subst (λ (k : Knowing). IsAtPoint room k.view new.view (known new)) is (point_found room now new end found);
  all = all_found room now new end found;
}

pub found_now : (room : ℕ) (old now new : Knowing) (r : Result End Refusal) → now ≡ begun old → Finds room now r new → OnOk r (IsNow room old new)
found_now room old now new (Ok end) is found = now_found room old now new end is found
found_now room old now new (Err why) is found = tt

-- what is evaluated afterwards changes nothing of it
pub looks_alike : (room : ℕ) (old mid new : Knowing) → new ≡ record mid { made = new.made } → Looks room old mid → Looks room old new
looks_alike room old mid new same is =
    let l : Learns old mid = is.learns in
    subst (Looks room old) (sym same)
    (record {
      learns = record {
        grown = l.grown;
        own = l.own;
        learnt = l.learnt;
        known_is = l.known_is;
        others = l.others;
        passes = l.passes;
        statuses = l.statuses;
        settled = l.settled;
      };
      counts = counts_alike room old mid mid.statuses mid.settled new.made is.counts;
      once = is.once;
    })

pub now_alike : (room : ℕ) (old mid new : Knowing) → new ≡ record mid { made = new.made } → IsNow room old mid → IsNow room old new
now_alike room old mid new same is = subst (IsNow room old) (sym same) (record { point = is.point; all = is.all })
