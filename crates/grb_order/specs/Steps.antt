-- believed: The steps on the row: a look and a try, both on the first word that the seat has not learnt, and the loads by which a
-- seat is told what another has learnt: what each tells, of the step, the seat before, the number found and the seat after; and
-- what the calls that make them answer.
use Rattle.std.specs.Prelude.{◌≡◌, ◌≢◌, ℕ, ◌<◌, ◌≤◌, [], length, slice_index}
use Rattle.atomic_table.specs.Table.{Me, Step}
use Rattle.grb_order.specs.Word.{order_word, StartsWith}
use Rattle.grb_order.specs.View.{fresh, learns, finds_vacant, enters_word, IsOthers}
use Rattle.grb_order.specs.declared.view.View.{View}
use Rattle.grb_order.specs.declared.standing.Standing.{Standing}
use Rattle.grb_order.specs.declared.standing.Role.TheVariants.{Dealer, Seated, Note, Spent}
use Rattle.grb_order.specs.declared.step.Look.{Look}
use Rattle.grb_order.specs.declared.step.Look.TheVariants.{Next, Vacant, Full}
use Rattle.grb_order.specs.declared.step.Entered.{Entered}
use Rattle.grb_order.specs.declared.step.Entered.TheVariants.{Won, Lost}

abbrev pub Sat : Type 0
Sat = Me (Unit {0}) Standing

abbrev pub Play : Type 1
Play = Step (Unit {0}) → Sat → ℕ → Sat → Type 0

-- the dealer before it deals the seat of this number
abbrev pub dealing : ℕ → ℕ → Standing
dealing number passes = record { role = Dealer; view = fresh number passes; told = [] }

abbrev pub seated : ℕ → ℕ → Standing
seated number passes = record { role = Seated; view = fresh number passes; told = [] }

-- the seat that the dealer deals
abbrev pub dealt : Standing → Standing
dealt v = seated v.view.number v.view.passes

-- a note of what a seat has learnt
abbrev pub noted : Standing → Standing
noted v = record v { role = Note }

-- a seat that took a note in
abbrev pub joined : Standing → Standing → Standing
joined v note = record v { told = note.view.words }

-- a note that was taken in
abbrev pub spent : Standing
spent = record { role = Spent; view = fresh 0 0; told = [] }

-- the same seat with another view
abbrev pub seen : Sat → View → Sat
seen m v = (record m.0 { view = v }, m.1)

abbrev pub LearnsWord : Sat → ℕ → Sat → Type 0
LearnsWord m found n = (n ≡ seen m (learns m.0.view found)) × IsOthers m.0.view found

-- a load: it finds no word, and the looks grow; or a word of another seat, which is learnt
abbrev pub looked : Play
looked st m found n = (found ≡ 0 → n ≡ seen m (finds_vacant m.0.view)) × (found ≢ 0 → LearnsWord m found n)

-- a compare-and-swap from 0: won, and the own word is entered; or lost to a word of another seat, which is learnt
abbrev pub tried : Play
tried st m found n = (found ≡ 0 → n ≡ seen m (enters_word m.0.view st.second)) × (found ≢ 0 → LearnsWord m found n)

-- a load after a note was taken in: of the words learnt and those of the note the shorter list begins the longer
abbrev pub compared : Play
compared st m found n = (n ≡ m) × (length m.0.told ≤ length m.0.view.words → StartsWith m.0.view.words m.0.told) × (length m.0.view.words ≤ length m.0.told → StartsWith m.0.told m.0.view.words)

-- a load of a word that the note has: it is found, and learnt
abbrev pub heard : Play
heard st m found n = LearnsWord m found n × (found ≡ slice_index m.0.told st.word)

-- a look at a row of `room` words, by the view before and after
abbrev pub Looks : ℕ → View → Look → View → Type 0
Looks room v (Next word) w = (w ≡ learns v word) × IsOthers v word × (length v.words < room)
Looks room v Vacant w = (w ≡ finds_vacant v) × (length v.words < room)
Looks room v Full w = (w ≡ v) × (length v.words ≡ room)

-- a try to enter the record `index` in a row of `room` words, by the view before and after
abbrev pub Tries : ℕ → ℕ → View → Entered → View → Type 0
Tries room index v Won w = (w ≡ enters_word v (order_word v.number index)) × (length v.words < room)
Tries room index v (Lost word) w = (w ≡ learns v word) × IsOthers v word × (length v.words < room)
