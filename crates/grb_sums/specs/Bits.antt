-- believed: Places that are marked by the bits of words (own): bit t of word w stands for the place 64 w + t.
use Rattle.std.specs.Prelude.{ℕ, zero, suc, ◌+◌, ◌*◌, ◌/◌, ◌%◌, ◌<◌, ◌≤◌, ◌^◌, ◌≡◌, Bool, true, if◌then◌else◌, slice_index, length, List, [], ◌∷◌, Option, Some, None}
use Rattle.grb_core.specs.declared.value.Value.{Value}
use Rattle.grb_core.specs.Entries.{VectorEntries, before_entries}
use Rattle.grb_kernels.specs.Bits.{has_bit}

-- the place is marked
abbrev pub is_marked : List ℕ → ℕ → Bool
is_marked words p = has_bit (slice_index words (p / 64)) (p % 64)

-- what a list holds at a place
abbrev pub value_at : {V : Type 0} → (V → Value) → List V → ℕ → Option Value
value_at value [] p = None
value_at value (v ∷ vs) zero = Some (value v)
value_at value (v ∷ vs) (suc p) = value_at value vs p

-- what there is at those of the n places from p on that a test picks, each at the name of its place
unfoldable pub entries_at : (ℕ → ℕ) → (ℕ → Bool) → (ℕ → Option Value) → ℕ → ℕ → VectorEntries
entries_at name picks at p zero = []
entries_at name picks at p (suc n) = before_entries (name p) (if picks p then at p else None) (entries_at name picks at (p + 1) n)

-- the values at the marked places, each at the name of its place
abbrev pub marked_values : {V : Type 0} → (V → Value) → List ℕ → List ℕ → List V → VectorEntries
marked_values value names words values = entries_at (slice_index names) (is_marked words) (value_at value values) 0 (length names)

-- the same of one word, whose bit t stands for the place base + t
abbrev pub word_values : {V : Type 0} → (V → Value) → List ℕ → ℕ → ℕ → List V → VectorEntries
word_values value names word base values = entries_at (λ t. slice_index names (base + t)) (has_bit word) (λ t. value_at value values (base + t)) 0 64

-- a value for each of n places, and words that mark none but these
pub record AreMarked {V : Type 0} (n : ℕ) (words : List ℕ) (values : List V) : Type 0 where
  pub few : length words < 2 ^ 58
  pub enough : n ≤ 64 * length words
  pub within : (p : ℕ) → is_marked words p ≡ true → p < n
  pub long : length values ≡ n
