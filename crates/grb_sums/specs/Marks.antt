-- believed: Sums that lie open, with marks as the bits of words, and these as entries (own): bit t of word w stands for the place 64 w + t.
use Rattle.std.specs.Prelude.{ℕ, zero, suc, ◌+◌, ◌*◌, ◌/◌, ◌%◌, ◌^◌, ◌<◌, ◌≤◌, ◌≡◌, Bool, true, false, slice_index, slice_index_or, length, if◌then◌else◌, List, [], ◌∷◌, Option, Some, None}
use Rattle.grb_core.specs.declared.value.Value.{Value}
use Rattle.grb_core.specs.Entries.{VectorEntries, before_entries}
use Rattle.grb_kernels.specs.Bits.{has_bit}
use Rattle.grb_kernels.specs.Typed.{first_entries}
use Rattle.grb_sums.specs.Bits.{value_at}
use Rattle.grb_sums.specs.Naming.{name_in}
use Rattle.grb_sums.specs.Open.{marked_from}

-- the values at the set bits among n from t on, by rising place, each at the name of its place
unfoldable pub bits_from : (ℕ → ℕ) → (ℕ → Bool) → (ℕ → Option Value) → ℕ → ℕ → ℕ → VectorEntries
bits_from name bit at base zero t = []
bits_from name bit at base (suc n) t = before_entries (name (base + t)) (if bit t then at (base + t) else None) (bits_from name bit at base n (t + 1))

-- the bits of these words are these marks, 64 a word
abbrev pub AreMarks : List Bool → List ℕ → Type 0
AreMarks marks words = (w t : ℕ) → t < 64 → has_bit (slice_index words w) t ≡ slice_index_or marks (64 * w + t) false

-- the marks of n places, the first of which is j, as these words have them
abbrev pub marks_from : List ℕ → ℕ → ℕ → List Bool
marks_from words j zero = []
marks_from words j (suc n) = has_bit (slice_index words (j / 64)) (j % 64) ∷ marks_from words (j + 1) n

-- the marks of the first n places
abbrev pub marks_of : ℕ → List ℕ → List Bool
marks_of n words = marks_from words 0 n

-- the word has a bit
abbrev pub has_any : ℕ → Bool
has_any zero = false
has_any (suc word) = true

-- which of these words have a bit
abbrev pub touched : List ℕ → List Bool
touched [] = []
touched (word ∷ words) = has_any word ∷ touched words

-- the bits of tops are at the words that have a bit
pub record AreTops (words tops : List ℕ) : Type 0 where
  pub long : length tops ≡ length words / 64 + 1
  pub bits : AreMarks (touched words) tops

-- tops have room for a bit of each word, and have none
pub record AreNoTops (words tops : List ℕ) : Type 0 where
  pub long : length tops ≡ length words / 64 + 1
  pub none : (h : ℕ) → slice_index tops h ≡ 0

-- at each place there is this value
abbrev pub HoldAll : {V : Type 0} → (V → Value) → Value → List V → Type 0
HoldAll value v values = (p : ℕ) → p < length values → value_at value values p ≡ Some v

-- at each place without a mark there is this value
abbrev pub HoldUnmarked : {V : Type 0} → (V → Value) → Value → List Bool → List V → Type 0
HoldUnmarked value v marks values = (p : ℕ) → p < length values → slice_index_or marks p false ≡ false → value_at value values p ≡ Some v

-- sums of this many places and the bits of their marks, where nothing lies open
pub record IsCleared {V : Type 0} (value : V → Value) (v : Value) (count : ℕ) (sums : List V) (words : List ℕ) : Type 0 where
  pub long : length sums ≡ count
  pub words_long : length words ≡ count / 64 + 1
  pub words_few : length words ≤ 2 ^ 58
  pub none : (w : ℕ) → slice_index words w ≡ 0
  pub clear : HoldAll value v sums

-- sums of which some lie open, and room for them as entries at these names
pub record AreOpen {V : Type 0} (value : V → Value) (v : Value) (words : List ℕ) (sums : List V) (names columns : List ℕ) (values : List V) : Type 0 where
  pub bits : AreMarks (marks_of (length sums) words) words
  pub words_long : length words ≡ length sums / 64 + 1
  pub words_few : length words ≤ 2 ^ 58
  pub clear : HoldUnmarked value v (marks_of (length sums) words) sums
  pub named : length sums ≡ length names
  pub room : length sums ≤ length columns
  pub room_same : length columns ≡ length values

-- those that lay open are the first n entries, and nothing lies open
pub record AreTaken {V : Type 0} (value : V → Value) (v : Value) (words : List ℕ) (sums : List V) (names : List ℕ) (n : ℕ) (words' : List ℕ) (sums' : List V) (columns : List ℕ) (values : List V) : Type 0 where
  pub entries : first_entries value n columns values ≡ marked_from value (name_in names) 0 (marks_of (length sums) words) sums
  pub most : n ≤ length sums
  pub ready : IsCleared value v (length names) sums' words'

-- sums and the bits of their marks
pub record AreOpenSums {V : Type 0} (value : V → Value) (v : Value) (sums : List V) (words : List ℕ) : Type 0 where
  pub words_long : length words ≡ length sums / 64 + 1
  pub words_few : length words ≤ 2 ^ 58
  pub bits : AreMarks (marks_of (length sums) words) words
  pub clear : HoldUnmarked value v (marks_of (length sums) words) sums
