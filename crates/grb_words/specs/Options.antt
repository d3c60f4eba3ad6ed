-- believed: The options behind a statement that writes an output (own): 'mask NAME', 'structure', 'comp', 'accum OP', 'replace', 'tran' and
-- 'tran1', in this order, each at most once. A statement has 'tran' from version 2 on, if it may read its first input transposed, and
-- 'tran1' from version 3 on, if it may read its second so.
use Rattle.std.specs.Prelude.{◌≡◌, Bool, true, false, not, ◌&&◌, ◌||◌, if◌then◌else◌, List, [], ◌∷◌, ◌++◌, Option, Some, None, codes}
use Rattle.std.specs.Option.{option_and_then, option_map}
use Rattle.std.specs.Str.{bytes_eq}
use Rattle.grb_core.specs.declared.operator.BinaryOp.{BinaryOp}
use Rattle.grb_core.specs.declared.descriptor.Descriptor.{Descriptor}
use Rattle.grb_core.specs.declared.functions.Function.{Function}
use Rattle.grb_core.specs.declared.functions.Function.TheVariants as function
use Rattle.grb_words.specs.declared.keyword.Multiply.{Multiply}
use Rattle.grb_words.specs.declared.keyword.Multiply.TheVariants as multiply
use Rattle.grb_words.specs.declared.options.Options.{Options}
use Rattle.grb_words.specs.declared.options.Turns.{Turns}
use Rattle.grb_words.specs.declared.options.Turns.TheVariants as turn
use Rattle.grb_words.specs.declared.version.Version.{Version}
use Rattle.grb_words.specs.declared.version.Version.TheVariants.{One, Three}
use Rattle.grb_words.specs.Line.{Word}
use Rattle.grb_words.specs.Word.{is_name, operator_of, operator_word}

-- the name of the mask and the accumulator, where they are given, and how the mask is read and the output written
pub record OptionWords : Type 0 where
  pub mask : Option Word
  pub accum : Option BinaryOp
  pub descriptor : Descriptor

-- a word, where it is given
abbrev pub word_if : Bool → Word → List Word
word_if true word = word ∷ []
word_if false word = []

abbrev pub mask_words : Option Word → List Word
mask_words None = []
mask_words (Some name) = codes "mask" ∷ name ∷ []

abbrev pub accum_words : Option BinaryOp → List Word
accum_words None = []
accum_words (Some op) = codes "accum" ∷ operator_word op ∷ []

-- the words that spell these options
abbrev pub options_words : OptionWords → List Word
options_words o =
    mask_words o.mask
    ++ (word_if o.descriptor.structure (codes "structure")
    ++ (word_if o.descriptor.comp (codes "comp")
    ++ (accum_words o.accum ++ (word_if o.descriptor.replace (codes "replace") ++ (word_if o.descriptor.tran (codes "tran") ++ word_if o.descriptor.tran1 (codes "tran1"))))))

-- the mask is a name, where one is given
abbrev pub IsNamed : Option Word → Type 0
IsNamed None = Unit {0}
IsNamed (Some name) = is_name name ≡ true

-- whether the words begin with this one, and the words behind it where they do
abbrev pub flag : List Word → Word → Bool × List Word
flag [] word = (false, [])
flag (first ∷ others) word = if bytes_eq first word then (true, others) else (false, first ∷ others)

-- 'NAME', and the words behind it
abbrev pub name_first : List Word → Option (Option Word × List Word)
name_first [] = None
name_first (name ∷ others) = if is_name name then Some (Some name, others) else None

-- 'OP', and the words behind it
abbrev pub operator_first : List Word → Option (Option BinaryOp × List Word)
operator_first [] = None
operator_first (word ∷ others) = option_map (λ op. (Some op, others)) (operator_of word)

-- 'mask NAME' where the words begin with 'mask', and the words behind that
abbrev pub mask_option : List Word → Option (Option Word × List Word)
mask_option words = let f = flag words (codes "mask") in if f.0 then name_first f.1 else Some (None, f.1)

-- 'accum OP' where the words begin with 'accum', and the words behind that
abbrev pub accum_option : List Word → Option (Option BinaryOp × List Word)
accum_option words = let f = flag words (codes "accum") in if f.0 then operator_first f.1 else Some (None, f.1)

-- these flags, where no word is left
abbrev pub where_none_left : List Word → Bool × Bool × Bool → Option (Bool × Bool × Bool)
where_none_left [] flags = Some flags
where_none_left (word ∷ more) flags = None

-- whether 'replace', whether 'tran' and whether 'tran1' is given by these words, if they spell nothing else
abbrev pub last_flags : List Word → Option (Bool × Bool × Bool)
last_flags words =
    let replace = flag words (codes "replace") in
    let tran = flag replace.1 (codes "tran") in
    let tran1 = flag tran.1 (codes "tran1") in
    where_none_left tran1.1 (replace.0, tran.0, tran1.0)

-- the options that these words spell, if they spell them and nothing else
abbrev pub options_of : List Word → Option OptionWords
options_of words =
    option_and_then
    (λ mask.
    let structure = flag mask.1 (codes "structure") in
    let comp = flag structure.1 (codes "comp") in
    option_and_then
    (λ accum.
    option_map
    (λ last.
    record {
      mask = mask.0;
      accum = accum.0;
      descriptor = record { structure = structure.0; comp = comp.0; replace = last.0; tran = last.1; tran1 = last.2 };
    })
    (last_flags accum.1))
    (accum_option comp.1))
    (mask_option words)

-- the inputs that a product may read transposed: those that are matrices
abbrev pub product_turns : Multiply → Turns
product_turns multiply.Mxv = turn.First
product_turns multiply.Vxm = turn.Second
product_turns multiply.Mxm = turn.Both

-- the input that an apply may read transposed: the object stands second where the value stands first
abbrev pub function_turns : Function → Turns
function_turns (function.Unary op) = turn.First
function_turns (function.First x op) = turn.Second
function_turns (function.Second op x) = turn.First

-- whether a statement that may read these inputs transposed has 'tran' in a script of this version, and whether it has 'tran1'
abbrev pub has_tran : Version → Turns → Bool
has_tran One _ = false
has_tran _ turn.Second = false
has_tran _ _ = true

abbrev pub has_tran1 : Version → Turns → Bool
has_tran1 Three turn.Second = true
has_tran1 Three turn.Both = true
has_tran1 _ _ = false

-- these options, if the statement has those of them in this version that read an input transposed
abbrev pub where_had : Version → Turns → OptionWords → Option OptionWords
where_had version turns o =
    if (o.descriptor.tran && not (has_tran version turns)) || (o.descriptor.tran1 && not (has_tran1 version turns)) then None else Some o

-- the options that these words spell behind a statement in a script of this version
abbrev pub options_in : Version → Turns → List Word → Option OptionWords
options_in version turns words = option_and_then (where_had version turns) (options_of words)

-- options as they are read, by what their words are
abbrev pub spelled : Options → OptionWords
spelled o = record { mask = option_map (λ name. name.now) o.mask; accum = o.accum; descriptor = o.descriptor }
