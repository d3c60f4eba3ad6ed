-- What a caller of clap reads of an argument that has a default value and takes one value at most.
use Rattle.std.proofs.Common.{◌≡◌, ◌∙◌, ◌<◌, ◌≤◌, ap, ℕ, Bool, true, false, List, [], ◌∷◌, length, is_some, zero, suc, Option, Some, None, refl, sym, subst, inl, inr, arith}
use Rattle.grb_run.proofs.Prelude.{slice_index_or, find, slice_get, Bor, All-get_or}
use Rattle.std.specs.List.{All}
use Rattle.std.specs.Prelude.{option_map}
use Rattle.std.specs.Str.{bytes_eq}
use Rattle.std.proofs.lemmas.Slice.Eq.{bytes_eq-Decides}
use Rattle.clap.specs.Facts.{args_of, groups_of, Entry, EntryPasses, HasIn, HasReading, PassesArg, WantsDefault, least_values, parser_of, parser_of_value}
use Rattle.clap.specs.Built.{IsAuto, IsParsedFrom, IsPlain, SameRules}
use Rattle.clap.specs.Matches.{found_of, matched_of, one_text}
use Rattle.clap.specs.Values.{Accepts, read_as, reading_of}
use Rattle.clap.specs.declared.builder.action.ArgAction.TheVariants.{Count, Set}
use Rattle.clap.specs.declared.builder.arg.Arg.{Arg}
use Rattle.clap.specs.declared.builder.command.Command.{Command}
use Rattle.clap.specs.declared.builder.command.Command.TheViews.{out-Command}
use Rattle.clap.specs.declared.builder.value_parser.Reading.{Reading}
use Rattle.clap.specs.declared.builder.value_parser.ValueParser.{ValueParser}
use Rattle.clap.specs.declared.parser.matches.ArgMatches.{ArgMatches}
use Rattle.clap.specs.declared.parser.matches.Found.{Found}
use Rattle.clap.specs.declared.parser.matches.MatchedArg.{MatchedArg}
use Rattle.clap.proofs.CallerLemmas.{default_present, entry_by_id, same_rules_by_id}

-- an entry that is there is found
entry_found : (xs : List Entry) (id : List ℕ) → HasIn xs id → is_some (option_map (λ e. e.1) (find (λ e. bytes_eq e.0.now id) xs)) ≡ true
entry_found [] id h = absurd (omega (arith, h.1))
entry_found (x ∷ xs) id h = go (bytes_eq x.0.now id) refl h.0 h.1 h.2 (entry_found xs id)
  where
    go : (b : Bool) → bytes_eq x.0.now id ≡ b → (i : ℕ) → i < length (x ∷ xs) → ((d : Entry) → bytes_eq (slice_index_or (x ∷ xs) i d).0.now id ≡ true)
        → (HasIn xs id → is_some (option_map (λ (e : Entry). e.1) (find (λ e. bytes_eq e.0.now id) xs)) ≡ true)
        → is_some (option_map (λ (e : Entry). e.1) (find (λ e. bytes_eq e.0.now id) (x ∷ xs))) ≡ true
    go true b i lt at rest = rw b refl
    go false b zero lt at rest =
        let bad : false ≡ true = rw b at (at x) in
        cc
    go false b (suc i) lt at rest = rw b (rest (i, omega arith, at))

-- what a text passed by the rules that building kept, it passed by the caller's
accepted : (a x : Arg) (q : ValueParser) (t : List ℕ) → SameRules a x → a.value_parser ≡ Some q → Accepts x.ignore_case (parser_of x) t
    → Accepts a.ignore_case q t
accepted a x q t same parser passed =
    let is_q : parser_of x ≡ q = ap parser_of_value (same.parser q parser) in
    subst (λ (b : Bool). Accepts b q t) same.ignore_case (subst (λ (w : ValueParser). Accepts x.ignore_case w t) is_q passed)

-- the first of the values, with what holds of each
first_value_passes : (P : List ℕ → Type 0) (how : Reading) (vs : List (Bor (List ℕ))) → 0 < length vs → All (λ v. P v.now) vs
    → (t : List ℕ) × (option_map (λ s. read_as how s.now) (slice_get vs 0) ≡ Some (read_as how t)) × P t
first_value_passes P how [] lt all = absurd (omega arith)
first_value_passes P how (v ∷ vs) lt all = (v.now, refl, All-get_or (λ v. P v.now) (v ∷ vs) 0 v (omega arith) all)

-- what is read of an entry
text_at_entry : (f : Found) (id : List ℕ) (x : MatchedArg) (how : Reading) (t : List ℕ) → matched_of f id ≡ Some x → x.reading ≡ how
    → option_map (λ s. read_as how s.now) (slice_get x.vals.items 0) ≡ Some t → one_text f id ≡ Some t
text_at_entry f id x how t found is text = rw (found, is) text

-- an argument of the caller's with a default has a text that passed its parser, and is read as that parser says
pub default_reads : (old : Command) (m : ArgMatches) (p : IsParsedFrom old m) → IsPlain old → (out-Command old).has_globals ≡ false
    → (k : ℕ) (d : Arg) → k < length (args_of old) → WantsDefault (slice_index_or (args_of old) k d)
    → (slice_index_or (args_of old) k d).action ≡ Some Set → (slice_index_or (args_of old) k d).val_delim ≡ None
    → 1 ≤ least_values (slice_index_or (args_of old) k d)
    → ((j : ℕ) (e : Arg) → j < length (args_of old)
    → bytes_eq (slice_index_or (args_of old) j e).id.now (slice_index_or (args_of old) k d).id.now ≡ true → j ≡ k)
    → ((slice_index_or (args_of old) k d).id.now ≡ [] → ⊥) → (IsAuto (slice_index_or (args_of old) k d) → ⊥)
    → (q : ValueParser) → (slice_index_or (args_of old) k d).value_parser ≡ Some q
    → (t : List ℕ) × (one_text (found_of m) (slice_index_or (args_of old) k d).id.now ≡ Some (read_as (reading_of q) t))
    × Accepts (slice_index_or (args_of old) k d).ignore_case q t
default_reads old m p plain globals k d lt wants set delim least unique named own q parser =
    go (matched_of (found_of m) a.id.now) refl (entry_found (found_of m).entries.items a.id.now (default_present old m p globals k d lt wants))
  where
    a : Arg
    a = slice_index_or (args_of old) k d

    go : (o : Option MatchedArg) → matched_of (found_of m) a.id.now ≡ o → is_some (matched_of (found_of m) a.id.now) ≡ true
        → (t : List ℕ) × (one_text (found_of m) a.id.now ≡ Some (read_as (reading_of q) t)) × Accepts a.ignore_case q t
    go None e some = cc
    go (Some x) e some =
        let parsed = p.parsed (p.from.globals ∙ globals) in
        let got = entry_by_id (EntryPasses p.built) (found_of m).entries.items a.id.now x parsed.values e in
        let same = same_rules_by_id old m p k d lt unique own in
        let key_id : got.0.0.now ≡ a.id.now = (bytes_eq-Decides got.0.0.now a.id.now).0 got.2 in
        let no_groups : groups_of p.built ≡ [] = (p.from.plain plain).1 in
        let no_group : got.0.1.is_group ≡ true → ⊥ = λ g. elim (got.3.3 g) [
          | inl empty ↦ named (sym key_id ∙ empty)
          | inr some_groups ↦
              let bad : 0 < 0 = rw no_groups at some_groups in
              absurd (omega arith)
        ] in
        let filled : 0 < length got.0.1.vals.items = elim got.3.1 [
          | inl h ↦ absurd (no_group h.0)
          | inr (inl has) ↦ has
          | inr (inr (inl h)) ↦
              let any = h.1 in
              let rules = same any.0 any.1 any.2 any.3 (rw key_id at any.4.0) in
              let is_set : any.1.action ≡ Some Set = rules.action Set set in
              let bad : Set ≡ Count = rw is_set at any.4.1 in
              cc
          | inr (inr (inr any)) ↦
              let rules = same any.0 any.1 any.2 any.3 (rw key_id at any.4.0) in
              elim any.4.1 [
                | inl none ↦
                    let one = rules.least set least in
                    absurd (omega arith)
                | inr splits ↦
                    let bad : false ≡ true = rw (rules.val_delim, delim) at splits in
                    cc
              ]
        ] in
        let all : All (λ v. PassesArg p.built a.id.now v.now) got.0.1.vals.items = elim got.3.0 [
          | inl g ↦ absurd (no_group g)
          | inr each ↦ subst (λ (w : List ℕ). All (λ v. PassesArg p.built w v.now) got.0.1.vals.items) key_id each
        ] in
        let all_accepted : All (λ v. Accepts a.ignore_case q v.now) got.0.1.vals.items = λ n f lt.
        let pass = all n f lt in
        accepted a pass.1 q (slice_index_or got.0.1.vals.items n f).now (same pass.0 pass.1 pass.2 pass.3 pass.4.0) parser pass.4.1 in
        let how : got.0.1.reading ≡ reading_of q = elim got.3.4 [
          | inl g ↦ absurd (no_group g)
          | inr h ↦
              let any = subst (λ (w : List ℕ). HasReading p.built w got.0.1.reading) key_id h in
              let rules = same any.0 any.1 any.2 any.3 any.4.0 in
              sym any.4.1 ∙ ap (λ (v : Option ValueParser). reading_of (parser_of_value v)) (rules.parser q parser)
        ] in
        let first = first_value_passes (Accepts a.ignore_case q) (reading_of q) got.0.1.vals.items filled all_accepted in
        (first.0, text_at_entry (found_of m) a.id.now got.0.1 (reading_of q) (read_as (reading_of q) first.0) (e ∙ ap (λ (y : MatchedArg). Some y) (sym got.1)) how first.1, first.2)
