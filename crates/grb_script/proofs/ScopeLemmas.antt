-- Where the lines of a script stand, and what their words say.
use Rattle.std.proofs.Common.{inl, inr, ◌≡◌, ℕ, ◌≤◌, ◌==◌, Bool, true, false, if◌then◌else◌, List, [], ◌∷◌, ◌++◌, length, take, get_or, Option, Some, None, is_some, refl, sym, ap, ◌∙◌, true≢false, arith, length-append}
use Rattle.grb_script.proofs.Prelude.{◌⊎◌, codes, option_map, option_map_or, option_to_list, bytes_eq, false_from_ne_true, and_parts, or_cases, or_parts, append-nil, take-append-le, Version, Form, MatrixForm, VectorForm, DupForm, DiagForm, form_of, load_of, Word, is_load, is_section, is_skipped, section_of, numeral_value, Sort, asking, names_made, names_behind_load, names_behind_words, IsAsked, Name, sort_of, names_behind, Scope, begun, main_behind, main_kept, with_names, with_version, seen, IsKept, section_fault, saying_fault, wording_fault, version_by, version_named, says_nothing}
use Rattle.std.specs.Result.{result_err, result_ok}
use Rattle.std.proofs.lemmas.Slice.Eq.{bytes_eq-Decides}
use Rattle.grb_words.specs.declared.section.Section.{Section}
use Rattle.grb_words.specs.declared.section.Section.TheVariants as section
use Rattle.grb_script.specs.declared.command.Command.{Command}
use Rattle.grb_script.specs.declared.line.LineMeaning.TheVariants as meaning
use Rattle.grb_script.specs.declared.names.Sort.TheVariants as sort
use Rattle.grb_script.specs.declared.scope.Scope.{Scope as Kept}
use Rattle.grb_script.specs.LineMeaning.{IsRead}

-- of words that are skipped none begins with the word of a section
other_word : (word key : Word) → (get_or word 0 0 == 35) ≡ true → (get_or key 0 0 == 35) ≡ false → bytes_eq word key ≡ false
other_word word key h k =
    false_from_ne_true (bytes_eq word key) (λ e. true≢false (sym h ∙ ap (λ w. get_or w 0 0 == 35) ((bytes_eq-Decides word key).0 e) ∙ k))

pub section_of-skipped : (words : List Word) → is_skipped words ≡ true → section_of words ≡ None
section_of-skipped [] h = refl
section_of-skipped (word ∷ []) h = ap (λ b. if b then Some section.Finally else None) (other_word word (codes "finally") h refl)
section_of-skipped (word ∷ k ∷ []) h = ap (λ b. if b then option_map section.Thread (numeral_value k) else None) (other_word word (codes "thread") h refl)
section_of-skipped (word ∷ k ∷ x ∷ more) h = refl

-- words that name a version begin no section
named-first : (b : Bool) (later : Option Version) → is_some (if b then later else None) ≡ true → b ≡ true
named-first true later h = refl
named-first false later h = h

section_of-version : (words : List Word) → is_some (version_named words) ≡ true → section_of words ≡ None
section_of-version [] h = refl
section_of-version (first ∷ []) h = absurd (true≢false (sym h))
section_of-version (first ∷ number ∷ []) h =
    ap (λ word. section_of (word ∷ number ∷ [])) ((bytes_eq-Decides first (codes "version")).0 (named-first (bytes_eq first (codes "version")) _ h))
section_of-version (first ∷ number ∷ x ∷ more) h = refl

-- words that say nothing begin no section
pub section_of-silent : (settled : Option Version) (words : List Word) → says_nothing settled words ≡ true → section_of words ≡ None
section_of-silent (Some version) words h = section_of-skipped words h
section_of-silent None words h =
    by (or_cases (is_skipped words) (is_some (version_named words)) h)
  where
    by : (is_skipped words ≡ true) ⊎ (is_some (version_named words) ≡ true) → section_of words ≡ None
    by (inl skipped) = section_of-skipped words skipped
    by (inr is) = section_of-version words is

-- words that do not begin with the word of a section begin none
pub section_of-other : (words : List Word) → is_section words ≡ false → section_of words ≡ None
section_of-other [] h = refl
section_of-other (word ∷ []) h = ap (λ b. if b then Some section.Finally else None) (or_parts (bytes_eq word (codes "thread")) _ h).1
section_of-other (word ∷ k ∷ []) h = ap (λ b. if b then option_map section.Thread (numeral_value k) else None) (or_parts (bytes_eq word (codes "thread")) _ h).0
section_of-other (word ∷ k ∷ x ∷ more) h = refl

-- each statement keeps the names that stand, and may add one
abbrev Extends : List Name → List Name → Type 0
Extends names after = (more : List Name) × (after ≡ names ++ more)

same : (names : List Name) → Extends names names
same names = ([], sym (append-nil names))

with_copy : (names : List Name) (name : Word) (found : Option Sort) → Extends names (option_map_or (λ sort. names ++ (name, sort) ∷ []) found names)
with_copy names name None = same names
with_copy names name (Some found) = ((name, found) ∷ [], refl)

names_behind-extends : (names : List Name) (form : Option Form) → Extends names (names_behind names form)
names_behind-extends names (Some (MatrixForm name domain nrows ncols)) = ((name, sort.Matrix) ∷ [], refl)
names_behind-extends names (Some (VectorForm name domain size)) = ((name, sort.Vector) ∷ [], refl)
names_behind-extends names (Some (DupForm name source)) = with_copy names name (sort_of names source)
names_behind-extends names (Some (DiagForm name vector diagonal)) = ((name, sort.Matrix) ∷ [], refl)
names_behind-extends names _ = same names

names_behind_load-extends : (names : List Name) (load : Option (Word × Word)) → Extends names (names_behind_load names load)
names_behind_load-extends names None = same names
names_behind_load-extends names (Some load) = ((load.0, sort.Matrix) ∷ [], refl)

one_of : (names : List Name) (b : Bool) (loaded meaning : List Name) → Extends names loaded → Extends names meaning → Extends names (if b then loaded else meaning)
one_of names true loaded meaning l s = l
one_of names false loaded meaning l s = s

names_made-extends : (version : Version) (names : List Name) (words : List Word) → Extends names (names_made version names words)
names_made-extends version names words = one_of names (is_load words) _ _ (names_behind_load-extends names (load_of words)) (names_behind-extends names (form_of version words))

main_behind-same : (here : Option Section) (count : ℕ) (names : List Name) → main_kept here count names ≡ main_behind here (main_kept here count names) names
main_behind-same None count names = refl
main_behind-same (Some section) count names = refl

main_behind-more : (here : Option Section) (count : ℕ) (names after : List Name) → count ≤ length names → Extends names after → main_kept here count after ≡ main_behind here (main_kept here count names) after
main_behind-more None count names after kept e = refl
main_behind-more (Some section) count names after kept e = ap (take count) e.1 ∙ take-append-le count names e.0 kept

-- a line that stands here has these words, and is read in this version
module _ (scope : Kept) (words : List Word) (version : Version) (is : version ≡ version_by scope.version words) where
  -- as the scope is kept when the line settled the version
  abbrev pub versioned : Kept
  versioned = record { version = Some version; section = scope.section; main = scope.main; names = scope.names }

  -- where that is
  abbrev here : Scope
  here = with_version (seen scope) (version_by scope.version words)

  versioned-here : seen versioned ≡ here
  versioned-here = ap (with_version (seen scope)) is

  -- words that say nothing
  pub silent-IsRead : says_nothing scope.version words ≡ true → IsRead (seen scope) words None (seen versioned)
  silent-IsRead h = record {
    faultless = ap (λ b. if b then None else saying_fault (version_by scope.version words) (seen scope) words) h;
    says = (
      section_of-silent scope.version words h,
      ap (λ b. if b then [] else option_to_list (result_ok (asking (version_by scope.version words) scope.names words))) h,
    );
    behind =
        versioned-here
        ∙ (λ j. record { version = here.version; section = scope.section; main = main_behind-same scope.section scope.main scope.names j; names = scope.names })
        ∙ (λ j. with_names here (if sym h j then scope.names else names_made (version_by scope.version words) scope.names words))
        ∙ (λ j. option_map_or (begun here) (sym (section_of-silent scope.version words h) j) (with_names here (names_behind_words scope.version scope.names words)));
  }

  -- words that say something and begin no section
  module _ (stays : says_nothing scope.version words ≡ false) where
    module _ (begins : is_section words ≡ false) where
      pub wording_fault-read : wording_fault (seen scope) words ≡ result_err (asking version scope.names words)
      wording_fault-read =
          (λ j. if stays j then None else (if begins j then section_fault (version_by scope.version words) scope.section (section_of words) else result_err (asking (sym is j) scope.names words)))

      module _ (command : Command) (names : List Name) (kept : IsKept scope) (commands : IsAsked version scope.names words command names) where
        -- as the scope is kept when the names are made too
        abbrev behind_command : Kept
        behind_command = record { version = Some version; section = scope.section; main = scope.main; names = names }

        extends : Extends scope.names names
        extends = let e = names_made-extends version scope.names words in (e.0, commands.behind ∙ e.1)

        pub commands-IsKept : IsKept behind_command
        commands-IsKept = let e = extends in omega (arith, kept, ap length e.1, length-append scope.names e.0)

        behind_command-with_names : seen behind_command ≡ with_names here names
        behind_command-with_names =
            λ j. record { version = Some (is j); section = scope.section; main = main_behind-more scope.section scope.main scope.names names kept extends j; names = names }

        behind-words : names ≡ names_behind_words scope.version scope.names words
        behind-words =
            commands.behind ∙ ap (λ v. names_made v scope.names words) is
            ∙ ap (λ b. if b then scope.names else names_made (version_by scope.version words) scope.names words) (sym stays)

        pub commands-IsRead : IsRead (seen scope) words (Some (meaning.Command command)) (seen behind_command)
        commands-IsRead = record {
          faultless = wording_fault-read ∙ ap result_err commands.says;
          says = (
            section_of-other words begins,
            ap (λ b. if b then [] else option_to_list (result_ok (asking (version_by scope.version words) scope.names words))) stays
                ∙ ap (λ v. option_to_list (result_ok (asking v scope.names words))) (sym is) ∙ ap (λ r. option_to_list (result_ok r)) commands.says,
          );
          behind =
              behind_command-with_names ∙ ap (with_names here) behind-words
              ∙ ap (λ s. option_map_or (begun here) s (with_names here (names_behind_words scope.version scope.names words))) (sym (section_of-other words begins));
        }
