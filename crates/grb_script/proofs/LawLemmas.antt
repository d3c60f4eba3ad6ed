-- A text without thread sections, line by line.
use Rattle.std.proofs.Common.{◌≡◌, ℕ, ◌+◌, Bool, true, false, not, cond, if◌then◌else◌, List, [], ◌∷◌, ◌++◌, Option, Some, None, is_some, length, map, refl, sym, ap, ◌∙◌, append_assoc}
use Rattle.grb_script.proofs.Prelude.{codes, flat_map, take_while, option_map, option_map_or, bytes_eq, FaultKind, UnendedLine, BadByte, Version, Line, lines_of, Word, has_allowed_bytes, words_of, section_of, numeral_value, NumberedCommand, commands_in, names_behind_words, Name, Scope, at_start, begun, main_behind, with_names, with_version, section_on, scope_of, with_before, numbered_on, line_commands, section_commands, thread_part, finally_part, threads_in, finally_in, sections_of, section_fault, wording_fault, line_fault, first_fault, script_fault, version_by, says_nothing}
use Rattle.std.proofs.lemmas.Slice.Eq.{bytes_eq-Decides}
use Rattle.grb_words.specs.declared.section.Section.{Section}
use Rattle.grb_words.specs.declared.section.Section.TheVariants as section
use Rattle.grb_script.specs.declared.fault.ScriptFault.{ScriptFault}
use Rattle.grb_script.specs.Laws.{version_behind_lines, names_behind_lines, commands_of}
use Rattle.grb_script.proofs.ScriptLemmas.{scope_behind_lines-push, in_section}

-- the words 'finally' alone
only_finally : (b : Bool) (word : Word) (other : Option Section) → (b ≡ true → word ≡ codes "finally") → other ≡ None → (if b then Some section.Finally else other) ≡ Some section.Finally → word ≡ codes "finally"
only_finally true word other same is e = same refl
only_finally false word other same is e = cc

no_thread : (b : Bool) (number : Option ℕ) → (if b then option_map section.Thread number else None) ≡ Some section.Finally → ⊥
no_thread true None e = cc
no_thread true (Some k) e = cc
no_thread false number e = cc

finally_words : (words : List Word) → section_of words ≡ Some section.Finally → words ≡ codes "finally" ∷ []
finally_words [] e = cc
finally_words (word ∷ []) e = ap (λ w. w ∷ []) (only_finally (bytes_eq word (codes "finally")) word None (bytes_eq-Decides word (codes "finally")).0 refl e)
finally_words (word ∷ k ∷ []) e = absurd (no_thread (bytes_eq word (codes "thread")) (numeral_value k) e)
finally_words (word ∷ k ∷ x ∷ more) e = cc

-- a line without a fault has words without one
words-faultless : (is_ended allowed : Bool) (fault : Option FaultKind) → (if not is_ended then Some UnendedLine else (if not allowed then Some BadByte else fault)) ≡ None → fault ≡ None
words-faultless true true fault e = e
words-faultless true false fault e = cc
words-faultless false allowed fault e = cc

-- lines without a fault: this one, and those behind it
faultless-here : (number : ℕ) (kind : Option FaultKind) (later : Option ScriptFault) → option_map_or (λ k. Some (record { line = number; kind = k })) kind later ≡ None → (kind ≡ None) × (later ≡ None)
faultless-here number None later e = (refl, e)
faultless-here number (Some kind) later e = cc

-- one line more: a version that is settled stays
settled-stays : (version : Version) (lines : List Line) → version_behind_lines (Some version) lines ≡ Some version
settled-stays version [] = refl
settled-stays version (line ∷ more) = refl

version_behind_lines-push : (settled : Option Version) (before : List Line) (line : Line)
    → version_behind_lines settled (before ++ line ∷ []) ≡ Some (version_by (version_behind_lines settled before) (words_of line.bytes))
version_behind_lines-push settled [] line = refl
version_behind_lines-push settled (first ∷ more) line = refl

names_behind_lines-push : (settled : Option Version) (names : List Name) (before : List Line) (line : Line)
    → names_behind_lines settled names (before ++ line ∷ []) ≡ names_behind_words (version_behind_lines settled before) (names_behind_lines settled names before) (words_of line.bytes)
names_behind_lines-push settled names [] line = refl
names_behind_lines-push settled names (first ∷ more) line =
    let version = version_by settled (words_of first.bytes) in
    let after = names_behind_words settled names (words_of first.bytes) in
    names_behind_lines-push (Some version) after more line
    ∙ ap (λ v. names_behind_words v (names_behind_lines (Some version) after more) (words_of line.bytes)) (settled-stays version more)

-- in main, or behind 'finally': these are the names of main
abbrev Unthreaded : Option Section → List Name → List Name → Type 0
Unthreaded None main names = main ≡ names
Unthreaded (Some (section.Thread k)) main names = ⊥
Unthreaded (Some section.Finally) main names = Unit {0}

stays-unthreaded : (here : Option Section) (main names after : List Name) → Unthreaded here main names → Unthreaded here (main_behind here main after) after
stays-unthreaded None main names after u = refl
stays-unthreaded (Some (section.Thread k)) main names after u = u
stays-unthreaded (Some section.Finally) main names after u = tt

main-names : (version : Version) (here : Option Section) (main names : List Name) → Unthreaded here main names → section_fault version here (Some section.Finally) ≡ None → main ≡ names
main-names version None main names u e = u
main-names version (Some (section.Thread k)) main names u e = absurd u
main-names version (Some section.Finally) main names u e = cc

-- 'finally' says something, on the first line too: what is wrong with it is that no section may begin
finally-says : (settled : Option Version) → says_nothing settled (codes "finally" ∷ []) ≡ false
finally-says None = refl
finally-says (Some version) = refl

finally-fault : (scope : Scope) → wording_fault scope (codes "finally" ∷ []) ≡ section_fault (version_by scope.version (codes "finally" ∷ [])) scope.section (Some section.Finally)
finally-fault scope =
    ap (λ b. if b then None else section_fault (version_by scope.version (codes "finally" ∷ [])) scope.section (Some section.Finally)) (finally-says scope.version)

finally-names : (settled : Option Version) (names : List Name) → names ≡ names_behind_words settled names (codes "finally" ∷ [])
finally-names settled names = ap (λ b. if b then names else names) (sym (finally-says settled))

finally-asks : (settled : Option Version) (names : List Name) → commands_in settled names (codes "finally" ∷ []) ≡ []
finally-asks settled names = ap (λ b. if b then [] else []) (finally-says settled)

-- where a line stands, and the version and the names of the lines before it
record Follows (before : List Line) : Type 0 where
  settled : (scope_of before).version ≡ version_behind_lines None before
  same : (scope_of before).names ≡ names_behind_lines None [] before
  unthreaded : Unthreaded (scope_of before).section (scope_of before).main (scope_of before).names

-- the line asks for the same
same-commands : (before : List Line) (line : Line) → Follows before → line_commands (before, line) ≡ numbered_on (length before + 1) (version_behind_lines None before) (names_behind_lines None [] before) line
same-commands before line f = λ j. numbered_on (length before + 1) (f.settled j) (f.same j) line

module _ (before : List Line) (line : Line) (f : Follows before) where
  abbrev scope : Scope
  scope = scope_of before

  abbrev here : Scope
  here = with_version scope (version_by scope.version (words_of line.bytes))

  abbrev after : List Name
  after = names_behind_words scope.version scope.names (words_of line.bytes)

  -- where the next line stands, by the section that this one begins
  next-scope : (begins : Option Section) → section_on line ≡ begins → scope_of (before ++ line ∷ []) ≡ option_map_or (begun here) begins (with_names here after)
  next-scope begins is = scope_behind_lines-push at_start before line ∙ ap (λ s. option_map_or (begun here) s (with_names here after)) is

  next-version : here.version ≡ version_behind_lines None (before ++ line ∷ [])
  next-version = ap (λ v. Some (version_by v (words_of line.bytes))) f.settled ∙ sym (version_behind_lines-push None before line)

  next-names : after ≡ names_behind_lines None [] (before ++ line ∷ [])
  next-names = (λ j. names_behind_words (f.settled j) (f.same j) (words_of line.bytes)) ∙ sym (names_behind_lines-push None [] before line)

  -- behind a line that begins no section
  follows-line : section_on line ≡ None → Follows (before ++ line ∷ [])
  follows-line none =
      let is = next-scope None none in
      record {
        settled = ap (λ s. s.version) is ∙ next-version;
        same = ap (λ s. s.names) is ∙ next-names;
        unthreaded = rw is (stays-unthreaded scope.section scope.main scope.names after f.unthreaded);
      }

  -- and behind 'finally'
  module _ (is : section_on line ≡ Some section.Finally) (faultless : line_fault scope line ≡ None) where
    alone : words_of line.bytes ≡ codes "finally" ∷ []
    alone = finally_words (words_of line.bytes) is

    follows-finally : Follows (before ++ line ∷ [])
    follows-finally =
        let wording : wording_fault scope (codes "finally" ∷ []) ≡ None =
        ap (wording_fault scope) (sym alone) ∙ words-faultless line.is_ended (has_allowed_bytes line.bytes) (wording_fault scope (words_of line.bytes)) faultless in
        let scope_is = next-scope (Some section.Finally) is in
        record {
          settled = ap (λ s. s.version) scope_is ∙ next-version;
          same =
              ap (λ s. s.names) scope_is
              ∙ main-names (version_by scope.version (codes "finally" ∷ [])) scope.section scope.main scope.names f.unthreaded (sym (finally-fault scope) ∙ wording)
              ∙ finally-names scope.version scope.names ∙ (λ j. names_behind_words scope.version scope.names (sym alone j)) ∙ next-names;
          unthreaded = rw scope_is tt;
        }

    asks-nothing : numbered_on (length before + 1) (version_behind_lines None before) (names_behind_lines None [] before) line ≡ []
    asks-nothing =
        ap (λ words. map (λ c. record { line = length before + 1; command = c }) (commands_in (version_behind_lines None before) (names_behind_lines None [] before) words)) alone
        ∙ ap (map (λ c. record { line = length before + 1; command = c })) (finally-asks (version_behind_lines None before) (names_behind_lines None [] before))

-- line by line
abbrev plain : List (List Line × Line) → List NumberedCommand
plain ps = flat_map (λ p. numbered_on (length p.0 + 1) (version_behind_lines None p.0) (names_behind_lines None [] p.0) p.1) ps

-- what is asked for in main or in the section where these lines begin, and in 'finally', is what is asked for line by line
abbrev AreLines : List (List Line × Line) → Type 0
AreLines ps = section_commands ps ++ finally_in ps ≡ plain ps

-- where the lines behind this one are so, these are
by-section : (before : List Line) (line : Line) (more : List Line) → Follows before → line_fault (scope_of before) line ≡ None
    → (Follows (before ++ line ∷ []) → threads_in (with_before (before ++ line ∷ []) more) ≡ [] → AreLines (with_before (before ++ line ∷ []) more))
    → threads_in (with_before before (line ∷ more)) ≡ []
    → (next : Option Section) → section_on line ≡ next
    → AreLines (with_before before (line ∷ more))
by-section before line more f faultless rest no_threads None is =
    let later = with_before (before ++ line ∷ []) more in
    let behind = rest (follows-line before line f is) (ap (λ s. thread_part s (section_commands later) ++ threads_in later) (sym is) ∙ no_threads) in
    (λ j. (in_section (before, line) later ∙ ap (λ s. flat_map line_commands (cond (not (is_some s)) ((before, line) ∷ take_while (λ q. not (is_some (section_on q.1))) later) [])) is) j
    ++ (finally_part (is j) (section_commands later) ++ finally_in later))
    ∙ append_assoc (line_commands (before, line)) (section_commands later) (finally_in later)
    ∙ (λ j. same-commands before line f j ++ behind j)
by-section before line more f faultless rest no_threads (Some (section.Thread k)) is =
    let later = with_before (before ++ line ∷ []) more in
    let some : section_commands later ∷ threads_in later ≡ [] = ap (λ s. thread_part s (section_commands later) ++ threads_in later) (sym is) ∙ no_threads in
    cc
by-section before line more f faultless rest no_threads (Some section.Finally) is =
    let later = with_before (before ++ line ∷ []) more in
    let behind = rest (follows-finally before line f is faultless) (ap (λ s. thread_part s (section_commands later) ++ threads_in later) (sym is) ∙ no_threads) in
    (λ j. (in_section (before, line) later ∙ ap (λ s. flat_map line_commands (cond (not (is_some s)) ((before, line) ∷ take_while (λ q. not (is_some (section_on q.1))) later) [])) is) j
    ++ (finally_part (is j) (section_commands later) ++ finally_in later))
    ∙ (λ j. sym (asks-nothing before line f is faultless) j ++ behind j)

from-here : (before lines : List Line) (number : ℕ) → Follows before → first_fault number (with_before before lines) ≡ None → threads_in (with_before before lines) ≡ []
    → AreLines (with_before before lines)
from-here before [] number f faultless no_threads = refl
from-here before (line ∷ more) number f faultless no_threads =
    let parts = faultless-here number (line_fault (scope_of before) line) (first_fault (number + 1) (with_before (before ++ line ∷ []) more)) faultless in
    by-section before line more f parts.0 (λ follows none_later. from-here (before ++ line ∷ []) more (number + 1) follows parts.1 none_later) no_threads (section_on line) refl

pub without_threads : (text : List ℕ) → script_fault text ≡ None → (sections_of text).threads ≡ [] → (sections_of text).main ++ (sections_of text).finally ≡ commands_of text
without_threads text faultless no_threads = from-here [] (lines_of text) 1 (record { settled = refl; same = refl; unthreaded = refl }) faultless no_threads
