-- The first fault and the matrix of a text, line by line.
use Rattle.std.proofs.Common.{◌≡◌, ℕ, ◌+◌, ◌<◌, ◌≤◌, ltb, eqb, not, map, Bool, true, false, if◌then◌else◌, List, [], ◌∷◌, ◌++◌, length, Option, Some, None, Ok, Err, refl, sym, ap, subst, ◌∙◌, append_assoc, append-nil, length-append, arith}
use Rattle.grb_market.proofs.Prelude.{Result, option_map, option_map_or, option_to_list, result_ok, result_err, nat_tests, Value, Cell, cell_cmp, MatrixEntries, map_from, FaultKind, UnendedLine, Header, TooFew, Repeated, TooMany, Head, Size, Line, ended, unended, lines_of, is_comment, head_of, size_of, entry_of, Stage, AtHeader, AtSize, AtEntry, Lost, behind_comments, stage_behind_size, stage_behind_header, stage_with, stage_of, entries_on, repeated, bytes_fault, missing_at, fault_at, first_fault, market_fault, length-map, map-append, has_place, count_apart, are_apart, AreSpelled, wrong_at, IsAtEnd, AreGathered, AreAllGathered, Stands, StandsBehind, IsRead}
use Rattle.grb_market.specs.declared.fault.MarketFault.{MarketFault}
use Rattle.grb_market.proofs.ApartLemmas.{apart_all, apart_fewer}

-- what one line more leaves to be read
abbrev pub advanced : Stage → List ℕ → Stage
advanced AtHeader bytes = stage_with [] (head_of bytes)
advanced (AtSize h) bytes = if is_comment bytes then AtSize h else stage_behind_size h [] (size_of h bytes)
advanced (AtEntry h s lines) bytes = AtEntry h s (lines ++ ended bytes ∷ [])
advanced Lost bytes = Lost

behind_size : (h : Head) (lines : List Line) (bytes : List ℕ) (r : Result Size FaultKind) → stage_behind_size h (lines ++ ended bytes ∷ []) r ≡ advanced (stage_behind_size h lines r) bytes
behind_size h lines bytes (Ok s) = refl
behind_size h lines bytes (Err kind) = refl

behind_none : (h : Head) (bytes : List ℕ) (b : Bool) → stage_behind_header h (if b then [] else ended bytes ∷ []) ≡ if b then AtSize h else stage_behind_size h [] (size_of h bytes)
behind_none h bytes true = refl
behind_none h bytes false = refl

behind_header : (h : Head) (lines : List Line) (bytes : List ℕ) → stage_behind_header h (behind_comments (lines ++ ended bytes ∷ [])) ≡ advanced (stage_behind_header h (behind_comments lines)) bytes
behind_header h [] bytes = behind_none h bytes (is_comment bytes)
behind_header h (line ∷ lines) bytes = by (behind_header h lines bytes) (is_comment line.bytes)
  where
    by : stage_behind_header h (behind_comments (lines ++ ended bytes ∷ [])) ≡ advanced (stage_behind_header h (behind_comments lines)) bytes → (b : Bool) → stage_behind_header h (if b then behind_comments (lines ++ ended bytes ∷ []) else line ∷ (lines ++ ended bytes ∷ [])) ≡ advanced (stage_behind_header h (if b then behind_comments lines else line ∷ lines)) bytes
    by r true = r
    by r false = behind_size h lines bytes (size_of h line.bytes)

pub behind_first : (lines : List Line) (bytes : List ℕ) (o : Option Head) → stage_with (lines ++ ended bytes ∷ []) o ≡ advanced (stage_with lines o) bytes
behind_first lines bytes None = refl
behind_first lines bytes (Some h) = behind_header h lines bytes

pub stage_of-push : (before : List Line) (bytes : List ℕ) → stage_of (before ++ ended bytes ∷ []) ≡ advanced (stage_of before) bytes
stage_of-push [] bytes = refl
stage_of-push (first ∷ more) bytes = behind_first more bytes (head_of first.bytes)

-- before the first line
pub at_start : (text : List ℕ) → Stands text AtHeader 1 text
at_start text = record { before = []; whole = refl; fault = refl; behind = refl }

module _ (text : List ℕ) (stage : Stage) (number : ℕ) (rest : List ℕ) (now : Stands text stage number rest) where
  -- the line here is faulty
  pub fault_here : (bytes : List ℕ) (more : List Line) (kind : FaultKind) → lines_of rest ≡ ended bytes ∷ more → bytes_fault stage bytes ≡ Some kind → market_fault text ≡ Some (fault_at number kind)
  fault_here bytes more kind are h =
      sym now.fault ∙ ap (first_fault number now.before) are
      ∙ ap (λ o. option_map_or (λ k. Some (fault_at number k)) o (first_fault (number + 1) (now.before ++ ended bytes ∷ []) more)) (ap (λ s. bytes_fault s bytes) now.behind ∙ h)

  -- it has no end
  pub fault_unended : (bytes : List ℕ) (more : List Line) → lines_of rest ≡ unended bytes ∷ more → market_fault text ≡ Some (fault_at number UnendedLine)
  fault_unended bytes more are = sym now.fault ∙ ap (first_fault number now.before) are

  -- it is missing
  pub fault_missing : (kind : FaultKind) → lines_of rest ≡ [] → missing_at stage ≡ Some kind → market_fault text ≡ Some (fault_at number kind)
  fault_missing kind are h = sym now.fault ∙ ap (first_fault number now.before) are ∙ ap (option_map (fault_at number)) (ap missing_at now.behind ∙ h)

  -- nothing is missing
  pub no_fault : lines_of rest ≡ [] → missing_at stage ≡ None → market_fault text ≡ None
  no_fault are h = sym now.fault ∙ ap (first_fault number now.before) are ∙ ap (option_map (fault_at number)) (ap missing_at now.behind ∙ h)

  pub stage_at_end : lines_of rest ≡ [] → stage_of (lines_of text) ≡ stage
  stage_at_end are = ap stage_of (now.whole ∙ ap (λ l. now.before ++ l) are ∙ append-nil now.before) ∙ now.behind

  -- the line here has no fault
  pub next : (bytes after : List ℕ) → lines_of rest ≡ ended bytes ∷ lines_of after → bytes_fault stage bytes ≡ None → Stands text (advanced stage bytes) (number + 1) after
  next bytes after are h = record {
    before = now.before ++ ended bytes ∷ [];
    whole = now.whole ∙ ap (λ l. now.before ++ l) are ∙ sym (append_assoc now.before (ended bytes ∷ []) (lines_of after));
    fault =
        sym (ap (λ o. option_map_or (λ k. Some (fault_at number k)) o (first_fault (number + 1) (now.before ++ ended bytes ∷ []) (lines_of after))) (ap (λ s. bytes_fault s bytes) now.behind ∙ h))
        ∙ sym (ap (first_fault number now.before) are) ∙ now.fault;
    behind = stage_of-push now.before bytes ∙ ap (λ s. advanced s bytes) now.behind;
  }

pub entries_on-push : (h : Head) (s : Size) (lines : List Line) (bytes : List ℕ) (e : Cell × Value) → entry_of h s bytes ≡ Ok e → entries_on h s (lines ++ ended bytes ∷ []) ≡ entries_on h s lines ++ e ∷ []
entries_on-push h s [] bytes e is = ap (λ r. option_to_list (result_ok r) ++ []) is
entries_on-push h s (line ∷ lines) bytes e is =
    ap (λ es. option_to_list (result_ok (entry_of h s line.bytes)) ++ es) (entries_on-push h s lines bytes e is)
    ∙ sym (append_assoc (option_to_list (result_ok (entry_of h s line.bytes))) (entries_on h s lines) (e ∷ []))

-- behind lines that spell entries

-- a line where another entry is to come
fault_in : (h : Head) (s : Size) (earlier : List Line) (bytes : List ℕ) → length earlier < s.count → bytes_fault (AtEntry h s earlier) bytes ≡ repeated h s earlier (entry_of h s bytes)
fault_in h s earlier bytes l =
    let more : ltb (length earlier) s.count ≡ true = grind (arith, nat_tests) in
    ap (λ b. if b then repeated h s earlier (entry_of h s bytes) else Some TooMany) more

module _ (text : List ℕ) (h : Head) (s : Size) where
  -- such lines follow, behind some that are read
  record Follow (number : ℕ) (before earlier : List Line) (lines : List (List ℕ)) (more : List Line) (es : MatrixEntries) : Type 0 where
    pub fault : first_fault number before (map ended lines ++ more) ≡ market_fault text
    pub behind : stage_of before ≡ AtEntry h s earlier
    pub spelled : AreSpelled h s lines es
    pub count : length earlier + length lines ≤ s.count

  follow_next : (number : ℕ) (before earlier : List Line) (bytes : List ℕ) (lines : List (List ℕ)) (more : List Line) (e : Cell × Value) (es : MatrixEntries) → Follow number before earlier (bytes ∷ lines) more (e ∷ es)
      → has_place (entries_on h s earlier) e.0 ≡ false → Follow (number + 1) (before ++ ended bytes ∷ []) (earlier ++ ended bytes ∷ []) lines more es
  follow_next number before earlier bytes lines more e es now apart =
      let counted = now.count in
      let room : length earlier < s.count = omega (arith, counted) in
      let none : bytes_fault (stage_of before) bytes ≡ None =
      ap (λ st. bytes_fault st bytes) now.behind ∙ fault_in h s earlier bytes room ∙ ap (repeated h s earlier) now.spelled.0 ∙ ap (λ b. if b then Some Repeated else None) apart in
      record {
        fault = sym (ap (λ o. option_map_or (λ k. Some (fault_at number k)) o (first_fault (number + 1) (before ++ ended bytes ∷ []) (map ended lines ++ more))) none) ∙ now.fault;
        behind = stage_of-push before bytes ∙ ap (λ st. advanced st bytes) now.behind;
        spelled = now.spelled.1;
        count = let long = length-append earlier (ended bytes ∷ []) in omega (arith, counted, long);
      }

  -- where their places are apart they have no fault
  follow_all : (number : ℕ) (before earlier : List Line) (lines : List (List ℕ)) (more : List Line) (es done : MatrixEntries) → Follow number before earlier lines more es → entries_on h s earlier ≡ done → count_apart done es ≡ length es
      → (first_fault (number + length es) (before ++ map ended lines) more ≡ market_fault text) × (stage_of (before ++ map ended lines) ≡ AtEntry h s (earlier ++ map ended lines))
      × (entries_on h s (earlier ++ map ended lines) ≡ done ++ es) × (length lines ≡ length es)
  follow_all number before earlier [] more [] done now are apart =
      let here : number + 0 ≡ number = omega arith in (
        (λ j. first_fault (here j) (append-nil before j) more) ∙ now.fault,
        ap stage_of (append-nil before) ∙ now.behind ∙ ap (AtEntry h s) (sym (append-nil earlier)),
        ap (entries_on h s) (append-nil earlier) ∙ are ∙ sym (append-nil done),
        refl,
      )
  follow_all number before earlier [] more (e ∷ es) done now are apart = absurd now.spelled
  follow_all number before earlier (bytes ∷ lines) more [] done now are apart = absurd now.spelled
  follow_all number before earlier (bytes ∷ lines) more (e ∷ es) done now are apart =
      by (λ next made all. follow_all (number + 1) (before ++ ended bytes ∷ []) (earlier ++ ended bytes ∷ []) lines more es (done ++ e ∷ []) next made all) (has_place done e.0) refl apart
    where
      by : (Follow (number + 1) (before ++ ended bytes ∷ []) (earlier ++ ended bytes ∷ []) lines more es → entries_on h s (earlier ++ ended bytes ∷ []) ≡ done ++ e ∷ [] → count_apart (done ++ e ∷ []) es ≡ length es
          → (first_fault (number + 1 + length es) ((before ++ ended bytes ∷ []) ++ map ended lines) more ≡ market_fault text) × (stage_of ((before ++ ended bytes ∷ []) ++ map ended lines) ≡ AtEntry h s ((earlier ++ ended bytes ∷ []) ++ map ended lines))
          × (entries_on h s ((earlier ++ ended bytes ∷ []) ++ map ended lines) ≡ (done ++ e ∷ []) ++ es) × (length lines ≡ length es))
          → (b : Bool) → has_place done e.0 ≡ b → (if b then 0 else count_apart (done ++ e ∷ []) es + 1) ≡ length (e ∷ es)
          → (first_fault (number + length (e ∷ es)) (before ++ map ended (bytes ∷ lines)) more ≡ market_fault text) × (stage_of (before ++ map ended (bytes ∷ lines)) ≡ AtEntry h s (earlier ++ map ended (bytes ∷ lines)))
          × (entries_on h s (earlier ++ map ended (bytes ∷ lines)) ≡ done ++ e ∷ es) × (length (bytes ∷ lines) ≡ length (e ∷ es))
      by r true t c = absurd (omega (arith, c))
      by r false t c =
          let next = follow_next number before earlier bytes lines more e es now (ap (λ m. has_place m e.0) are ∙ t) in
          let made = entries_on-push h s earlier bytes e now.spelled.0 ∙ ap (λ m. m ++ e ∷ []) are in
          let rest = r next made (omega (arith, c)) in
          let long = rest.3 in
          let numbers : number + length (e ∷ es) ≡ number + 1 + length es = omega arith in
          let b = append_assoc before (ended bytes ∷ []) (map ended lines) in
          let d = append_assoc earlier (ended bytes ∷ []) (map ended lines) in (
            (λ j. first_fault (numbers j) (sym b j) more) ∙ rest.0,
            ap stage_of (sym b) ∙ rest.1 ∙ ap (AtEntry h s) d,
            ap (entries_on h s) (sym d) ∙ rest.2 ∙ append_assoc done (e ∷ []) es,
            omega (arith, long),
          )

  -- else the first that repeats a place is the first fault
  follow_repeated : (number : ℕ) (before earlier : List Line) (lines : List (List ℕ)) (more : List Line) (es done : MatrixEntries) → Follow number before earlier lines more es → entries_on h s earlier ≡ done → count_apart done es < length es
      → market_fault text ≡ Some (fault_at (number + count_apart done es) Repeated)
  follow_repeated number before earlier [] more [] done now are apart = absurd (omega (arith, apart))
  follow_repeated number before earlier [] more (e ∷ es) done now are apart = absurd now.spelled
  follow_repeated number before earlier (bytes ∷ lines) more [] done now are apart = absurd now.spelled
  follow_repeated number before earlier (bytes ∷ lines) more (e ∷ es) done now are apart =
      by (λ next made fewer. follow_repeated (number + 1) (before ++ ended bytes ∷ []) (earlier ++ ended bytes ∷ []) lines more es (done ++ e ∷ []) next made fewer) (has_place done e.0) refl apart
    where
      by : (Follow (number + 1) (before ++ ended bytes ∷ []) (earlier ++ ended bytes ∷ []) lines more es → entries_on h s (earlier ++ ended bytes ∷ []) ≡ done ++ e ∷ [] → count_apart (done ++ e ∷ []) es < length es
          → market_fault text ≡ Some (fault_at (number + 1 + count_apart (done ++ e ∷ []) es) Repeated))
          → (b : Bool) → has_place done e.0 ≡ b → (if b then 0 else count_apart (done ++ e ∷ []) es + 1) < length (e ∷ es)
          → market_fault text ≡ Some (fault_at (number + (if b then 0 else count_apart (done ++ e ∷ []) es + 1)) Repeated)
      by r true t c =
          let counted = now.count in
          let room : length earlier < s.count = omega (arith, counted) in
          let here : number ≡ number + 0 = omega arith in
          let told : bytes_fault (stage_of before) bytes ≡ Some Repeated =
          ap (λ st. bytes_fault st bytes) now.behind ∙ fault_in h s earlier bytes room ∙ ap (repeated h s earlier) now.spelled.0 ∙ ap (λ b. if b then Some Repeated else None) (ap (λ m. has_place m e.0) are ∙ t) in
          sym now.fault ∙ ap (λ o. option_map_or (λ k. Some (fault_at number k)) o (first_fault (number + 1) (before ++ ended bytes ∷ []) (map ended lines ++ more))) told ∙ ap (λ n. Some (fault_at n Repeated)) here
      by r false t c =
          let next = follow_next number before earlier bytes lines more e es now (ap (λ m. has_place m e.0) are ∙ t) in
          let made = entries_on-push h s earlier bytes e now.spelled.0 ∙ ap (λ m. m ++ e ∷ []) are in
          let numbers : number + 1 + count_apart (done ++ e ∷ []) es ≡ number + (count_apart (done ++ e ∷ []) es + 1) = omega arith in
          r next made (omega (arith, c))
          ∙ ap (λ n. Some (fault_at n Repeated)) numbers

  module _ (number : ℕ) (behind : List ℕ) (now : Stands text (AtEntry h s []) number behind) (es : MatrixEntries) where
    follow : (left : ℕ) (rest : List ℕ) (p : AreGathered h s behind es left rest) → Follow number now.before [] p.lines (lines_of rest) es
    follow left rest p = let counted = p.count in record { fault = sym (ap (first_fault number now.before) p.whole) ∙ now.fault; behind = now.behind; spelled = p.spelled; count = omega (arith, counted) }

    -- entries at places apart are read
    pub stands_behind : (left : ℕ) (rest : List ℕ) → AreGathered h s behind es left rest → are_apart es ≡ true → StandsBehind text h s (number + length es) left rest (map_from cell_cmp es)
    stands_behind left rest p apart =
        let all = follow_all number now.before [] p.lines (lines_of rest) es [] (follow left rest p) refl (apart_all es apart) in
        let counted = p.count in
        let long = length-map p.lines ended in
        record {
          lines = map ended p.lines;
          stands = record { before = now.before ++ map ended p.lines; whole = now.whole ∙ ap (λ l. now.before ++ l) p.whole ∙ sym (append_assoc now.before (map ended p.lines) (lines_of rest)); fault = all.0; behind = all.1 };
          count = omega (arith, counted, long);
          entries = ap (map_from cell_cmp) (sym all.2);
        }

    -- others have the fault of the first line that repeats a place
    pub repeated_fault : (wrong : Option FaultKind) → AreAllGathered h s behind es wrong → are_apart es ≡ false → market_fault text ≡ Some (fault_at (number + count_apart [] es) Repeated)
    repeated_fault wrong p apart = follow_repeated number now.before [] p.front.lines (lines_of p.rest) es [] (follow p.left p.rest p.front) refl (apart_fewer es apart)

module _ (text : List ℕ) (h : Head) (s : Size) (number left : ℕ) (rest : List ℕ) (m : MatrixEntries) (now : StandsBehind text h s number left rest m) where
  full : left ≡ 0 → ltb (length now.lines) s.count ≡ false
  full none = let count = now.count in grind (arith, nat_tests)

  open_still : not (eqb left 0) ≡ true → length now.lines < s.count
  open_still some = let count = now.count in grind (arith, nat_tests)

  -- what is wrong with a line by itself is its fault
  wrong_line : (bytes : List ℕ) (b : Bool) (more : List Line) (kind : FaultKind) → lines_of rest ≡ record { bytes = bytes; is_ended = b } ∷ more → (c : Bool) → eqb left 0 ≡ c
      → (if b then (if c then Some TooMany else result_err (entry_of h s bytes)) else Some UnendedLine) ≡ Some kind → market_fault text ≡ Some (fault_at number kind)
  wrong_line bytes false more kind are c is w = fault_unended text (AtEntry h s now.lines) number rest now.stands bytes more are ∙ ap (option_map (fault_at number)) w
  wrong_line bytes true more kind are true is w =
      let none : left ≡ 0 = grind (arith, nat_tests) in
      fault_here text (AtEntry h s now.lines) number rest now.stands bytes more kind are (ap (λ b. if b then repeated h s now.lines (entry_of h s bytes) else Some TooMany) (full none) ∙ w)
  wrong_line bytes true more kind are false is w =
      fault_here text (AtEntry h s now.lines) number rest now.stands bytes more kind are (fault_in h s now.lines bytes (open_still (ap not is)) ∙ own (entry_of h s bytes) w)
    where
      own : (r : Result (Cell × Value) FaultKind) → result_err r ≡ Some kind → repeated h s now.lines r ≡ Some kind
      own (Ok e) f = cc
      own (Err k) f = f

  wrong_lines : (lines : List Line) (kind : FaultKind) → lines_of rest ≡ lines → wrong_at h s left lines ≡ Some kind → market_fault text ≡ Some (fault_at number kind)
  wrong_lines [] kind are w =
      fault_missing text (AtEntry h s now.lines) number rest now.stands kind are (ap (λ b. if b then Some TooFew else None) (missing (eqb left 0) refl w) ∙ few (eqb left 0) w)
    where
      missing : (c : Bool) → eqb left 0 ≡ c → (if c then None else Some TooFew) ≡ Some kind → ltb (length now.lines) s.count ≡ true
      missing true is f = cc
      missing false is f = let room = open_still (ap not is) in grind (arith, nat_tests)

      few : (c : Bool) → (if c then None else Some TooFew) ≡ Some kind → Some TooFew ≡ Some kind
      few true f = cc
      few false f = f
  wrong_lines (line ∷ more) kind are w = wrong_line line.bytes line.is_ended more kind are (eqb left 0) refl w

  pub wrong_fault : (kind : FaultKind) → wrong_at h s left (lines_of rest) ≡ Some kind → market_fault text ≡ Some (fault_at number kind)
  wrong_fault kind w = wrong_lines (lines_of rest) kind refl w

  -- the text ends behind the last entry line
  pub is_read : lines_of rest ≡ [] → wrong_at h s left (lines_of rest) ≡ None → IsRead text h s m
  is_read empty w =
      let none : left ≡ 0 = by (eqb left 0) refl (sym (ap (wrong_at h s left) empty) ∙ w) in
      record {
        lines = now.lines;
        faultless = no_fault text (AtEntry h s now.lines) number rest now.stands empty (ap (λ b. if b then Some TooFew else None) (full none));
        behind = stage_at_end text (AtEntry h s now.lines) number rest now.stands empty;
        entries = now.entries;
      }
    where
      by : (c : Bool) → eqb left 0 ≡ c → (if c then None else Some TooFew) ≡ None → left ≡ 0
      by true is f = grind (arith, nat_tests)
      by false is f = cc

-- the entries that are gathered are the same each time
module _ (h : Head) (s : Size) where
  ended_early : (line : List ℕ) (e : Cell × Value) (left : ℕ) (lines more : List Line) (wrong : Option FaultKind) → lines ≡ ended line ∷ more → entry_of h s line ≡ Ok e → 0 < left → wrong_at h s left lines ≡ wrong → IsAtEnd lines wrong → ⊥
  ended_early line e left lines more None are is some w end = cc
  ended_early line e left lines more (Some kind) are is some w end =
      let more : eqb left 0 ≡ false = grind (arith, nat_tests) in
      let nothing : wrong_at h s left lines ≡ None = ap (wrong_at h s left) are ∙ (λ j. if more j then Some TooMany else result_err (is j)) in
      let no : None ≡ Some kind = sym nothing ∙ w in cc

  abbrev bytes_first : List Line → List ℕ
  bytes_first [] = []
  bytes_first (line ∷ lines) = line.bytes

  abbrev behind_first_line : List Line → List Line
  behind_first_line [] = []
  behind_first_line (line ∷ lines) = lines

  same_lines : (us vs : List (List ℕ)) (es fs : MatrixEntries) (l m : ℕ) (ls ms : List Line) (w v : Option FaultKind) → map ended us ++ ls ≡ map ended vs ++ ms → AreSpelled h s us es → AreSpelled h s vs fs → length us + l ≡ length vs + m
      → wrong_at h s l ls ≡ w → IsAtEnd ls w → wrong_at h s m ms ≡ v → IsAtEnd ms v → es ≡ fs
  same_lines [] [] [] [] l m ls ms w v are p q n wl el wm em = refl
  same_lines [] [] (e ∷ es) fs l m ls ms w v are p q n wl el wm em = absurd p
  same_lines [] [] [] (f ∷ fs) l m ls ms w v are p q n wl el wm em = absurd q
  same_lines [] (b ∷ vs) es [] l m ls ms w v are p q n wl el wm em = absurd q
  same_lines [] (b ∷ vs) es (f ∷ fs) l m ls ms w v are p q n wl el wm em = absurd (ended_early b f l ls (map ended vs ++ ms) w are q.0 (omega (arith, n)) wl el)
  same_lines (a ∷ us) [] [] fs l m ls ms w v are p q n wl el wm em = absurd p
  same_lines (a ∷ us) [] (e ∷ es) fs l m ls ms w v are p q n wl el wm em = absurd (ended_early a e m ms (map ended us ++ ls) v (sym are) p.0 (omega (arith, n)) wm em)
  same_lines (a ∷ us) (b ∷ vs) [] fs l m ls ms w v are p q n wl el wm em = absurd p
  same_lines (a ∷ us) (b ∷ vs) (e ∷ es) [] l m ls ms w v are p q n wl el wm em = absurd q
  same_lines (a ∷ us) (b ∷ vs) (e ∷ es) (f ∷ fs) l m ls ms w v are p q n wl el wm em =
      let one : Ok e ≡ Ok f = sym p.0 ∙ ap (entry_of h s) (ap bytes_first are) ∙ q.0 in
      let first : e ≡ f = cc in
      let rest = same_lines us vs es fs l m ls ms w v (ap behind_first_line are) p.1 q.1 (omega (arith, n)) wl el wm em in
      λ j. first j ∷ rest j

  pub same_gathered : (behind : List ℕ) (es fs : MatrixEntries) (w v : Option FaultKind) → AreAllGathered h s behind es w → AreAllGathered h s behind fs v → es ≡ fs
  same_gathered behind es fs w v p q =
      let one = p.front.count in
      let two = q.front.count in
      same_lines p.front.lines q.front.lines es fs p.left q.left (lines_of p.rest) (lines_of q.rest) w v (sym p.front.whole ∙ q.front.whole) p.front.spelled q.front.spelled (omega (arith, one, two)) p.is_wrong p.ends q.is_wrong q.ends

  spelled-push : (lines : List (List ℕ)) (es : MatrixEntries) (line : List ℕ) (e : Cell × Value) → AreSpelled h s lines es → entry_of h s line ≡ Ok e → AreSpelled h s (lines ++ line ∷ []) (es ++ e ∷ [])
  spelled-push [] [] line e p is = (is, tt)
  spelled-push [] (f ∷ es) line e p is = absurd p
  spelled-push (l ∷ lines) [] line e p is = absurd p
  spelled-push (l ∷ lines) (f ∷ es) line e p is = (p.0, spelled-push lines es line e p.1 is)

  -- one more
  pub gathered_next : (behind : List ℕ) (es fs : MatrixEntries) (left less : ℕ) (rest line after : List ℕ) (e : Cell × Value) → AreGathered h s behind es left rest → lines_of rest ≡ ended line ∷ lines_of after → length after < length rest → less + 1 ≡ left
      → entry_of h s line ≡ Ok e → fs ≡ es ++ e ∷ [] → AreGathered h s behind fs less after
  gathered_next behind es fs left less rest line after e p are shorter one is made =
      let counted = p.count in
      let short = p.short in
      let long = length-append p.lines (line ∷ []) in
      let more = ap length made ∙ length-append es (e ∷ []) in
      record {
        lines = p.lines ++ line ∷ [];
        whole = p.whole ∙ ap (λ l. map ended p.lines ++ l) are ∙ sym (append_assoc (map ended p.lines) (ended line ∷ []) (lines_of after)) ∙ ap (λ l. l ++ lines_of after) (sym (map-append ended p.lines (line ∷ [])));
        spelled = subst (AreSpelled h s (p.lines ++ line ∷ [])) (sym made) (spelled-push p.lines es line e p.spelled is);
        count = omega (arith, counted, long, one);
        short = omega (arith, short, more, shorter);
      }

-- the first line is a header
pub next_head : (text bytes after : List ℕ) (h : Head) → lines_of text ≡ ended bytes ∷ lines_of after → head_of bytes ≡ Some h → Stands text (AtSize h) 2 after
next_head text bytes after h are is =
    subst (λ st. Stands text st 2 after) (ap (stage_with []) is)
    (next text AtHeader 1 text (at_start text) bytes after are (ap (λ o. option_map_or (λ _. None) o (Some Header)) is))

module _ (text : List ℕ) (h : Head) (number : ℕ) (rest : List ℕ) (now : Stands text (AtSize h) number rest) (bytes after : List ℕ) (are : lines_of rest ≡ ended bytes ∷ lines_of after) where
  -- a comment
  pub next_comment : is_comment bytes ≡ true → Stands text (AtSize h) (number + 1) after
  next_comment c =
      subst (λ st. Stands text st (number + 1) after) (ap (λ b. if b then AtSize h else stage_behind_size h [] (size_of h bytes)) c)
      (next text (AtSize h) number rest now bytes after are (ap (λ b. if b then None else result_err (size_of h bytes)) c))

  -- the size line
  pub next_size : (s : Size) → is_comment bytes ≡ false → size_of h bytes ≡ Ok s → Stands text (AtEntry h s []) (number + 1) after
  next_size s c is =
      subst (λ st. Stands text st (number + 1) after) (λ j. if c j then AtSize h else stage_behind_size h [] (is j))
      (next text (AtSize h) number rest now bytes after are (λ j. if c j then None else result_err (is j)))

-- the entries are reached
abbrev pub is_at_entries : Stage → Bool
is_at_entries (AtEntry h s lines) = true
is_at_entries _ = false

-- no stage but the lost one is lost
abbrev pub IsLost : Stage → Type 0
IsLost AtHeader = ⊥
IsLost (AtSize h) = ⊥
IsLost (AtEntry h s lines) = ⊥
IsLost Lost = Unit {0}

kept_size : (h : Head) (r : Result Size FaultKind) → None ≡ result_err r → IsLost (stage_behind_size h [] r) → ⊥
kept_size h (Ok s) e l = l
kept_size h (Err kind) e l = cc

kept_head : (o : Option Head) → None ≡ option_map_or (λ _. None) o (Some Header) → IsLost (stage_with [] o) → ⊥
kept_head None e l = cc
kept_head (Some h) e l = l

kept_line : (h : Head) (bytes : List ℕ) (b : Bool) → None ≡ (if b then None else result_err (size_of h bytes)) → IsLost (if b then AtSize h else stage_behind_size h [] (size_of h bytes)) → ⊥
kept_line h bytes true e l = l
kept_line h bytes false e l = kept_size h (size_of h bytes) e l

kept_stage : (stage : Stage) (bytes : List ℕ) → (IsLost stage → ⊥) → None ≡ bytes_fault stage bytes → IsLost (advanced stage bytes) → ⊥
kept_stage AtHeader bytes here e l = kept_head (head_of bytes) e l
kept_stage (AtSize h) bytes here e l = kept_line h bytes (is_comment bytes) e l
kept_stage (AtEntry h s lines) bytes here e l = l
kept_stage Lost bytes here e l = here l

ended_stage : (stage : Stage) → (IsLost stage → ⊥) → None ≡ missing_at stage → is_at_entries stage ≡ true
ended_stage AtHeader here e = cc
ended_stage (AtSize h) here e = cc
ended_stage (AtEntry h s lines) here e = refl
ended_stage Lost here e = absurd (here tt)

pub none_of_map : {X Y : Type 0} (f : X → Y) (o : Option X) → None ≡ option_map f o → None ≡ o
none_of_map f None e = refl
none_of_map f (Some x) e = cc

pub none_here : (number : ℕ) (o : Option FaultKind) (later : Option MarketFault) → None ≡ option_map_or (λ kind. Some (fault_at number kind)) o later → (None ≡ o) × (None ≡ later)
none_here number None later e = (refl, e)
none_here number (Some kind) later e = cc

leads_by : (number : ℕ) (before lines : List Line) (bytes : List ℕ) (b : Bool)
    → ((IsLost (stage_of (before ++ record { bytes = bytes; is_ended = b } ∷ [])) → ⊥) → None ≡ first_fault (number + 1) (before ++ record { bytes = bytes; is_ended = b } ∷ []) lines
    → is_at_entries ((stage_of ((before ++ record { bytes = bytes; is_ended = b } ∷ []) ++ lines))) ≡ true)
    → (IsLost (stage_of before) → ⊥) → None ≡ first_fault number before (record { bytes = bytes; is_ended = b } ∷ lines)
    → is_at_entries ((stage_of (before ++ record { bytes = bytes; is_ended = b } ∷ lines))) ≡ true
leads_by number before lines bytes false r here e = cc
leads_by number before lines bytes true r here e =
    let p = none_here number (bytes_fault (stage_of before) bytes) (first_fault (number + 1) (before ++ ended bytes ∷ []) lines) e in
    ap (λ l. is_at_entries ((stage_of l))) (sym (append_assoc before (ended bytes ∷ []) lines))
    ∙ r (λ l. kept_stage (stage_of before) bytes here p.0 (subst IsLost (stage_of-push before bytes) l)) p.1

-- lines without a fault lead to the end of a file
pub leads_to_matrix : (number : ℕ) (before lines : List Line) → (IsLost (stage_of before) → ⊥) → None ≡ first_fault number before lines → is_at_entries ((stage_of (before ++ lines))) ≡ true
leads_to_matrix number before [] here e =
    ap (λ l. is_at_entries ((stage_of l))) (append-nil before) ∙ ended_stage (stage_of before) here (none_of_map (fault_at number) (missing_at (stage_of before)) e)
leads_to_matrix number before (line ∷ lines) here e = leads_by number before lines line.bytes line.is_ended (leads_to_matrix (number + 1) (before ++ line ∷ []) lines) here e
