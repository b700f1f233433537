-- Where each seat stands after blocks, and what it was told.
use Rattle.std.proofs.Common.{◌≡◌, ◌≢◌, inl, inr, ℕ, suc, zero, ◌+◌, ◌<◌, ◌==◌, nat_lt, Bool, true}
use Rattle.std.proofs.Common.{false, cond, if◌then◌else◌, Option, None, Some, List, [], ◌∷◌, ◌++◌}
use Rattle.std.proofs.Common.{length, map, flat_map, replicate, get_or, Vec, Global, refl, sym, ◌∙◌}
use Rattle.std.proofs.Common.{ap, subst, arith, append_assoc, append-nil, length-append, ltb-true}
use Rattle.std.specs.Prelude.{slice_set}
use Rattle.std.specs.List.{position_or_len}
use Rattle.std.specs.Str.{bytes_eq}
use Rattle.std.proofs.lemmas.Bool.{cases_eq}
use Rattle.std.proofs.lemmas.Bool.Decides.{nat_tests}
use Rattle.std.proofs.lemmas.Grind.{flat_map-append}
use Rattle.std.proofs.lemmas.List.{length-set, length-replicate, get_or-map, map-set, get_or-set_same, get_or-set_other}
use Rattle.tty_calls.specs.Sessions.{number_in}
use Rattle.vt_consoles.specs.declared.entries.VtEntry.{VtEntry}
use Rattle.vt_text.specs.declared.sessions.OpCall.{OpCall}
use Rattle.vt_text.specs.Sessions.{PlainOperator, PlainVtPhase, PlainVtSession}
use Rattle.vt_account.specs.Seats.{operator_names}
use Rattle.vt_account.specs.Account.{is_seat}
use Rattle.vt_report.specs.declared.operators.Cursor.{Cursor}
use Rattle.vt_report.specs.Report.{is_state, asked_states, state_in, states_by, lines_from}
use Rattle.vt_report.specs.Report.{calls_of, block_lines, blocks_lines, operators_text}
use Rattle.vt_report.specs.Printing.{first_cursor, cursor_at, cursor_next, cursor_then, cursors_then}
use Rattle.vt_report.specs.Printing.{told_to, block_text, blocks_text, AreStates, states_then, states_after}

-- ---- numbers

some_then : (b : Bool) (n at : ℕ) → cond b (Some n) None ≡ Some at → (b ≡ true) × (n ≡ at)
some_then true n at h = (refl, cc)
some_then false n at h = cc

number_within : (names : List (List ℕ)) (name : List ℕ) (n : ℕ) → number_in names name ≡ Some n → n < length names
number_within names name n h =
    let place = position_or_len (bytes_eq name) names in
    let found = some_then (nat_lt place (length names)) place n h in
    subst (λ (m : ℕ). m < length names) found.1 (ltb-true _ _ found.0)

same_is_seat : (n : ℕ) → (n == n) ≡ true
same_is_seat n = grind (arith, nat_tests)

other_is_no_seat : (n m : ℕ) → n ≢ m → (n == m) ≡ false
other_is_no_seat n m h = grind (arith, nat_tests)

-- ---- cursors

asked_both : (xs ys : List OpCall) → asked_states (xs ++ ys) ≡ asked_states xs + asked_states ys
asked_both [] ys = omega arith
asked_both (x ∷ xs) ys = omega (arith, asked_both xs ys)

-- after so many calls
abbrev pub cursor_of : List OpCall → Cursor
cursor_of calls = record { step = length calls; told = asked_states calls }

told_more : (b : Bool) (n m : ℕ) → (if b then n + 1 else n) + m ≡ n + ((if b then 1 else 0) + m)
told_more true n m = omega arith
told_more false n m = omega arith

then_is : (at : Cursor) (calls : List OpCall)
    → cursor_then at calls ≡ record { step = at.step + length calls; told = at.told + asked_states calls }
then_is at [] = let step : at.step ≡ at.step + 0 = omega arith in let told : at.told ≡ at.told + 0 = omega arith in
    ap (λ (n : ℕ). record { step = n; told = at.told }) step
    ∙ ap (λ (n : ℕ). record { step = at.step + 0; told = n }) told
then_is at (call ∷ calls) =
    let step : (at.step + 1) + length calls ≡ at.step + length (call ∷ calls) = omega arith in
    then_is (cursor_next at call) calls
    ∙ ap (λ (n : ℕ). record { step = n; told = (cursor_next at call).told + asked_states calls }) step
    ∙ ap (λ (n : ℕ). record { step = at.step + length (call ∷ calls); told = n })
    (told_more (is_state call) at.told (asked_states calls))

-- where each seat stands after these blocks
record Stands (names : List (List ℕ)) (cursors : List Cursor) (before : List PlainOperator) : Type 0 where
  count : length cursors ≡ length names
  each : (seat : ℕ) → seat < length names → cursor_at cursors seat ≡ cursor_of (calls_of names seat before)

calls_more : (names : List (List ℕ)) (seat : ℕ) (before : List PlainOperator) (operator : PlainOperator)
    → calls_of names seat (before ++ operator ∷ [])
    ≡ calls_of names seat before ++ (if is_seat (number_in names operator.name) seat then operator.calls else [])
calls_more names seat before operator =
    flat_map-append (λ (o : PlainOperator). if is_seat (number_in names o.name) seat then o.calls else []) before
    (operator ∷ [])
    ∙ ap (λ (l : List OpCall). calls_of names seat before ++ l)
    (append-nil (if is_seat (number_in names operator.name) seat then operator.calls else []))

calls_same : (names : List (List ℕ)) (seat : ℕ) (before : List PlainOperator) (operator : PlainOperator)
    → is_seat (number_in names operator.name) seat ≡ false
    → calls_of names seat (before ++ operator ∷ []) ≡ calls_of names seat before
calls_same names seat before operator h =
    calls_more names seat before operator ∙ rw h (append-nil (calls_of names seat before))

calls_with : (names : List (List ℕ)) (seat : ℕ) (before : List PlainOperator) (operator : PlainOperator)
    → is_seat (number_in names operator.name) seat ≡ true
    → calls_of names seat (before ++ operator ∷ []) ≡ calls_of names seat before ++ operator.calls
calls_with names seat before operator h = calls_more names seat before operator ∙ rw h refl

cursor_with : (calls more : List OpCall) (at : Cursor)
    → at ≡ cursor_of calls
    → cursor_then at more ≡ cursor_of (calls ++ more)
cursor_with calls more at e =
    ap (λ (c : Cursor). cursor_then c more) e ∙ then_is (cursor_of calls) more
    ∙ ap (λ (n : ℕ). record { step = n; told = asked_states calls + asked_states more })
    (sym (length-append calls more))
    ∙ ap (λ (n : ℕ). record { step = length (calls ++ more); told = n }) (sym (asked_both calls more))

stands_after : (names : List (List ℕ)) (cursors : List Cursor) (before : List PlainOperator) (operator : PlainOperator)
    (number : Option ℕ)
    → number_in names operator.name ≡ number
    → Stands names cursors before
    → Stands names (cursors_then cursors operator.calls number) (before ++ operator ∷ [])
stands_after names cursors before operator None e h = record {
  count = h.count;
  each = λ seat lt.
      h.each seat lt ∙ ap cursor_of (sym (calls_same names seat before operator (ap (λ m. is_seat m seat) e)));
}
stands_after names cursors before operator (Some n) e h =
    let within : n < length cursors = subst (λ (m : ℕ). n < m) (sym h.count) (number_within names operator.name n e) in
    let set : Cursor = cursor_then (cursor_at cursors n) operator.calls in
    record {
      count = length-set cursors n set ∙ h.count;
      each = λ seat lt. elim (cases_eq n seat) [
        | inl same ↦
            ap (cursor_at (slice_set cursors n set)) (sym same) ∙ get_or-set_same cursors n set first_cursor within
            ∙ cursor_with (calls_of names n before) operator.calls (cursor_at cursors n)
            (h.each n (number_within names operator.name n e))
            ∙ ap cursor_of (sym (calls_with names n before operator (ap (λ m. is_seat m n) e ∙ same_is_seat n)))
            ∙ ap (λ (m : ℕ). cursor_of (calls_of names m (before ++ operator ∷ []))) same
        | inr other ↦
            get_or-set_other cursors n seat set first_cursor (λ same. other (sym same)) ∙ h.each seat lt
            ∙ ap cursor_of
            (sym (calls_same names seat before operator (ap (λ m. is_seat m seat) e ∙ other_is_no_seat n seat other)))
      ];
    }

block_is : (names : List (List ℕ)) (consoles : ℕ) (entries : List VtEntry) (states : List (List ℕ))
    (cursors : List Cursor) (before : List PlainOperator) (operator : PlainOperator) (number : Option ℕ)
    → number_in names operator.name ≡ number
    → Stands names cursors before
    → AreStates states (length names) entries
    → block_text consoles states cursors operator number
    ≡ block_lines consoles entries (λ seat. calls_of names seat before) operator number
block_is names consoles entries states cursors before operator None e h k = refl
block_is names consoles entries states cursors before operator (Some n) e h k =
    let within = number_within names operator.name n e in
    ap (λ (told : List ℕ).
    lines_from consoles told operator.name (cursor_at cursors n).step (cursor_at cursors n).told operator.calls)
    (k.each n within)
    ∙ ap (λ (at : Cursor). lines_from consoles (states_by n entries) operator.name at.step at.told operator.calls)
    (h.each n within)

blocks_are : (names : List (List ℕ)) (consoles : ℕ) (entries : List VtEntry) (states : List (List ℕ))
    (cursors : List Cursor) (before operators : List PlainOperator)
    → Stands names cursors before
    → AreStates states (length names) entries
    → blocks_text names consoles states cursors operators ≡ blocks_lines names consoles entries before operators
blocks_are names consoles entries states cursors before [] h k = refl
blocks_are names consoles entries states cursors before (operator ∷ operators) h k =
    let number = number_in names operator.name in
    let next = cursors_then cursors operator.calls number in
    ap (λ (l : List ℕ). l ++ blocks_text names consoles states next operators)
    (block_is names consoles entries states cursors before operator number refl h k)
    ∙ ap (λ (l : List ℕ). block_lines consoles entries (λ seat. calls_of names seat before) operator number ++ l)
    (blocks_are names consoles entries states next (before ++ operator ∷ []) operators
    (stands_after names cursors before operator number refl h) k)

first_at : (n seat : ℕ) → cursor_at (replicate n first_cursor) seat ≡ first_cursor
first_at zero zero = refl
first_at zero (suc seat) = refl
first_at (suc n) zero = refl
first_at (suc n) (suc seat) = first_at n seat

-- the lines of all blocks
pub all_blocks : (names : List (List ℕ)) (consoles : ℕ) (entries : List VtEntry) (states : List (List ℕ))
    (operators : List PlainOperator)
    → AreStates states (length names) entries
    → blocks_text names consoles states (replicate (length names) first_cursor) operators
    ≡ blocks_lines names consoles entries [] operators
all_blocks names consoles entries states operators k =
    blocks_are names consoles entries states (replicate (length names) first_cursor) [] operators
    (record { count = length-replicate (length names) first_cursor; each = λ seat lt. first_at (length names) seat }) k

-- ---- what seats are told

length_then : (states : List (List ℕ)) (entries : List VtEntry) → length (states_after states entries) ≡ length states
length_then states [] = refl
length_then states (e ∷ entries) =
    length_then (states_then states e) entries ∙ length-set states e.seat (told_to states e.seat ++ state_in e.event)

told_then : (states : List (List ℕ)) (seat : ℕ) (e : VtEntry) → seat < length states
    → told_to (states_then states e) seat ≡ told_to states seat ++ (if e.seat == seat then state_in e.event else [])
told_then states seat e lt = elim (cases_eq e.seat seat) [
  | inl same ↦
      let here : told_to (states_then states e) e.seat ≡ told_to states e.seat ++ state_in e.event =
      get_or-set_same states e.seat (told_to states e.seat ++ state_in e.event) []
      (subst (λ (m : ℕ). m < length states) (sym same) lt) in
      subst
      (λ (m : ℕ). told_to (states_then states e) m ≡ told_to states m ++ (if e.seat == m then state_in e.event else []))
      same
      (here
      ∙ ap (λ (b : Bool). told_to states e.seat ++ (if b then state_in e.event else [])) (sym (same_is_seat e.seat)))
  | inr other ↦
      get_or-set_other states e.seat seat (told_to states e.seat ++ state_in e.event) [] (λ same. other (sym same))
      ∙ sym (append-nil (told_to states seat))
      ∙ ap (λ (b : Bool). told_to states seat ++ (if b then state_in e.event else []))
      (sym (other_is_no_seat e.seat seat other))
]

told_after : (states : List (List ℕ)) (seat : ℕ) (entries : List VtEntry) → seat < length states
    → told_to (states_after states entries) seat ≡ told_to states seat ++ states_by seat entries
told_after states seat [] lt = sym (append-nil (told_to states seat))
told_after states seat (e ∷ entries) lt =
    let more : List ℕ = if e.seat == seat then state_in e.event else [] in
    told_after (states_then states e) seat entries
    (subst (λ (m : ℕ). seat < m) (sym (length-set states e.seat (told_to states e.seat ++ state_in e.event))) lt)
    ∙ ap (λ (l : List ℕ). l ++ states_by seat entries) (told_then states seat e lt)
    ∙ append_assoc (told_to states seat) more (states_by seat entries)

none_at : (n seat : ℕ) → told_to (replicate n []) seat ≡ []
none_at zero zero = refl
none_at zero (suc seat) = refl
none_at (suc n) zero = refl
none_at (suc n) (suc seat) = none_at n seat

pub states_are : (count : ℕ) (entries : List VtEntry)
    → AreStates (states_after (replicate count []) entries) count entries
states_are count entries =
    let none : List (List ℕ) = replicate count [] in
    let many : length none ≡ count = length-replicate count [] in
    record {
      count_is = length_then none entries ∙ many;
      each = λ seat lt.
          told_after none seat entries (subst (λ (m : ℕ). seat < m) (sym many) lt)
          ∙ ap (λ (l : List ℕ). l ++ states_by seat entries) (none_at count seat);
    }

-- ---- the lines of a session's operators

pub operators_told : (session : PlainVtSession) (names : List (List ℕ)) (entries : List VtEntry)
    (states : List (List ℕ)) (blocks : List PlainOperator) (count : ℕ)
    → names ≡ operator_names session.phases
    → blocks ≡ flat_map (λ (phase : PlainVtPhase). phase.operators) session.phases
    → count ≡ length names
    → AreStates states count entries
    → blocks_text names session.calls.ports states (replicate (length names) first_cursor) blocks
    ≡ operators_text session entries
operators_told session names entries states blocks count is_names is_blocks is_count h =
    let consoles = session.calls.ports in
    all_blocks names consoles entries states blocks (subst (λ (n : ℕ). AreStates states n entries) is_count h)
    ∙ ap (λ (ns : List (List ℕ)). blocks_lines ns consoles entries [] blocks) is_names
    ∙ ap (λ (os : List PlainOperator). blocks_lines (operator_names session.phases) consoles entries [] os) is_blocks

-- a seat was told once more
pub told_more_is : (states : List (Vec ℕ Global)) (e : VtEntry) (n : ℕ) (old new : Vec ℕ Global)
    → e.seat < length states
    → old ≡ get_or states e.seat old
    → new.items ≡ old.items ++ n ∷ []
    → state_in e.event ≡ n ∷ []
    → map (λ (told : Vec ℕ Global). told.items) (slice_set states e.seat new)
    ≡ states_then (map (λ (told : Vec ℕ Global). told.items) states) e
told_more_is states e n old new lt is more tells =
    let items = λ (told : Vec ℕ Global). told.items in
    let here : old.items ≡ told_to (map items states) e.seat =
    ap items is ∙ sym (get_or-map items states e.seat old [] lt) in
    map-set items states e.seat new
    ∙ ap (λ (l : List ℕ). slice_set (map items states) e.seat l)
    (more
    ∙ (ap (λ (l : List ℕ). l ++ n ∷ []) here ∙ ap (λ (l : List ℕ). told_to (map items states) e.seat ++ l) (sym tells)))
