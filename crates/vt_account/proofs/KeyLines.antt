-- The phases that consoles play on one thread are those in which each key comes where its entry says.
use Rattle.std.proofs.Common.{◌≡◌, ℕ, suc, zero, ◌+◌, ◌==◌, Bool, true, false, if◌then◌else◌, List, [], ◌∷◌, ◌++◌}
use Rattle.std.proofs.Common.{length, map, drop, flat_map, refl, sym, ◌∙◌, ap, arith, append-nil, option_to_list}
use Rattle.std.specs.List.{range_with_len}
use Rattle.std.proofs.lemmas.Grind.{flat_map-append}
use Rattle.std.proofs.lemmas.List.FromFn.{map-range_with_len_more}
use Rattle.tty_base.specs.declared.lines.LineStep.{LineStep}
use Rattle.tty_calls.specs.Sessions.{PlainPhase, PlainSession, number_in}
use Rattle.vt_consoles.specs.declared.entries.VtEntry.{VtEntry}
use Rattle.vt_consoles.specs.Boards.{BoardState, active_on}
use Rattle.vt_consoles.specs.Runs.{active_after}
use Rattle.vt_text.specs.declared.sessions.OpCall.{OpCall}
use Rattle.vt_text.specs.declared.sessions.OpCall.TheVariants as op
use Rattle.vt_text.specs.Sessions.{PlainOperator, PlainVtPhase, PlainVtSession}
use Rattle.vt_account.specs.Seats.{operator_names}
use Rattle.vt_account.specs.Account.{granted}
use Rattle.vt_account.specs.Keyed.{console_in, consoles_in, keys_to, key_line, keyed_phase, keyed_phases, keyed}
use Rattle.vt_account.specs.InOrder.{active_behind, key_entries, event_of, call_entries, entries_at, operator_entries}
use Rattle.vt_account.specs.InOrder.{operators_entries, phase_entries, entries_from, entries_in_order}
use Rattle.vt_account.specs.Played.{key_lines, phases_in_order}

-- ---- the consoles of keys

abbrev times : ℕ → ℕ → List ℕ
times zero n = []
times (suc count) n = n ∷ times count n

consoles_of_keys : (seat console first count : ℕ)
    → consoles_in (key_entries seat console first count) ≡ times count console
consoles_of_keys seat console first zero = refl
consoles_of_keys seat console first (suc count) =
    ap (λ (l : List ℕ). console ∷ l) (consoles_of_keys seat console (first + 1) count)

no_console : (active : ℕ) (call : OpCall) → console_in (event_of active call) ≡ []
no_console active (op.Activate n) = refl
no_console active op.State = refl

consoles_of_calls : (seat active : ℕ) (calls : List OpCall) → consoles_in (call_entries seat active calls) ≡ []
consoles_of_calls seat active [] = refl
consoles_of_calls seat active (call ∷ calls) =
    ap (λ (l : List ℕ). l ++ consoles_in (call_entries seat (active_after active (event_of active call)) calls))
    (no_console active call)
    ∙ consoles_of_calls seat (active_after active (event_of active call)) calls

consoles_of_operator : (consoles active : ℕ) (seats : List ℕ) (calls : List OpCall)
    → consoles_in (entries_at consoles active seats calls) ≡ []
consoles_of_operator consoles active [] calls = refl
consoles_of_operator consoles active (seat ∷ seats) calls =
    consoles_of_calls seat active (flat_map (granted consoles) calls)

consoles_both : (xs ys : List VtEntry) → consoles_in (xs ++ ys) ≡ consoles_in xs ++ consoles_in ys
consoles_both xs ys = flat_map-append (λ (e : VtEntry). console_in e.event) xs ys

consoles_of_operators : (consoles active : ℕ) (names : List (List ℕ)) (operators : List PlainOperator)
    → consoles_in (operators_entries names consoles active operators) ≡ []
consoles_of_operators consoles active names [] = refl
consoles_of_operators consoles active names (operator ∷ operators) =
    let front = operator_entries names consoles active operator in
    let rest = operators_entries names consoles (active_behind active front) operators in
    consoles_both front rest
    ∙ ap (λ (l : List ℕ). l ++ consoles_in rest)
    (consoles_of_operator consoles active (option_to_list (number_in names operator.name)) operator.calls)
    ∙ consoles_of_operators consoles (active_behind active front) names operators

consoles_of_phase : (consoles active first : ℕ) (names : List (List ℕ)) (phase : PlainVtPhase)
    → consoles_in (phase_entries names consoles active first phase) ≡ times (length phase.keys) active
consoles_of_phase consoles active first names phase =
    let keys = key_entries (length names) active first (length phase.keys) in
    consoles_both keys (operators_entries names consoles active phase.operators)
    ∙ ap (λ (l : List ℕ). consoles_in keys ++ l) (consoles_of_operators consoles active names phase.operators)
    ∙ append-nil (consoles_in keys)
    ∙ consoles_of_keys (length names) active first (length phase.keys)

-- ---- the keys of a phase

first_or_none : (b : Bool) (key : ℕ) (keys : List ℕ)
    → (if b then key ∷ [] else []) ++ (if b then keys else []) ≡ (if b then key ∷ keys else [])
first_or_none true key keys = refl
first_or_none false key keys = refl

same_either : (b : Bool) (keys : List ℕ) → keys ≡ (if b then keys else keys)
same_either true keys = refl
same_either false keys = refl

keys_of_phase : (p active : ℕ) (keys more : List ℕ)
    → keys_to p keys (times (length keys) active ++ more) ≡ (if active == p then keys else [])
keys_of_phase p active [] more = same_either (active == p) []
keys_of_phase p active (key ∷ keys) more =
    ap (λ (l : List ℕ). (if active == p then key ∷ [] else []) ++ l) (keys_of_phase p active keys more)
    ∙ first_or_none (active == p) key keys

drop_times : (keys : List ℕ) (active : ℕ) (more : List ℕ)
    → drop (length keys) (times (length keys) active ++ more) ≡ more
drop_times [] active more = refl
drop_times (key ∷ keys) active more = drop_times keys active more

map_same : {A B : Type 0} (f g : A → B) → ((x : A) → f x ≡ g x) → (xs : List A) → map f xs ≡ map g xs
map_same f g h [] = refl
map_same {A} {B} f g h (x ∷ xs) =
    ap (λ (y : B). y ∷ map f xs) (h x) ∙ ap (λ (ys : List B). g x ∷ ys) (map_same f g h xs)

lines_same : (ports active : ℕ) (keys more : List ℕ) (phase : PlainPhase)
    → record phase { lines = key_lines ports active keys }
    ≡ keyed_phase ports keys (times (length keys) active ++ more) phase
lines_same ports active keys more phase =
    ap (λ (lines : List (List LineStep)). record phase { lines = lines })
    (map_same (λ (p : ℕ). key_line (if active == p then keys else []))
    (λ (p : ℕ). key_line (keys_to p keys (times (length keys) active ++ more)))
    (λ p. ap key_line (sym (keys_of_phase p active keys more))) (range_with_len 0 ports))

pub keyed_in_order : (ports active first : ℕ) (names : List (List ℕ)) (keyboards : List PlainVtPhase)
    (phases : List PlainPhase)
    → phases_in_order names ports active first keyboards phases
    ≡ keyed_phases ports (consoles_in (entries_from names ports active first keyboards)) keyboards phases
keyed_in_order ports active first names [] phases = refl
keyed_in_order ports active first names (keyboard ∷ keyboards) [] = refl
keyed_in_order ports active first names (keyboard ∷ keyboards) (phase ∷ phases) =
    let part = phase_entries names ports active first keyboard in
    let rest = entries_from names ports (active_behind active part) (first + length keyboard.keys) keyboards in
    let all : consoles_in (part ++ rest) ≡ times (length keyboard.keys) active ++ consoles_in rest =
    consoles_both part rest
    ∙ ap (λ (l : List ℕ). l ++ consoles_in rest) (consoles_of_phase ports active first names keyboard) in
    ap (λ (next : PlainPhase).
    next ∷ phases_in_order names ports (active_behind active part) (first + length keyboard.keys) keyboards phases)
    (lines_same ports active keyboard.keys (consoles_in rest) phase)
    ∙ ap (λ (others : List PlainPhase).
    keyed_phase ports keyboard.keys (times (length keyboard.keys) active ++ consoles_in rest) phase ∷ others)
    (keyed_in_order ports (active_behind active part) (first + length keyboard.keys) names keyboards phases)
    ∙ ap (λ (consoles : List ℕ).
    keyed_phase ports keyboard.keys (times (length keyboard.keys) active ++ consoles_in rest) phase
    ∷ keyed_phases ports consoles keyboards phases)
    (sym (drop_times keyboard.keys active (consoles_in rest)))
    ∙ ap (λ (consoles : List ℕ). keyed_phases ports consoles (keyboard ∷ keyboards) (phase ∷ phases)) (sym all)

-- a line more
pub lines_more : (active place : ℕ) (keys : List ℕ) (lines : List (List LineStep)) (line : List LineStep)
    → lines ≡ key_lines place active keys
    → line ≡ key_line (if active == place then keys else [])
    → lines ++ line ∷ [] ≡ key_lines (place + 1) active keys
lines_more active place keys lines line h e =
    ap (λ (l : List (List LineStep)). l ++ line ∷ []) h
    ∙ ap (λ (l : List LineStep). key_lines place active keys ++ l ∷ []) e
    ∙ sym (map-range_with_len_more (λ (p : ℕ). key_line (if active == p then keys else [])) 0 place place (omega arith))

-- the session that is played
pub keyed_is : (session : PlainVtSession) (names : List (List ℕ)) (board : BoardState) (limit : ℕ)
    (keyboards : List PlainVtPhase) (phases new : List PlainPhase)
    → names ≡ operator_names session.phases
    → board ≡ record { consoles = session.calls.ports; limit = limit; entries = [] }
    → keyboards ≡ session.phases
    → phases ≡ session.calls.phases
    → new ≡ phases_in_order names board.consoles (active_on board) 0 keyboards phases
    → record { version = 0; ports = session.calls.ports; flips = session.calls.flips; phases = new }
    ≡ keyed session (entries_in_order session)
keyed_is session names board limit keyboards phases new is_names is_board is_keyboards is_phases is_new =
    let ports = session.calls.ports in
    let whole : new ≡ keyed_phases ports (consoles_in (entries_in_order session)) session.phases session.calls.phases =
    is_new
    ∙ ap (λ (ns : List (List ℕ)). phases_in_order ns board.consoles (active_on board) 0 keyboards phases) is_names
    ∙ ap
    (λ (b : BoardState). phases_in_order (operator_names session.phases) b.consoles (active_on b) 0 keyboards phases)
    is_board
    ∙ ap (λ (ks : List PlainVtPhase). phases_in_order (operator_names session.phases) ports 0 0 ks phases) is_keyboards
    ∙ ap (λ (ps : List PlainPhase). phases_in_order (operator_names session.phases) ports 0 0 session.phases ps)
    is_phases
    ∙ keyed_in_order ports 0 0 (operator_names session.phases) session.phases session.calls.phases in
    ap {B = PlainSession}
    (λ (ps : List PlainPhase). record { version = 0; ports = ports; flips = session.calls.flips; phases = ps }) whole
