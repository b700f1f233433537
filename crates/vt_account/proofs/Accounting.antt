-- The entries in the order of one thread are an account of their session.
use Rattle.std.proofs.Common.{◌≡◌, ℕ, suc, zero, ◌+◌, ◌<◌, ◌==◌, nat_lt, Bool, true, false}
use Rattle.std.proofs.Common.{if◌then◌else◌, Option, None, Some, List, [], ◌∷◌, ◌++◌, length}
use Rattle.std.proofs.Common.{flat_map, refl, sym, ◌∙◌, ap, subst, arith, append-nil, option_to_list}
use Rattle.std.specs.List.{range_with_len}
use Rattle.std.proofs.lemmas.Bool.Decides.{nat_tests}
use Rattle.std.proofs.lemmas.Grind.{flat_map-append}
use Rattle.tty_calls.specs.Sessions.{number_in}
use Rattle.vt_consoles.specs.declared.entries.VtEntry.{VtEntry}
use Rattle.vt_consoles.specs.Runs.{active_after, NameRightly}
use Rattle.vt_text.specs.declared.sessions.OpCall.{OpCall}
use Rattle.vt_text.specs.declared.sessions.OpCall.TheVariants as op
use Rattle.vt_text.specs.Sessions.{PlainOperator, PlainVtPhase, PlainVtSession}
use Rattle.vt_account.specs.Seats.{operator_names}
use Rattle.vt_account.specs.Account.{granted, is_seat, call_in, index_in, calls_by}
use Rattle.vt_account.specs.Account.{indexes_by, IsPhasePart, HasParts, IsAccount}
use Rattle.vt_account.specs.InOrder.{active_behind, key_entries, event_of, call_entries, entries_at, operator_entries}
use Rattle.vt_account.specs.InOrder.{operators_entries, phase_entries, entries_from, entries_in_order}

-- ---- choices

same_either : {A : Type 0} (b : Bool) (xs : List A) → (if b then xs else xs) ≡ xs
same_either true xs = refl
same_either false xs = refl

both_either : {A : Type 0} (b : Bool) (xs ys : List A)
    → (if b then xs else []) ++ (if b then ys else []) ≡ (if b then xs ++ ys else [])
both_either true xs ys = refl
both_either false xs ys = refl

chosen : {A B : Type 0} (f : A → List B) (b : Bool) (xs : List A)
    → (if b then flat_map f xs else []) ≡ flat_map f (if b then xs else [])
chosen f true xs = refl
chosen f false xs = refl

-- ---- keys

indexes_of_keys : (seat keyboard console first count : ℕ)
    → indexes_by seat (key_entries keyboard console first count)
    ≡ (if keyboard == seat then range_with_len first count else [])
indexes_of_keys seat keyboard console first zero = sym (same_either (keyboard == seat) [])
indexes_of_keys seat keyboard console first (suc count) =
    ap (λ (l : List ℕ). (if keyboard == seat then first ∷ [] else []) ++ l)
    (indexes_of_keys seat keyboard console (first + 1) count)
    ∙ both_either (keyboard == seat) (first ∷ []) (range_with_len (first + 1) count)

calls_of_keys : (seat keyboard console first count : ℕ) → calls_by seat (key_entries keyboard console first count) ≡ []
calls_of_keys seat keyboard console first zero = refl
calls_of_keys seat keyboard console first (suc count) =
    let none : List OpCall = [] in
    ap (λ (l : List OpCall). (if keyboard == seat then none else none) ++ l)
    (calls_of_keys seat keyboard console (first + 1) count)
    ∙ append-nil (if keyboard == seat then none else none) ∙ same_either (keyboard == seat) none

-- ---- calls

call_of_event : (active : ℕ) (call : OpCall) → call_in (event_of active call) ≡ call ∷ []
call_of_event active (op.Activate n) = refl
call_of_event active op.State = refl

no_index : (active : ℕ) (call : OpCall) → index_in (event_of active call) ≡ []
no_index active (op.Activate n) = refl
no_index active op.State = refl

calls_of_calls : (seat at active : ℕ) (calls : List OpCall)
    → calls_by seat (call_entries at active calls) ≡ (if at == seat then calls else [])
calls_of_calls seat at active [] = sym (same_either (at == seat) [])
calls_of_calls seat at active (call ∷ calls) =
    ap (λ (l : List OpCall). (if at == seat then call_in (event_of active call) else []) ++ l)
    (calls_of_calls seat at (active_after active (event_of active call)) calls)
    ∙ ap (λ (l : List OpCall). (if at == seat then l else []) ++ (if at == seat then calls else []))
    (call_of_event active call)
    ∙ both_either (at == seat) (call ∷ []) calls

indexes_of_calls : (seat at active : ℕ) (calls : List OpCall) → indexes_by seat (call_entries at active calls) ≡ []
indexes_of_calls seat at active [] = refl
indexes_of_calls seat at active (call ∷ calls) =
    ap (λ (l : List ℕ). (if at == seat then index_in (event_of active call) else []) ++ l)
    (indexes_of_calls seat at (active_after active (event_of active call)) calls)
    ∙ append-nil (if at == seat then index_in (event_of active call) else [])
    ∙ ap (λ (l : List ℕ). if at == seat then l else []) (no_index active call)
    ∙ same_either (at == seat) []

calls_of_operator : (seat consoles active : ℕ) (number : Option ℕ) (calls : List OpCall)
    → calls_by seat (entries_at consoles active (option_to_list number) calls)
    ≡ flat_map (granted consoles) (if is_seat number seat then calls else [])
calls_of_operator seat consoles active None calls = refl
calls_of_operator seat consoles active (Some n) calls =
    calls_of_calls seat n active (flat_map (granted consoles) calls) ∙ chosen (granted consoles) (n == seat) calls

indexes_of_operator : (seat consoles active : ℕ) (number : Option ℕ) (calls : List OpCall)
    → indexes_by seat (entries_at consoles active (option_to_list number) calls) ≡ []
indexes_of_operator seat consoles active None calls = refl
indexes_of_operator seat consoles active (Some n) calls =
    indexes_of_calls seat n active (flat_map (granted consoles) calls)

calls_of_operators : (seat consoles active : ℕ) (names : List (List ℕ)) (operators : List PlainOperator)
    → calls_by seat (operators_entries names consoles active operators)
    ≡ flat_map (granted consoles)
    (flat_map (λ operator. if is_seat (number_in names operator.name) seat then operator.calls else []) operators)
calls_of_operators seat consoles active names [] = refl
calls_of_operators seat consoles active names (operator ∷ operators) =
    let front = operator_entries names consoles active operator in
    let asked : List OpCall = if is_seat (number_in names operator.name) seat then operator.calls else [] in
    let others : List OpCall =
    flat_map (λ (other : PlainOperator). if is_seat (number_in names other.name) seat then other.calls else [])
    operators in
    flat_map-append (λ (e : VtEntry). if e.seat == seat then call_in e.event else []) front
    (operators_entries names consoles (active_behind active front) operators)
    ∙ ap
    (λ (l : List OpCall). l ++ calls_by seat (operators_entries names consoles (active_behind active front) operators))
    (calls_of_operator seat consoles active (number_in names operator.name) operator.calls)
    ∙ ap (λ (l : List OpCall). flat_map (granted consoles) asked ++ l)
    (calls_of_operators seat consoles (active_behind active front) names operators)
    ∙ sym (flat_map-append (granted consoles) asked others)

indexes_of_operators : (seat consoles active : ℕ) (names : List (List ℕ)) (operators : List PlainOperator)
    → indexes_by seat (operators_entries names consoles active operators) ≡ []
indexes_of_operators seat consoles active names [] = refl
indexes_of_operators seat consoles active names (operator ∷ operators) =
    let front = operator_entries names consoles active operator in
    flat_map-append (λ (e : VtEntry). if e.seat == seat then index_in e.event else []) front
    (operators_entries names consoles (active_behind active front) operators)
    ∙ ap
    (λ (l : List ℕ). l ++ indexes_by seat (operators_entries names consoles (active_behind active front) operators))
    (indexes_of_operator seat consoles active (number_in names operator.name) operator.calls)
    ∙ indexes_of_operators seat consoles (active_behind active front) names operators

-- ---- phases

part_is : (session : PlainVtSession) (active first : ℕ) (phase : PlainVtPhase)
    → IsPhasePart session phase first
    (phase_entries (operator_names session.phases) session.calls.ports active first phase)
part_is session active first phase =
    let names = operator_names session.phases in
    let consoles = session.calls.ports in
    let keys = key_entries (length names) active first (length phase.keys) in
    let calls = operators_entries names consoles active phase.operators in
    record {
      keys = λ seat.
          flat_map-append (λ (e : VtEntry). if e.seat == seat then index_in e.event else []) keys calls
          ∙ ap (λ (l : List ℕ). indexes_by seat keys ++ l)
          (indexes_of_operators seat consoles active names phase.operators)
          ∙ append-nil (indexes_by seat keys)
          ∙ indexes_of_keys seat (length names) active first (length phase.keys);
      calls = λ seat.
          flat_map-append (λ (e : VtEntry). if e.seat == seat then call_in e.event else []) keys calls
          ∙ ap (λ (l : List OpCall). l ++ calls_by seat calls)
          (calls_of_keys seat (length names) active first (length phase.keys))
          ∙ calls_of_operators seat consoles active names phase.operators;
    }

parts_are : (session : PlainVtSession) (active first : ℕ) (phases : List PlainVtPhase)
    → HasParts session first phases
    (entries_from (operator_names session.phases) session.calls.ports active first phases)
parts_are session active first [] = refl
parts_are session active first (phase ∷ phases) =
    let part = phase_entries (operator_names session.phases) session.calls.ports active first phase in
    record {
      part = part;
      rest = entries_from (operator_names session.phases) session.calls.ports (active_behind active part)
          (first + length phase.keys) phases;
      parts = refl;
      is_part = part_is session active first phase;
      goes_on = parts_are session (active_behind active part) (first + length phase.keys) phases;
    }

-- ---- a board run

right_both : (consoles active : ℕ) (xs ys : List VtEntry)
    → NameRightly consoles active xs
    → NameRightly consoles (active_behind active xs) ys
    → NameRightly consoles active (xs ++ ys)
right_both consoles active [] ys h k = k
right_both consoles active (x ∷ xs) ys h k = (h.0, right_both consoles (active_after active x.event) xs ys h.1 k)

right_keys : (consoles seat active first count : ℕ) → NameRightly consoles active (key_entries seat active first count)
right_keys consoles seat active first zero = tt
right_keys consoles seat active first (suc count) = (refl, right_keys consoles seat active (first + 1) count)

pub active_keys : (seat console active first count : ℕ)
    → active_behind active (key_entries seat console first count) ≡ active
active_keys seat console active first zero = refl
active_keys seat console active first (suc count) = active_keys seat console active (first + 1) count

less_from : (n m : ℕ) → nat_lt n m ≡ true → n < m
less_from n m h = grind (arith, nat_tests)

right_activation : (consoles seat active n : ℕ) (calls : List OpCall) (b : Bool)
    → nat_lt n consoles ≡ b
    → ((now : ℕ) → NameRightly consoles now (call_entries seat now (flat_map (granted consoles) calls)))
    → NameRightly consoles active
    (call_entries seat active ((if b then op.Activate n ∷ [] else []) ++ flat_map (granted consoles) calls))
right_activation consoles seat active n calls true h rest = (less_from n consoles h, rest n)
right_activation consoles seat active n calls false h rest = rest active

right_calls : (consoles seat active : ℕ) (calls : List OpCall)
    → NameRightly consoles active (call_entries seat active (flat_map (granted consoles) calls))
right_calls consoles seat active [] = tt
right_calls consoles seat active (op.Activate n ∷ calls) =
    right_activation consoles seat active n calls (nat_lt n consoles) refl (λ now. right_calls consoles seat now calls)
right_calls consoles seat active (op.State ∷ calls) = (refl, right_calls consoles seat active calls)

right_operator : (consoles active : ℕ) (seats : List ℕ) (calls : List OpCall)
    → NameRightly consoles active (entries_at consoles active seats calls)
right_operator consoles active [] calls = tt
right_operator consoles active (seat ∷ seats) calls = right_calls consoles seat active calls

right_operators : (consoles active : ℕ) (names : List (List ℕ)) (operators : List PlainOperator)
    → NameRightly consoles active (operators_entries names consoles active operators)
right_operators consoles active names [] = tt
right_operators consoles active names (operator ∷ operators) =
    let front = operator_entries names consoles active operator in
    right_both consoles active front (operators_entries names consoles (active_behind active front) operators)
    (right_operator consoles active (option_to_list (number_in names operator.name)) operator.calls)
    (right_operators consoles (active_behind active front) names operators)

right_phase : (consoles active first : ℕ) (names : List (List ℕ)) (phase : PlainVtPhase)
    → NameRightly consoles active (phase_entries names consoles active first phase)
right_phase consoles active first names phase =
    let keys = key_entries (length names) active first (length phase.keys) in
    right_both consoles active keys (operators_entries names consoles active phase.operators)
    (right_keys consoles (length names) active first (length phase.keys))
    (subst (λ (n : ℕ). NameRightly consoles n (operators_entries names consoles active phase.operators))
    (sym (active_keys (length names) active active first (length phase.keys)))
    (right_operators consoles active names phase.operators))

right_phases : (consoles active first : ℕ) (names : List (List ℕ)) (phases : List PlainVtPhase)
    → NameRightly consoles active (entries_from names consoles active first phases)
right_phases consoles active first names [] = tt
right_phases consoles active first names (phase ∷ phases) =
    let part = phase_entries names consoles active first phase in
    right_both consoles active part
    (entries_from names consoles (active_behind active part) (first + length phase.keys) phases)
    (right_phase consoles active first names phase)
    (right_phases consoles (active_behind active part) (first + length phase.keys) names phases)

pub in_order_is_account : (session : PlainVtSession) → IsAccount session (entries_in_order session)
in_order_is_account session = record {
  run = right_phases session.calls.ports 0 0 (operator_names session.phases) session.phases;
  parts = parts_are session 0 0 session.phases;
}
