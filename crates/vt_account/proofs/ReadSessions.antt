-- A session of consoles that is read of a text keeps the limits of every one, and its board has few entries.
use Rattle.std.proofs.Common.{◌≡◌, ℕ, zero, suc, ◌+◌, ◌≤◌, nat_lt, Bool, true, false, if◌then◌else◌, Option, None}
use Rattle.std.proofs.Common.{Some, List, [], ◌∷◌, ◌++◌, length, flat_map, refl, arith, length-append, option_to_list}
use Rattle.std.specs.Prelude.{fold}
use Rattle.std.specs.List.{list_any}
use Rattle.std.specs.Str.{bytes_eq}
use Rattle.std.proofs.lemmas.List.Sums.{sum_by-cons}
use Rattle.tty_calls.specs.Sessions.{number_in, with_name}
use Rattle.vt_consoles.specs.Runs.{active_after}
use Rattle.vt_text.specs.declared.sessions.OpCall.{OpCall}
use Rattle.vt_text.specs.declared.sessions.OpCall.TheVariants as op
use Rattle.vt_text.specs.Sessions.{PlainOperator, PlainVtPhase, PlainVtSession}
use Rattle.vt_text.specs.Limits.{key_count, calls_of, op_call_count, operator_count, IsVtWithin}
use Rattle.vt_account.specs.Account.{granted}
use Rattle.vt_account.specs.InOrder.{active_behind, key_entries, event_of, call_entries, entries_at, operator_entries}
use Rattle.vt_account.specs.InOrder.{operators_entries, phase_entries, entries_from, entries_in_order}
use Rattle.vt_account.specs.Keyed.{all_keys, IsWithinKeys}
use Rattle.vt_account.specs.Seats.{operator_names}

-- ---- limits

name_more : (b : Bool) (names : List (List ℕ)) (name : List ℕ)
    → length (if b then names else names ++ name ∷ []) ≤ length names + 1
name_more true names name = omega arith
name_more false names name = omega (arith, length-append names (name ∷ []))

names_from : (operators : List PlainOperator) (names : List (List ℕ))
    → length (fold (λ ns (o : PlainOperator). with_name ns o.name) names operators) ≤ length names + length operators
names_from [] names = omega arith
names_from (o ∷ operators) names =
    omega
    (arith, names_from operators (with_name names o.name), name_more (list_any (bytes_eq o.name) names) names o.name)

operators_all : (phases : List PlainVtPhase)
    → length (flat_map (λ (p : PlainVtPhase). p.operators) phases) ≡ operator_count phases
operators_all [] = refl
operators_all (p ∷ phases) =
    omega (
      arith,
      length-append p.operators (flat_map (λ (x : PlainVtPhase). x.operators) phases),
      operators_all phases,
      sum_by-cons (λ (x : PlainVtPhase). length x.operators) p phases,
    )

few_names : (phases : List PlainVtPhase) → length (operator_names phases) ≤ operator_count phases
few_names phases =
    omega (arith, names_from (flat_map (λ (p : PlainVtPhase). p.operators) phases) [], operators_all phases)

pub all_counted : (phases : List PlainVtPhase) → length (all_keys phases) ≡ key_count phases
all_counted [] = refl
all_counted (p ∷ phases) = omega (
  arith,
  length-append p.keys (all_keys phases),
  all_counted phases,
  sum_by-cons (λ (x : PlainVtPhase). length x.keys) p phases,
)

pub within_keys : (x : PlainVtSession) → IsVtWithin x → IsWithinKeys x
within_keys x h = record {
  whole = h.whole;
  calls = h.calls;
  few_keys = omega (arith, all_counted x.phases, h.few_keys);
  few_seats = omega (arith, few_names x.phases, h.few_operators, h.whole, h.calls.few_phases);
}

-- ---- entries

some_keys : (seat console first count : ℕ) → length (key_entries seat console first count) ≡ count
some_keys seat console first zero = refl
some_keys seat console first (suc count) = omega (arith, some_keys seat console (first + 1) count)

chosen_few : (b : Bool) (call : OpCall) → length (if b then call ∷ [] else []) ≤ 1
chosen_few true call = omega arith
chosen_few false call = omega arith

one_accepted : (consoles : ℕ) (call : OpCall) → length (granted consoles call) ≤ 1
one_accepted consoles (op.Activate n) = chosen_few (nat_lt n consoles) (op.Activate n)
one_accepted consoles op.State = omega arith

few_accepted : (consoles : ℕ) (calls : List OpCall) → length (flat_map (granted consoles) calls) ≤ length calls
few_accepted consoles [] = omega arith
few_accepted consoles (call ∷ calls) =
    omega (
      arith,
      one_accepted consoles call,
      few_accepted consoles calls,
      length-append (granted consoles call) (flat_map (granted consoles) calls),
    )

some_calls : (seat active : ℕ) (calls : List OpCall) → length (call_entries seat active calls) ≡ length calls
some_calls seat active [] = refl
some_calls seat active (call ∷ calls) =
    omega (arith, some_calls seat (active_after active (event_of active call)) calls)

few_at : (consoles active : ℕ) (o : Option ℕ) (calls : List OpCall)
    → length (entries_at consoles active (option_to_list o) calls) ≤ length calls
few_at consoles active None calls = omega arith
few_at consoles active (Some seat) calls =
    omega (arith, some_calls seat active (flat_map (granted consoles) calls), few_accepted consoles calls)

few_operators : (names : List (List ℕ)) (consoles active : ℕ) (operators : List PlainOperator)
    → length (operators_entries names consoles active operators) ≤ calls_of operators
few_operators names consoles active [] = omega arith
few_operators names consoles active (o ∷ operators) =
    let one = operator_entries names consoles active o in
    omega (
      arith,
      few_at consoles active (number_in names o.name) o.calls,
      few_operators names consoles (active_behind active one) operators,
      length-append one (operators_entries names consoles (active_behind active one) operators),
      sum_by-cons (λ (x : PlainOperator). length x.calls) o operators,
    )

few_in_phase : (names : List (List ℕ)) (consoles active first : ℕ) (p : PlainVtPhase)
    → length (phase_entries names consoles active first p) ≤ length p.keys + calls_of p.operators
few_in_phase names consoles active first p =
    omega (
      arith,
      some_keys (length names) active first (length p.keys),
      few_operators names consoles active p.operators,
      length-append (key_entries (length names) active first (length p.keys))
          (operators_entries names consoles active p.operators),
    )

few_from : (names : List (List ℕ)) (consoles active first : ℕ) (phases : List PlainVtPhase)
    → length (entries_from names consoles active first phases) ≤ length (all_keys phases) + op_call_count phases
few_from names consoles active first [] = omega arith
few_from names consoles active first (p ∷ phases) =
    let one = phase_entries names consoles active first p in
    let rest = entries_from names consoles (active_behind active one) (first + length p.keys) phases in
    omega (
      arith,
      few_in_phase names consoles active first p,
      few_from names consoles (active_behind active one) (first + length p.keys) phases,
      length-append one rest,
      length-append p.keys (all_keys phases),
      sum_by-cons (λ (x : PlainVtPhase). calls_of x.operators) p phases,
    )

pub few_entries : (x : PlainVtSession) → IsVtWithin x → length (entries_in_order x) ≤ 327680
few_entries x h = omega (
  arith,
  few_from (operator_names x.phases) x.calls.ports 0 0 x.phases,
  all_counted x.phases,
  h.few_keys,
  h.few_calls,
)
