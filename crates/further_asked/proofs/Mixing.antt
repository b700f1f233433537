-- Phases with calls beside those for their ports ask what the session of ports asks, and what these calls ask.
use Rattle.std.proofs.Common.{◌≡◌, ℕ, ◌+◌, ◌-◌, ◌*◌, ◌≤◌, ◌==◌, Bool, true, false, cond, List, []}
use Rattle.std.proofs.Common.{◌∷◌, length, map, refl, sym, ap, ◌∙◌, arith, length-append}
use Rattle.std.specs.Prelude.{drop, filter, flat_map, sum, sum_by, take, slice_index_or}
use Rattle.std.proofs.lemmas.List.{take-append-drop}
use Rattle.std.proofs.lemmas.List.Sums.{sum-map, sum_by-append, sum_by-cons}
use Rattle.tty_base.specs.declared.lines.LineStep.{LineStep}
use Rattle.tty_base.specs.Lines.{arrival_count}
use Rattle.tty_calls.specs.Plain.{PlainCall}
use Rattle.tty_calls.specs.Limits.{byte_count}
use Rattle.tty_calls.specs.Sessions.{PlainScript, PlainPhase, line_on, scripts_on}
use Rattle.tty_calls.specs.Sessions.{scripts_over as plain_scripts_over}
use Rattle.session_text.specs.Asked.{asked_of}
use Rattle.passed_calls.specs.declared.placed.PlacedCall.{PlacedCall}
use Rattle.passed_calls.specs.Derived.{BlockPhase}
use Rattle.passed_calls.specs.Scripts.{AnyCall, CallerScript, plain, further, mixed, count_in, mixed_scripts}
use Rattle.passed_calls.specs.Scripts.{phases_with}
use Rattle.passed_calls.proofs.Mixed.{map_phases, phases_count, phases_weigh}
use Rattle.further_asked.specs.Asked.{AskedPhase, any_asks, asked_on, asks_of, block_phase_of, call_asks}

-- ---- a script

abbrev pub plain_asks : PlainScript → ℕ
plain_asks s = sum_by call_asks s.calls

abbrev pub script_asks : CallerScript ℕ → ℕ
script_asks s = sum s.calls

plain_same : (C : Type 0) (calls : List PlainCall)
    → sum_by (λ (call : AnyCall C). any_asks call) (map plain calls) ≡ sum_by call_asks calls
plain_same C [] = refl
plain_same C (call ∷ calls) =
    let behind : List (AnyCall C) = map plain calls in
    sum_by-cons (λ (x : AnyCall C). any_asks x) (plain call) behind
    ∙ (ap (λ n. call_asks call + n) (plain_same C calls) ∙ sym (sum_by-cons call_asks call calls))

module _ {C : Type 0} where
  abbrev asks : AnyCall C → ℕ
  asks call = any_asks call

  abbrev plains : List PlainCall → List (AnyCall C)
  plains calls = map plain calls

  mixed_sum : (n : ℕ) (calls : List PlainCall) (os : List (PlacedCall C))
      → sum_by asks (mixed n calls os) ≡ sum_by call_asks calls + 3 * length os
  mixed_sum n calls [] = omega (arith, plain_same C calls)
  mixed_sum n calls (o ∷ os) =
      let k = o.place - n in
      let behind : List (AnyCall C) = further o.call ∷ mixed (o.place + 1) (drop k calls) os in
      omega (
        arith,
        sum_by-append asks (plains (take k calls)) behind,
        plain_same C (take k calls),
        sum_by-cons asks (further o.call) (mixed (o.place + 1) (drop k calls) os),
        mixed_sum (o.place + 1) (drop k calls) os,
        sum_by-append call_asks (take k calls) (drop k calls),
        ap (λ (cs : List PlainCall). sum_by call_asks cs) (take-append-drop k calls),
      )

  mixed_asks : (n : ℕ) (calls : List PlainCall) (os : List (PlacedCall C))
      → sum (map asks (mixed n calls os)) ≡ sum_by call_asks calls + 3 * length os
  mixed_asks n calls os = sum-map asks (mixed n calls os) ∙ mixed_sum n calls os

-- ---- the scripts of a port in a phase

on_either : (t : Bool) (x : CallerScript ℕ) (s : PlainScript) (xs : List (CallerScript ℕ)) (ss : List PlainScript)
    (more rest : ℕ)
    → script_asks x ≡ plain_asks s + more
    → sum_by script_asks xs ≤ sum_by plain_asks ss + rest
    → sum_by script_asks (cond t (x ∷ xs) xs) ≤ sum_by plain_asks (cond t (s ∷ ss) ss) + (more + rest)
on_either true x s xs ss more rest own h =
    omega (arith, own, h, sum_by-cons script_asks x xs, sum_by-cons plain_asks s ss)
on_either false x s xs ss more rest own h = omega (arith, h)

pub scripts_ask : {C : Type 0} (p k : ℕ) (ss : List PlainScript) (placed : List (PlacedCall C))
    → sum_by script_asks (filter (λ s. s.port == p) (map asks_of (mixed_scripts k ss placed)))
    ≤ sum_by plain_asks (filter (λ s. s.port == p) ss) + 3 * length placed
scripts_ask p k [] placed = omega arith
scripts_ask {C} p k (s ∷ ss) placed =
    let m = count_in k placed in
    let first : CallerScript ℕ =
    record { port = s.port; name = s.name; calls = map asks (mixed 0 s.calls (take m placed)) } in
    let later = map asks_of (mixed_scripts (k + 1) ss (drop m placed)) in
    let parts = on_either (s.port == p) first s (filter (λ x. x.port == p) later) (filter (λ x. x.port == p) ss)
    (3 * length (take m placed)) (3 * length (drop m placed)) (mixed_asks 0 s.calls (take m placed))
    (scripts_ask p (k + 1) ss (drop m placed)) in
    omega (
      arith,
      parts,
      length-append (take m placed) (drop m placed),
      ap (λ (os : List (PlacedCall C)). length os) (take-append-drop m placed),
    )

-- ---- all phases

flat_sum : {X Y : Type 0} (f : Y → ℕ) (g : X → List Y) (xs : List X)
    → sum_by f (flat_map g xs) ≡ sum_by (λ x. sum_by f (g x)) xs
flat_sum f g [] = refl
flat_sum f g (x ∷ xs) =
    omega (arith, sum_by-append f (g x) (flat_map g xs), flat_sum f g xs, sum_by-cons (λ y. sum_by f (g y)) x xs)

-- of scripts by what they hand over and how many calls they are
plain_parts : (calls : List PlainCall) → sum_by call_asks calls ≡ 2 * sum_by byte_count calls + 3 * length calls
plain_parts [] = refl
plain_parts (call ∷ calls) =
    omega (arith, sum_by-cons call_asks call calls, sum_by-cons byte_count call calls, plain_parts calls)

pub scripts_parts : (ss : List PlainScript)
    → sum_by plain_asks ss ≡ 2 * sum_by (λ s. sum_by byte_count s.calls) ss + 3 * sum_by (λ s. length s.calls) ss
scripts_parts [] = refl
scripts_parts (s ∷ ss) =
    omega (
      arith,
      sum_by-cons plain_asks s ss,
      plain_parts s.calls,
      scripts_parts ss,
      sum_by-cons (λ (x : PlainScript). sum_by byte_count x.calls) s ss,
      sum_by-cons (λ (x : PlainScript). length x.calls) s ss,
    )

-- phases that are those of a session of ports, with what each has beside
module _ {P : Type 0} (with_part : PlainPhase → P → AskedPhase) (nothing : P) (weight : P → ℕ) (p : ℕ)
    (none : weight nothing ≡ 0)
    (each : (phase : PlainPhase) (part : P)
    → sum_by script_asks (filter (λ s. s.port == p) (with_part phase part).callers)
    ≤ sum_by plain_asks (scripts_on p phase) + weight part)
    (lines : (phase : PlainPhase) (part : P) → (with_part phase part).lines ≡ phase.lines) where
  pub phases_ask : (parts : List P) (phases : List PlainPhase)
      → asked_on p (phases_with with_part nothing parts 0 phases) ≤ asked_of p phases + sum_by weight parts
  phases_ask parts phases =
      let all : List AskedPhase = phases_with with_part nothing parts 0 phases in
      let of_phase : AskedPhase → ℕ = λ phase. sum_by script_asks (filter (λ s. s.port == p) phase.callers) in
      let characters : BlockPhase → ℕ = λ phase. arrival_count (slice_index_or phase.lines p []) in
      omega (
        arith,
        flat_sum script_asks (λ (phase : AskedPhase). filter (λ s. s.port == p) phase.callers) all,
        phases_weigh with_part nothing of_phase (λ (phase : PlainPhase). sum_by plain_asks (scripts_on p phase)) weight
            parts 0 phases none each,
        flat_sum plain_asks (scripts_on p) phases,
        scripts_parts (plain_scripts_over p phases),
        ap (λ (bs : List BlockPhase). sum_by characters bs) (map_phases with_part block_phase_of nothing parts 0
            phases),
        phases_count (λ phase part. block_phase_of (with_part phase part)) nothing characters
            (λ phase. arrival_count (line_on p phase)) parts 0 phases
            (λ phase part. ap (λ (ls : List (List LineStep)). arrival_count (slice_index_or ls p []))
            (lines phase part)),
      )
