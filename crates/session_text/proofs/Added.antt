-- What items add to the open phase, one after the other.
use Rattle.std.proofs.Common.{◌≡◌, ℕ, ◌+◌, List, [], ◌∷◌, ◌++◌, length, refl, ap, sym, ◌∙◌}
use Rattle.std.proofs.Common.{arith, get_or, set, append_assoc, append-nil, ◌<◌, ◌≤◌, ◌⊎◌}
use Rattle.std.proofs.Common.{inl, inr, zero, suc, true, false, nat_lt, ltb-true, ltb-false}
use Rattle.std.specs.Prelude.{flat_map, sum_by}
use Rattle.std.proofs.lemmas.List.{get_or-set_same, set-get_or, set-set}
use Rattle.std.proofs.lemmas.List.Sums.{sum_by-cons}
use Rattle.tty_base.specs.declared.lines.LineStep.{LineStep}
use Rattle.tty_calls.specs.Plain.{PlainCall}
use Rattle.tty_calls.specs.Sessions.{PlainScript, PlainPhase}
use Rattle.session_text.specs.declared.verbs.Verb.TheVariants.{Tick}
use Rattle.session_text.specs.declared.stands.ItemPlace.{ItemPlace}
use Rattle.session_text.specs.declared.stands.ItemPlace.TheVariants as place
use Rattle.session_text.specs.Meaning.{with_steps, with_ticks}
use Rattle.session_text.specs.Drafts.{with_call}
use Rattle.session_text.specs.Grammar.{WrittenItem, steps_by, ticks_by, calls_by}

-- ---- a list with one place changed

set_beyond : {X : Type 0} (xs : List X) (i : ℕ) (x : X) → length xs ≤ i → set xs i x ≡ xs
set_beyond [] i x h = refl
set_beyond (y ∷ xs) zero x h = absurd (omega (arith, h))
set_beyond {X} (y ∷ xs) (suc i) x h = ap (λ (ys : List X). y ∷ ys) (set_beyond xs i x (omega (arith, h)))

inside : (n i : ℕ) → (i < n) ⊎ (n ≤ i)
inside n i = elim (nat_lt i n) as (λ b. nat_lt i n ≡ b → (i < n) ⊎ (n ≤ i)) [
  | true ↦ λ e. inl (ltb-true i n e)
  | false ↦ λ e. inr (ltb-false i n e)
] refl

-- a change after a change is one change, where a value beyond the list does not matter
twice : {X : Type 0} (xs : List X) (i : ℕ) (d : X) (f g : X → X)
    → set (set xs i (f (get_or xs i d))) i (g (get_or (set xs i (f (get_or xs i d))) i d))
    ≡ set xs i (g (f (get_or xs i d)))
twice {X} xs i d f g =
    let once = set xs i (f (get_or xs i d)) in
    let flat = set-set xs i (f (get_or xs i d)) (g (get_or once i d)) in
    elim (inside (length xs) i) [
      | inl lt ↦ flat ∙ ap (λ (x : X). set xs i (g x)) (get_or-set_same xs i (f (get_or xs i d)) d lt)
      | inr ge ↦ flat ∙ set_beyond xs i (g (get_or once i d)) ge ∙ sym (set_beyond xs i (g (f (get_or xs i d))) ge)
    ]

-- ---- steps, ticks, calls

pub steps_twice : (port : ℕ) (one other : List LineStep) (phase : PlainPhase)
    → with_steps port other (with_steps port one phase) ≡ with_steps port (one ++ other) phase
steps_twice port one other phase =
    let all =
    twice phase.lines port [] (λ (steps : List LineStep). steps ++ one) (λ (steps : List LineStep). steps ++ other) in
    let joined : set phase.lines port ((get_or phase.lines port [] ++ one) ++ other)
    ≡ set phase.lines port (get_or phase.lines port [] ++ (one ++ other)) =
    ap (set phase.lines port) (append_assoc (get_or phase.lines port []) one other) in
    ap (λ (lines : List (List LineStep)). record phase { lines = lines }) (all ∙ joined)

pub steps_none : (port : ℕ) (phase : PlainPhase) → with_steps port [] phase ≡ phase
steps_none port phase =
    let same : set phase.lines port (get_or phase.lines port [] ++ []) ≡ phase.lines =
    ap (set phase.lines port) (append-nil (get_or phase.lines port [])) ∙ set-get_or phase.lines port [] in
    ap (λ (lines : List (List LineStep)). record phase { lines = lines }) same

pub ticks_twice : (port one other : ℕ) (phase : PlainPhase)
    → with_ticks port other (with_ticks port one phase) ≡ with_ticks port (one + other) phase
ticks_twice port one other phase =
    let all = twice phase.ticks port 0 (λ (n : ℕ). n + one) (λ (n : ℕ). n + other) in
    let joined : set phase.ticks port ((get_or phase.ticks port 0 + one) + other)
    ≡ set phase.ticks port (get_or phase.ticks port 0 + (one + other)) = ap (set phase.ticks port) (omega arith) in
    ap (λ (ticks : List ℕ). record phase { ticks = ticks }) (all ∙ joined)

pub ticks_none : (port : ℕ) (phase : PlainPhase) → with_ticks port 0 phase ≡ phase
ticks_none port phase =
    let same : set phase.ticks port (get_or phase.ticks port 0 + 0) ≡ phase.ticks =
    ap (set phase.ticks port) (omega arith) ∙ set-get_or phase.ticks port 0 in
    ap (λ (ticks : List ℕ). record phase { ticks = ticks }) same

-- calls more of the last caller
abbrev pub with_calls : List PlainCall → List PlainScript → List PlainScript
with_calls calls [] = []
with_calls calls (script ∷ []) = record script { calls = script.calls ++ calls } ∷ []
with_calls calls (script ∷ other ∷ scripts) = script ∷ with_calls calls (other ∷ scripts)

call_joined : (call : PlainCall) (calls : List PlainCall) (script : PlainScript)
    → record script { calls = (script.calls ++ call ∷ []) ++ calls }
    ≡ record script { calls = script.calls ++ (call ∷ calls) }
call_joined call calls script =
    ap (λ (cs : List PlainCall). record script { calls = cs }) (append_assoc script.calls (call ∷ []) calls)

pub calls_more : (call : PlainCall) (calls : List PlainCall) (scripts : List PlainScript)
    → with_calls calls (with_call call scripts) ≡ with_calls (call ∷ calls) scripts
calls_more call calls [] = refl
calls_more call calls (script ∷ []) = ap (λ (s : PlainScript). s ∷ []) (call_joined call calls script)
calls_more call calls (script ∷ other ∷ []) = ap (λ (s : PlainScript). script ∷ s ∷ []) (call_joined call calls other)
calls_more call calls (script ∷ other ∷ third ∷ scripts) =
    ap (λ (xs : List PlainScript). script ∷ xs) (calls_more call calls (other ∷ third ∷ scripts))

pub calls_none : (scripts : List PlainScript) → with_calls [] scripts ≡ scripts
calls_none [] = refl
calls_none (script ∷ []) = ap (λ (cs : List PlainCall). record script { calls = cs } ∷ []) (append-nil script.calls)
calls_none (script ∷ other ∷ scripts) = ap (λ (xs : List PlainScript). script ∷ xs) (calls_none (other ∷ scripts))

pub calls_at_end : (calls : List PlainCall) (scripts : List PlainScript) (script : PlainScript)
    → with_calls calls (scripts ++ script ∷ []) ≡ scripts ++ record script { calls = script.calls ++ calls } ∷ []
calls_at_end calls [] script = refl
calls_at_end calls (first ∷ []) script = refl
calls_at_end calls (first ∷ other ∷ scripts) script =
    ap (λ (xs : List PlainScript). first ∷ xs) (calls_at_end calls (other ∷ scripts) script)

-- ---- the items of the open block

abbrev pub with_own : ItemPlace → ℕ → List WrittenItem → PlainPhase → PlainPhase
with_own place.Line port own phase = with_steps port (flat_map steps_by own) phase
with_own place.Clock port own phase = with_ticks port (sum_by ticks_by own) phase
with_own place.Caller port own phase = record phase { callers = with_calls (flat_map calls_by own) phase.callers }
with_own other port own phase = phase

pub own_nothing : (at : ItemPlace) (port : ℕ) (phase : PlainPhase) → with_own at port [] phase ≡ phase
own_nothing place.Line port phase = steps_none port phase
own_nothing place.Clock port phase = ticks_none port phase
own_nothing place.Caller port phase =
    ap (λ (scripts : List PlainScript). record phase { callers = scripts }) (calls_none phase.callers)
own_nothing place.Start port phase = refl
own_nothing place.Head port phase = refl
own_nothing place.Before port phase = refl
own_nothing place.Phase port phase = refl
own_nothing place.Ended port phase = refl

pub tick_own : (port : ℕ) (arguments : List (List ℕ)) (own : List WrittenItem) (n : ℕ) (phase : PlainPhase)
    → ticks_by (record { verb = Tick; arguments = arguments }) ≡ n
    → with_ticks port (sum_by ticks_by own) (with_ticks port n phase)
    ≡ with_ticks port (sum_by ticks_by (record { verb = Tick; arguments = arguments } ∷ own)) phase
tick_own port arguments own n phase e =
    let item : WrittenItem = record { verb = Tick; arguments = arguments } in
    let cons = sum_by-cons ticks_by item own in
    ticks_twice port n (sum_by ticks_by own) phase
    ∙ ap (λ (m : ℕ). with_ticks port m phase)
    (let same : n + sum_by ticks_by own ≡ sum_by ticks_by (item ∷ own) = omega (arith, cons, e) in same)
