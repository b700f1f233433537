-- A log is whole behind the last phase: each call of each caller was answered, and each item is done.
use Rattle.std.proofs.Common.{◌≡◌, ◌≢◌, ◌<◌, ◌⊎◌, inl, inr, ℕ, zero, suc, ◌+◌, Bool, true, false, List, []}
use Rattle.std.proofs.Common.{◌∷◌, ◌++◌, Option, None, Some, length, map, take, drop, refl, sym, ap, ◌∙◌, subst, arith}
use Rattle.std.specs.Prelude.{slice_get, unwrap_or, if◌then◌else◌, nat_lt}
use Rattle.std.specs.Str.{bytes_eq}
use Rattle.std.proofs.lemmas.Bool.{cases_eq, false≢true}
use Rattle.std.proofs.lemmas.List.{get_or-set_other}
use Rattle.tty_calls.specs.Plain.{PlainAnswer}
use Rattle.tty_calls.specs.Sessions.{number_in}
use Rattle.tty_terminal.specs.Terminals.{Terminal}
use Rattle.legal_runs.proofs.ScriptLemmas.{at_number}
use Rattle.play_base.proofs.NameLemmas.{eq_name}
use Rattle.passed_calls.specs.Blocks.{names_on}
use Rattle.passed_calls.specs.Derived.{BlockPhase, blocks_of}
use Rattle.passed_calls.specs.Journals.{terminal_at}
use Rattle.passed_calls.specs.Scripts.{calls_named}
use Rattle.order_laws.specs.Passed.{begin_of, steps_named}
use Rattle.order_laws.proofs.Shares.{on_port, named, named_append}
use Rattle.passed_ports.proofs.Leaving.{below_if, some_at}
use Rattle.passed_ports.proofs.Played.{take_all}
use Rattle.modem_text.specs.Events.{ModemEvent, ModemLog, pin_set, own, passed, carrier_lost}
use Rattle.modem_text.specs.Sessions.{ModemCall, ModemPhase, ModemSession, carrier_name, blocks_in}
use Rattle.modem_text.specs.Within.{IsModemSessionWithin, block_phase_of}
use Rattle.modem_steps.specs.Derived.{block_phases, call_in_phase, calls_over, carrier_on, scripts_over}
use Rattle.modem_steps.specs.Steps.{ModemState, Port, IsAllowed, IsForPort, OwnAnswer, Leads, after_event, next_call}
use Rattle.modem_steps.specs.Steps.{next_of, items_from}
use Rattle.modem_one.proofs.Shares.{NoneIsCarrier, begin_counts, calls_front, carrier_counts, count_of, pins_by_phase}
use Rattle.modem_derived.specs.Blocks.{nothing_passed}
use Rattle.modem_ports.proofs.Pins.{items_many}
use Rattle.modem_ports.proofs.Beginning.{nothing_many}
use Rattle.modem_ports.proofs.Casting.{IsPhaseAt, carrier_there, none_is_carrier}

-- ---- `carrier` has no calls of its own

none_named_over : (p : ℕ) (phases : List ModemPhase)
    → NoneIsCarrier p phases
    → named carrier_name (scripts_over p phases) ≡ []
none_named_over p [] none = refl
none_named_over p (phase ∷ phases) none =
    named_append carrier_name (on_port p phase.callers) (scripts_over p phases)
    ∙ (λ i. none 0 phase refl i ++ none_named_over p phases (λ k x is. none (suc k) x is) i)

no_front : {X : Type 0} (xs ys : List X) → xs ++ ys ≡ [] → xs ≡ []
no_front [] ys e = refl
no_front (x ∷ xs) ys e = absurd (cc)

pub no_calls : (p c : ℕ) (session : ModemSession)
    → NoneIsCarrier p session.phases
    → slice_get (names_on p (blocks_in session)) c ≡ Some carrier_name
    → calls_over p session session.phases c ≡ []
no_calls p c session none is =
    ap (λ (o : Option (List ℕ)). calls_named o (scripts_over p session.phases)) is
    ∙ none_named_over p session.phases none

none_at : (b : Bool) (calls : List ModemCall) (step : ℕ)
    → calls ≡ []
    → (if b then None else slice_get calls step) ≡ None
none_at true calls step none = refl
none_at false calls step none = ap (λ (cs : List ModemCall). slice_get cs step) none

none_in_phase : (p k c step : ℕ) (session : ModemSession)
    → calls_over p session session.phases c ≡ []
    → call_in_phase p session k c step ≡ None
none_in_phase p k c step session none =
    none_at (nat_lt step (length (calls_over p session (take k session.phases) c)))
    (calls_over p session (take (k + 1) session.phases) c) step
    (no_front (calls_over p session (take (k + 1) session.phases) c)
    (calls_over p session (drop (k + 1) session.phases) c) (sym (calls_front p session (k + 1) c) ∙ none))

not_plain : (o : Option ModemCall) → o ≡ None → IsForPort o → ⊥
not_plain o none is = subst IsForPort none is

not_own : (port : Port) (s : ModemState) (t : Terminal) (c : ℕ) (o : Option ModemCall) (answer : PlainAnswer)
    → o ≡ None
    → OwnAnswer port s t c o answer
    → ⊥
not_own port s t c o answer none is = subst (λ (x : Option ModemCall). OwnAnswer port s t c x answer) none is

-- who has no call was never answered
next_stays : (port : Port) (s u : ModemState) (log : ModemLog) (c : ℕ)
    → calls_over port.number port.session port.session.phases c ≡ []
    → Leads port s log u
    → next_of u c ≡ next_of s c
next_stays port s u [] c none leads = ap (λ (x : ModemState). next_of x c) leads
next_stays port s u (l ∷ log) c none leads =
    next_stays port (after_event port s l.at l.event) u log c none leads.3 ∙ by_event l.event leads.2
  where
    at : ℕ
    at = l.at

    t : Terminal
    t = terminal_at port.journal l.at

    nothing : next_call port s t c ≡ None
    nothing = none_in_phase port.number t.phase c (next_of s c) port.session none

    by_event : (event : ModemEvent)
        → IsAllowed port s l.at event
        → next_of (after_event port s l.at event) c ≡ next_of s c
    by_event (pin_set pin up) is = refl
    by_event (own d step answer) is = elim (cases_eq c d) [
      | inl same ↦
          absurd (not_own port s t c (next_call port s t c) answer nothing
          (subst (λ (x : ℕ). OwnAnswer port s t x (next_call port s t x) answer) (sym same) is.answers))
      | inr other ↦ get_or-set_other s.next d c (next_of s d + 1) 0 other
    ]
    by_event (passed d step answer) is = elim (cases_eq c d) [
      | inl same ↦
          absurd (not_plain (next_call port s t c) nothing
          (subst (λ (x : ℕ). IsForPort (next_call port s t x)) (sym same) is.for_port))
      | inr other ↦ get_or-set_other s.next d c (next_of s d + 1) 0 other
    ]
    by_event (carrier_lost h) is = refl

-- ---- behind the last phase

abbrev names_at : ℕ → ModemSession → ℕ → Option (List ℕ)
names_at p session c = slice_get (names_on p (blocks_in session)) c

none_or_some : (o : Option (List ℕ)) → (o ≡ None) ⊎ ((name : List ℕ) × (o ≡ Some name))
none_or_some None = inl refl
none_or_some (Some name) = inr (name, refl)

true_or_false : (b : Bool) → (b ≡ true) ⊎ (b ≡ false)
true_or_false true = inl refl
true_or_false false = inr refl

number_or_none : (o : Option ℕ) → (o ≡ None) ⊎ ((n : ℕ) × (o ≡ Some n))
number_or_none None = inl refl
number_or_none (Some n) = inr (n, refl)

-- one that is not called `carrier` is another caller
is_other : (p c : ℕ) (session : ModemSession) (name : List ℕ)
    → names_at p session c ≡ Some name
    → bytes_eq carrier_name name ≡ false
    → c ≢ carrier_on p session
is_other p c session name is other same =
    let names = names_on p (blocks_in session) in
    elim (number_or_none (number_in names carrier_name)) [
      | inl none ↦
          (let past : carrier_on p session ≡ length names = ap (λ (o : Option ℕ). unwrap_or o (length names)) none in
          let below = below_if names c name is in
          absurd (omega (arith, past, below, same)))
      | inr some ↦
          (let number : carrier_on p session ≡ some.0 = ap (λ (o : Option ℕ). unwrap_or o (length names)) some.1 in
          let there : slice_get names some.0 ≡ Some carrier_name = at_number names carrier_name some.0 some.1 in
          let both : Some name ≡ Some carrier_name =
          sym is ∙ (ap (λ (n : ℕ). slice_get names n) (same ∙ number) ∙ there) in
          let it : name ≡ carrier_name = cc in
          absurd (false≢true (sym other ∙ (ap (bytes_eq carrier_name) it ∙ refl))))
    ]

abbrev HaveEnded : ℕ → ModemSession → (next : ℕ → ℕ) → ℕ → Type 0
HaveEnded p session next k =
    (c : ℕ) → c ≢ carrier_on p session → next c ≡ begin_of p (block_phases session) k c

whole_take : {X : Type 0} (xs : List X) (k : ℕ) → k ≡ length xs → take k xs ≡ xs
whole_take xs k is = ap (λ (n : ℕ). take n xs) is ∙ take_all xs

pub all_answered : (p k c : ℕ) (session : ModemSession) (next : ℕ → ℕ)
    → k ≡ length session.phases
    → NoneIsCarrier p session.phases
    → HaveEnded p session next k
    → (calls_over p session session.phases c ≡ [] → next c ≡ 0)
    → next c ≡ length (calls_over p session session.phases c)
all_answered p k c session next last none ended idle = elim (none_or_some (names_at p session c)) [
  | inl nobody ↦
      (let calls : calls_over p session session.phases c ≡ [] =
      ap (λ (o : Option (List ℕ)). calls_named o (scripts_over p session.phases)) nobody in
      idle calls ∙ sym (ap (λ (cs : List ModemCall). length cs) calls))
  | inr some ↦ elim (true_or_false (bytes_eq carrier_name some.0)) [
    | inl it ↦
        (let name : carrier_name ≡ some.0 = eq_name carrier_name some.0 it in
        let calls = no_calls p c session none (some.1 ∙ ap (λ (n : List ℕ). Some n) (sym name)) in
        idle calls ∙ sym (ap (λ (cs : List ModemCall). length cs) calls))
    | inr other ↦
        ended c (is_other p c session some.0 some.1 other)
        ∙ (begin_counts p session k c some.0 some.1 other
        ∙ ap (λ (ps : List ModemPhase). length (calls_over p session ps c)) (whole_take session.phases k last))
  ]
]

pub next_is_none : (port : Port) (s u : ModemState) (log : ModemLog) (c : ℕ)
    → Leads port s log u
    → next_of s c ≡ 0
    → calls_over port.number port.session port.session.phases c ≡ []
    → next_of u c ≡ 0
next_is_none port s u log c leads first none = next_stays port s u log c none leads ∙ first

zero_or_some : (n : ℕ) → (n ≡ 0) ⊎ (0 < n)
zero_or_some zero = inl refl
zero_or_some (suc n) = inr (omega arith)

none_if : {X : Type 0} (xs : List X) → length xs ≡ 0 → xs ≡ []
none_if [] is = refl
none_if (x ∷ xs) is = absurd (omega (arith, is))

none_steps : (p : ℕ) (o : Option (List ℕ)) → steps_named p [] o ≡ 0
none_steps p None = refl
none_steps p (Some name) = refl

take_none : {X : Type 0} (k : ℕ) → take {A = X} k [] ≡ []
take_none zero = refl
take_none (suc k) = refl

pub all_items : (p k : ℕ) (session : ModemSession) (items : ℕ)
    → k ≡ length session.phases
    → p < session.ports
    → IsModemSessionWithin session
    → items ≡ begin_of p (block_phases session) k (carrier_on p session)
    → items ≡ length (items_from p 0 session.phases)
all_items p k session items last port within is =
    let same : length (nothing_passed session).phases ≡ length session.phases = nothing_many session in
    elim (zero_or_some (length session.phases)) [
      | inl none ↦
          (let empty : session.phases ≡ [] = none_if session.phases none in
          let o = slice_get (names_on p (blocks_of (block_phases session))) (carrier_on p session) in
          is
          ∙ (ap (λ (ps : List BlockPhase). steps_named p (blocks_of (take k ps)) o)
          (ap (map (block_phase_of session.ports)) empty)
          ∙ (ap (λ (ps : List BlockPhase). steps_named p (blocks_of ps) o) (take_none k)
          ∙ (none_steps p o ∙ sym (ap (λ (ps : List ModemPhase). length (items_from p 0 ps)) empty)))))
      | inr some ↦
          (let phase = some_at session.phases 0 some in
          let at : IsPhaseAt p 0 session phase.0 = record { port = port; limits = within; at = phase.1 } in
          is
          ∙ (carrier_counts p session k port (none_is_carrier p session port within)
          (carrier_there p 0 session phase.0 at (omega (arith, same, some)))
          ∙ (ap (λ (ps : List ModemPhase). count_of (pins_by_phase p ps)) (whole_take session.phases k last)
          ∙ sym (items_many p 0 session.phases))))
    ]
