-- A run of a session as far as it went has no more phases, ticks and hangups than the session.
use Rattle.std.proofs.Common.{◌≡◌, ◌⊎◌, inl, inr, ℕ, zero, suc, ◌+◌, ◌*◌, ◌<◌, ◌≤◌, Bool, true, false, ◌&&◌}
use Rattle.std.proofs.Common.{◌==◌, if◌then◌else◌, List, [], ◌∷◌, Option, length, refl, ap, ◌∙◌, arith}
use Rattle.std.proofs.lemmas.Bool.{eq-eqb}
use Rattle.tty_calls.specs.declared.journals.Who.{Who}
use Rattle.tty_calls.specs.Plain.{PlainCall, PlainEvent, answered, parted, waited, flushed, ticked}
use Rattle.tty_calls.specs.Plain.{line_ended, clock_ended, caller_ended, phase_ended, hung_up, PlainEntry}
use Rattle.tty_terminal.specs.Terminals.{Terminal}
use Rattle.tty_terminal.specs.Steps.{IsAllowed, after}
use Rattle.tty_terminal.specs.Runs.{Leads, phase_after}
use Rattle.tty_terminal.specs.Marks.{Marks, marks_after, marks_in}
use Rattle.legal_runs.specs.Legal.{is_phase_end, HangsUp}
use Rattle.legal_runs.specs.Short.{is_tick, tick_count_in, after_phases}
use Rattle.legal_runs.proofs.PhaseLemmas.{phase-after}
use Rattle.journal_bound.proofs.Totals.{total, total_least, total_more}
use Rattle.journal_bound.proofs.Spent.{bit, bit_small}
use Rattle.journal_bound.proofs.Steps.{mark_count, is_hangup}

-- nothing stands there but one hangup
abbrev pub IsLast : List PlainEntry → Type 0
IsLast es = (es ≡ []) ⊎ HangsUp es

-- an entry that stands there is a hangup, and the last
record IsOneHangup (e : PlainEntry) (es : List PlainEntry) : Type 0 where
  none : es ≡ []
  hangup : is_hangup e.event ≡ true

tail_of : List PlainEntry → List PlainEntry
tail_of [] = []
tail_of (e ∷ es) = es

one_hangup : (e : PlainEntry) (es : List PlainEntry) → IsLast (e ∷ es) → IsOneHangup e es
one_hangup e es (inl h) = absurd (cc)
one_hangup e es (inr w) =
    let alone = w.alone in
    let none : es ≡ [] = cc in
    let same : e ≡ w.entry = cc in
    record { none = none; hangup = ap (λ (x : PlainEntry). is_hangup x.event) same ∙ ap is_hangup w.is_hangup }

-- ---- phases

hangup_marks : (event : PlainEvent) (step part : ℕ) (m : Marks)
    → is_hangup event ≡ true
    → mark_count (marks_after event step part m) ≤ mark_count m
hangup_marks (answered a dropped) step part m h = absurd (cc)
hangup_marks (parted n) step part m h = absurd (cc)
hangup_marks waited step part m h = absurd (cc)
hangup_marks (flushed chars) step part m h = absurd (cc)
hangup_marks ticked step part m h = absurd (cc)
hangup_marks (line_ended n) step part m h = absurd (cc)
hangup_marks clock_ended step part m h = absurd (cc)
hangup_marks caller_ended step part m h = absurd (cc)
hangup_marks phase_ended step part m h = absurd (cc)
hangup_marks (hung_up dropped) step part m h = omega arith

event_marks : (k : ℕ) (event : PlainEvent) (step part : ℕ) (m : Marks) (es : List PlainEntry)
    → IsLast (if is_phase_end event then after_phases k es else after_phases (suc k) es)
    → ((v : Marks)
    → IsLast (after_phases k es)
    → bit v.line_over + bit v.clock_over ≡ 0
    → mark_count (marks_in es v) ≤ 3 * v.phase + 3 * k)
    → ((v : Marks) → IsLast (after_phases (suc k) es) → mark_count (marks_in es v) ≤ 3 * v.phase + 3 * suc k)
    → mark_count (marks_in es (marks_after event step part m)) ≤ 3 * m.phase + 3 * suc k
event_marks k (answered a dropped) step part m es h next here = here m h
event_marks k (parted n) step part m es h next here = here m h
event_marks k waited step part m es h next here = here m h
event_marks k (flushed chars) step part m es h next here = here (marks_after (flushed chars) step part m) h
event_marks k ticked step part m es h next here = here (marks_after ticked step part m) h
event_marks k (line_ended n) step part m es h next here = here (marks_after (line_ended n) step part m) h
event_marks k clock_ended step part m es h next here = here (marks_after clock_ended step part m) h
event_marks k caller_ended step part m es h next here = here m h
event_marks k phase_ended step part m es h next here =
    let later = next (marks_after phase_ended step part m) h refl in
    omega (arith, later)
event_marks k (hung_up dropped) step part m es h next here = here m h

-- with n phases left
pub few_marks : (n : ℕ) (m : Marks) (es : List PlainEntry)
    → IsLast (after_phases n es)
    → (n ≡ 0 → bit m.line_over + bit m.clock_over ≡ 0)
    → mark_count (marks_in es m) ≤ 3 * m.phase + 3 * n
few_marks zero m [] h none = let bits = none refl in omega (arith, bits)
few_marks (suc k) m [] h none = omega (arith, bit_small m.line_over, bit_small m.clock_over)
few_marks zero m (e ∷ es) h none =
    let one = one_hangup e es h in
    let same : mark_count (marks_in es (marks_after e.event e.step e.part m))
    ≡ mark_count (marks_after e.event e.step e.part m) =
    ap (λ (xs : List PlainEntry). mark_count (marks_in xs (marks_after e.event e.step e.part m))) one.none in
    let bits = none refl in
    omega (arith, same, hangup_marks e.event e.step e.part m one.hangup, bits)
few_marks (suc k) m (e ∷ es) h none =
    event_marks k e.event e.step e.part m es h (λ v last bits. few_marks k v es last (λ z. bits))
    (λ v last. few_marks (suc k) v es last (λ z. absurd (cc)))

-- ---- hangups

abbrev pub hangup_count : List PlainEntry → ℕ
hangup_count [] = 0
hangup_count (e ∷ es) = bit (is_hangup e.event) + hangup_count es

event_hangups : (f : ℕ → ℕ → Option PlainCall) (counts : List ℕ) (t : Terminal) (who : Who) (step part : ℕ)
    (event : PlainEvent) (k : ℕ) (es : List PlainEntry)
    → IsAllowed f counts t who step part event
    → suc k + t.phase ≡ length counts
    → IsLast (if is_phase_end event then after_phases k es else after_phases (suc k) es)
    → (k + phase_after event t.phase ≡ length counts → IsLast (after_phases k es) → hangup_count es ≤ 1)
    → (suc k + phase_after event t.phase ≡ length counts → IsLast (after_phases (suc k) es) → hangup_count es ≤ 1)
    → bit (is_hangup event) + hangup_count es ≤ 1
event_hangups f counts t who step part (answered a dropped) k es allowed e h next here =
    let few = here e h in omega (arith, few)
event_hangups f counts t who step part (parted n) k es allowed e h next here = let few = here e h in omega (arith, few)
event_hangups f counts t who step part waited k es allowed e h next here = let few = here e h in omega (arith, few)
event_hangups f counts t who step part (flushed chars) k es allowed e h next here =
    let few = here e h in omega (arith, few)
event_hangups f counts t who step part ticked k es allowed e h next here = let few = here e h in omega (arith, few)
event_hangups f counts t who step part (line_ended n) k es allowed e h next here =
    let few = here e h in omega (arith, few)
event_hangups f counts t who step part clock_ended k es allowed e h next here = let few = here e h in omega (arith, few)
event_hangups f counts t who step part caller_ended k es allowed e h next here =
    let few = here e h in omega (arith, few)
event_hangups f counts t who step part phase_ended k es allowed e h next here =
    let few = next (omega (arith, e)) h in omega (arith, few)
event_hangups f counts t who step part (hung_up dropped) k es allowed e h next here =
    absurd (omega (arith, e, allowed.1.after))

-- no hangup but one, after the last phase
pub few_hangups : (f : ℕ → ℕ → Option PlainCall) (counts : List ℕ) (n : ℕ) (t : Terminal) (es : List PlainEntry)
    (u : Terminal)
    → Leads f counts t es u
    → n + t.phase ≡ length counts
    → IsLast (after_phases n es)
    → hangup_count es ≤ 1
few_hangups f counts n t [] u h e last = omega arith
few_hangups f counts zero t (x ∷ es) u h e last =
    let one = one_hangup x es last in
    let none : hangup_count es ≡ 0 = ap (λ (xs : List PlainEntry). hangup_count xs) one.none in
    omega (arith, none, bit_small (is_hangup x.event))
few_hangups f counts (suc k) t (x ∷ es) u h e last =
    let phase = phase-after f counts t x h.0 in
    event_hangups f counts t x.who x.step x.part x.event k es h.0.1 e last
    (λ place then_last. few_hangups f counts k (after f t x) es u h.1 (ap (λ (i : ℕ). k + i) phase ∙ place) then_last)
    (λ place then_last.
    few_hangups f counts (suc k) (after f t x) es u h.1 (ap (λ (i : ℕ). suc k + i) phase ∙ place) then_last)

-- ---- ticks

abbrev pub ticks_in : List PlainEntry → ℕ
ticks_in [] = 0
ticks_in (e ∷ es) = bit (is_tick e.event) + ticks_in es

abbrev pub phase_ends_in : List PlainEntry → ℕ
phase_ends_in [] = 0
phase_ends_in (e ∷ es) = bit (is_phase_end e.event) + phase_ends_in es

abbrev TicksFrom : ℕ → ℕ → List PlainEntry → Type 0
TicksFrom k n es = k + phase_ends_in es < n → ticks_in es ≤ total (λ j. tick_count_in j k es) n

quiet_ticks : (k n : ℕ) (es : List PlainEntry)
    → ticks_in es ≤ total (λ j. tick_count_in j k es) n
    → 0 + ticks_in es ≤ total (λ j. 0 + tick_count_in j k es) n
quiet_ticks k n es h =
    let same : total (λ j. tick_count_in j k es) n ≤ total (λ j. 0 + tick_count_in j k es) n =
    total_least (λ j. tick_count_in j k es) (λ j. 0 + tick_count_in j k es) n (λ j. omega arith) in
    omega (arith, h, same)

abbrev bit_at : Bool → ℕ
bit_at b = if b then 1 else 0

one_or_none : (b : Bool) (x : ℕ) → x ≤ (if b then 1 else 0) + x
one_or_none true x = omega arith
one_or_none false x = omega arith

event_ticks : (event : PlainEvent) (k n : ℕ) (es : List PlainEntry)
    → k + (bit (is_phase_end event) + phase_ends_in es) < n
    → ((l : ℕ) → TicksFrom l n es)
    → bit (is_tick event) + ticks_in es
    ≤ total (λ j. (if is_tick event && (k == j) then 1 else 0) + tick_count_in j (phase_after event k) es) n
event_ticks (answered a dropped) k n es h rest = quiet_ticks k n es (rest k (omega (arith, h)))
event_ticks (parted m) k n es h rest = quiet_ticks k n es (rest k (omega (arith, h)))
event_ticks waited k n es h rest = quiet_ticks k n es (rest k (omega (arith, h)))
event_ticks (flushed chars) k n es h rest = quiet_ticks k n es (rest k (omega (arith, h)))
event_ticks ticked k n es h rest =
    let here : bit_at (k == k) ≡ 1 = ap bit_at (eq-eqb k k refl) in
    let more = total_more (λ j. tick_count_in j k es) (λ j. (if k == j then 1 else 0) + tick_count_in j k es) n k
    (omega (arith, h)) (λ j. one_or_none (k == j) (tick_count_in j k es)) (omega (arith, here)) in
    let before = rest k (omega (arith, h)) in
    omega (arith, more, before)
event_ticks (line_ended m) k n es h rest = quiet_ticks k n es (rest k (omega (arith, h)))
event_ticks clock_ended k n es h rest = quiet_ticks k n es (rest k (omega (arith, h)))
event_ticks caller_ended k n es h rest = quiet_ticks k n es (rest k (omega (arith, h)))
event_ticks phase_ended k n es h rest = quiet_ticks (k + 1) n es (rest (k + 1) (omega (arith, h)))
event_ticks (hung_up dropped) k n es h rest = quiet_ticks k n es (rest k (omega (arith, h)))

-- all ticks are those of the phases
pub all_ticks : (es : List PlainEntry) (k n : ℕ)
    → k + phase_ends_in es < n
    → ticks_in es ≤ total (λ j. tick_count_in j k es) n
all_ticks [] k n h = omega arith
all_ticks (e ∷ es) k n h = event_ticks e.event k n es h (λ l. all_ticks es l n)
