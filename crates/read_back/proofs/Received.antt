-- What a line received and lost, and its overruns: bytes, and numbers of 32 bits.
use Rattle.std.proofs.Common.{◌≡◌, ℕ, ◌+◌, ◌-◌, ◌<◌, ◌≤◌, Bool, true, false, ◌==◌, nat_lt, if◌then◌else◌, List, []}
use Rattle.std.proofs.Common.{◌∷◌, ◌++◌, length, map, take, reverse, refl, sym, ap, ◌∙◌, subst, arith, length-append}
use Rattle.std.specs.List.{AllByRecursion, list_any}
use Rattle.std.proofs.lemmas.List.{reverse-append}
use Rattle.tty_base.specs.Sizes.{MOST_ARRIVALS}
use Rattle.tty_base.specs.declared.characters.Flagged.{Flagged}
use Rattle.tty_base.specs.declared.lines.LineStep.{LineStep}
use Rattle.tty_base.specs.declared.lines.LineStep.TheVariants.{Rx, Break, Idle, Mask, Unmask, Trigger}
use Rattle.tty_base.specs.declared.lines.Overrun.{Overrun}
use Rattle.tty_base.specs.Lines.{arrival, arrival_count}
use Rattle.tty_calls.specs.Plain.{PlainEntry}
use Rattle.tty_calls.specs.Sessions.{PlainPhase, PlainSession, line_on}
use Rattle.tty_calls.specs.Limits.{IsWithinLimits}
use Rattle.uart_regs.specs.Registers.{DEPTH}
use Rattle.uart_line.specs.Received.{is_cut, window, uncut_window, window_output, overrun_mark, received_list_after}
use Rattle.uart_line.specs.Received.{received_list, lost_count_after, lost_count, closed_script, script}
use Rattle.uart_line.specs.Offered.{kept_list_from, AreShown}
use Rattle.uart_line.proofs.Steps.{arrival_count-append}
use Rattle.legal_runs.specs.Legal.{script_on, AreSeen}
use Rattle.journal_bound.proofs.Characters.{script_arrivals}
use Rattle.check_text.specs.Grammar.{most, IsOverrunWithin}
use Rattle.read_back.proofs.Lists.{each_of_both, each_taken, each_at}
use Rattle.session_text.specs.Writable.{IsByteStep, IsWrittenPhase}

abbrev pub AreByteChars : List Flagged → Type 0
AreByteChars chars = AllByRecursion (λ c. c.byte < 256) chars

abbrev AreByteSteps : List LineStep → Type 0
AreByteSteps steps = AllByRecursion IsByteStep steps

-- ---- what is received

arrives : (step : LineStep) → IsByteStep step → AreByteChars (arrival step)
arrives (Rx c) h = (h, tt)
arrives Break h = (omega arith, tt)
arrives (Idle n) h = tt
arrives Mask h = tt
arrives Unmask h = tt
arrives (Trigger n) h = tt

kept_where : (b : Bool) (xs ys : List Flagged) → AreByteChars xs → AreByteChars ys → AreByteChars (if b then xs else ys)
kept_where true xs ys h k = h
kept_where false xs ys h k = k

window_bytes : (past : List LineStep) → AreByteSteps past → AreByteChars (window past)
unfolding window
window_bytes [] h = tt
window_bytes (step ∷ past) h =
    each_of_both (λ c. c.byte < 256) (uncut_window past (window past)) (arrival step)
    (kept_where (is_cut past (window past)) [] (window past) tt (window_bytes past h.1)) (arrives step h.0)

output_bytes : (cs : List Flagged) → AreByteChars cs → AreByteChars (window_output cs)
unfolding window_output
output_bytes [] h = tt
output_bytes (c ∷ cs) h = kept_where (nat_lt DEPTH (length (c ∷ cs))) (c ∷ overrun_mark ∷ take 15 cs) (c ∷ cs)
    (h.0, (omega arith, each_taken (λ x. x.byte < 256) 15 cs h.1)) h

received_after : (past : List LineStep) → AreByteSteps past → AreByteChars (received_list_after past)
unfolding received_list_after
received_after [] h = tt
received_after (step ∷ past) h =
    each_of_both (λ c. c.byte < 256) (received_list_after past) _ (received_after past h.1)
    (kept_where (is_cut (step ∷ past) (window (step ∷ past))) (window_output (window (step ∷ past))) []
    (output_bytes (window (step ∷ past)) (window_bytes (step ∷ past) h)) tt)

reversed : (steps : List LineStep) → AreByteSteps steps → AreByteSteps (reverse steps)
reversed [] h = tt
reversed (x ∷ xs) h =
    let last : reverse (x ∷ xs) ≡ reverse xs ++ x ∷ [] = reverse-append (x ∷ []) xs in
    subst AreByteSteps (sym last) (each_of_both IsByteStep (reverse xs) (x ∷ []) (reversed xs h.1) (h.0, tt))

received_bytes : (steps : List LineStep) → AreByteSteps steps → AreByteChars (received_list steps)
unfolding received_list
received_bytes steps h = received_after (reverse steps) (reversed steps h)

script_steps : (p : ℕ) (phases : List PlainPhase)
    → AllByRecursion IsWrittenPhase phases
    → AreByteSteps (script (map (line_on p) phases))
unfolding script
script_steps p [] h = tt
script_steps p (phase ∷ phases) h =
    each_of_both IsByteStep (closed_script (line_on p phase)) (script (map (line_on p) phases))
    (each_of_both IsByteStep (line_on p phase) (Unmask ∷ Idle 4 ∷ [])
    (each_at AreByteSteps phase.lines p [] h.0.lines tt) (tt, (tt, tt)))
    (script_steps p phases h.1)

kept_bytes : (place : ℕ) (cs : List Flagged) (overruns : List Overrun)
    → AreByteChars cs
    → AreByteChars (kept_list_from place cs overruns)
unfolding kept_list_from
kept_bytes place [] overruns h = tt
kept_bytes place (c ∷ cs) overruns h =
    let rest = kept_bytes (place + 1) cs overruns h.1 in
    kept_where (list_any (λ o. o.at == place) overruns) (kept_list_from (place + 1) cs overruns)
    (c ∷ kept_list_from (place + 1) cs overruns) rest (h.0, rest)

-- the characters of a run are bytes
pub run_bytes : (p : ℕ) (session : PlainSession) (overruns : List Overrun)
    → AllByRecursion IsWrittenPhase session.phases
    → AreByteChars (kept_list_from 0 (received_list (script_on p session)) overruns)
run_bytes p session overruns h = kept_bytes 0 (received_list (script_on p session)) overruns
    (received_bytes (script_on p session) (script_steps p session.phases h))

-- ---- how many

pub few_arrive : (p : ℕ) (session : PlainSession)
    → IsWithinLimits session
    → arrival_count (script_on p session) ≤ MOST_ARRIVALS
few_arrive p session limits = omega (arith, script_arrivals p session.phases, limits.few_characters p)

lost_where : (b : Bool) (cs : List Flagged)
    → (if b then length cs - DEPTH else 0) + length (if b then [] else cs) ≤ length cs
lost_where true cs = omega arith
lost_where false cs = omega arith

none_where : (b : Bool) (cs : List Flagged) → length cs ≡ 0 → length (if b then [] else cs) ≡ 0
none_where true cs h = refl
none_where false cs h = h

lost_after : (past : List LineStep)
    → lost_count_after past + length (uncut_window past (window past)) ≤ arrival_count past
unfolding lost_count_after window
lost_after [] = omega (arith, none_where (is_cut [] []) [] refl)
lost_after (step ∷ past) =
    let here : List Flagged = uncut_window past (window past) ++ arrival step in
    omega (
      arith,
      lost_after past,
      length-append (uncut_window past (window past)) (arrival step),
      lost_where (is_cut (step ∷ past) here) here,
    )

reversed_arrivals : (steps : List LineStep) → arrival_count (reverse steps) ≡ arrival_count steps
reversed_arrivals [] = refl
reversed_arrivals (x ∷ xs) =
    let last : reverse (x ∷ xs) ≡ reverse xs ++ x ∷ [] = reverse-append (x ∷ []) xs in
    let parts : arrival_count (reverse (x ∷ xs)) ≡ arrival_count (reverse xs) + arrival_count (x ∷ []) =
    ap arrival_count last ∙ arrival_count-append (reverse xs) (x ∷ []) in
    omega (arith, parts, reversed_arrivals xs)

pub lost_few : (steps : List LineStep) → lost_count steps ≤ arrival_count steps
unfolding lost_count
lost_few steps = omega (arith, lost_after (reverse steps), reversed_arrivals steps)

-- ---- overruns

-- their places rise, and lie in what was received
pub few_overruns : (p : ℕ) (session : PlainSession) (capacity k floor n : ℕ) (all : List PlainEntry)
    (overruns : List Overrun)
    → length (received_list (script_on p session)) ≤ n
    → AreShown capacity k floor overruns
    → AreSeen p session all overruns
    → length overruns ≤ n - floor
unfolding AreShown
few_overruns p session capacity k floor n all [] few shown seen = omega arith
few_overruns p session capacity k floor n all (o ∷ overruns) few shown seen =
    let rest = few_overruns p session capacity (k + 1) (o.at + 1) n all overruns few shown.3 seen.1 in
    let at = seen.0.at_character in
    let rises = shown.0 in
    omega (arith, rest, at, rises, few)

pub overruns_within : (p : ℕ) (session : PlainSession) (capacity k floor : ℕ) (all : List PlainEntry)
    (overruns : List Overrun)
    → length (received_list (script_on p session)) ≤ most
    → AreShown capacity k floor overruns
    → AreSeen p session all overruns
    → AllByRecursion IsOverrunWithin overruns
unfolding AreShown
overruns_within p session capacity k floor all [] few shown seen = tt
overruns_within p session capacity k floor all (o ∷ overruns) few shown seen =
    let at = seen.0.at_character in
    let before = shown.1 in
    let full = shown.2 in (
      record {
        at = omega (arith, at, few);
        sent = omega (arith, at, few, before);
        seen = omega (arith, at, few, before, full);
      },
      overruns_within p session capacity (k + 1) (o.at + 1) all overruns few shown.3 seen.1,
    )
