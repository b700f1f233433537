-- The bound on a journal by the numbers of its session.
use Rattle.std.proofs.Common.{◌≡◌, ℕ, suc, ◌+◌, ◌*◌, ◌<◌, ◌≤◌, Bool, true, false, ◌==◌, cond, List, [], ◌∷◌}
use Rattle.std.proofs.Common.{◌++◌, Option, Some, length, sum, refl, sym, ap, subst, arith, length-append}
use Rattle.std.specs.Prelude.{sum_by, All, filter}
use mathlib.Core.List.{IsPrefix}
use Rattle.std.proofs.lemmas.List.{length-map}
use Rattle.std.proofs.lemmas.List.Elements.{All-head, All-tail}
use Rattle.std.proofs.lemmas.List.Sums.{sum_by-cons, sum_by-append}
use Rattle.tty_base.specs.Sizes.{MOST_CALLERS, MOST_ENTRIES}
use Rattle.tty_base.specs.declared.characters.Flagged.{Flagged}
use Rattle.tty_calls.specs.declared.journals.PortRun.{PortRun}
use Rattle.tty_calls.specs.Plain.{PlainCall, PlainEntry, chars_in}
use Rattle.tty_calls.specs.Sessions.{PlainScript, PlainPhase, PlainSession, ticks_on, scripts_on}
use Rattle.tty_calls.specs.Sessions.{scripts_over, names_of, calls_of, call_at, counts_on}
use Rattle.tty_calls.specs.Limits.{IsPhaseWithin, IsWithinLimits, call_count, character_count, tick_count}
use Rattle.tty_terminal.specs.declared.callers.CallerState.{CallerState}
use Rattle.tty_terminal.specs.Terminals.{Terminal, opening, caller_at}
use Rattle.tty_terminal.specs.Runs.{chars_of}
use Rattle.tty_terminal.specs.Standing.{Standing, standing_of, at_first}
use Rattle.tty_terminal.specs.Marks.{marks_of, marks_in, no_marks}
use Rattle.tty_terminal.proofs.CallerLists.{all_idle}
use Rattle.tty_terminal.proofs.MarkLaws.{run_marks}
use Rattle.uart_line.specs.Received.{received_list}
use Rattle.uart_line.specs.Offered.{kept_list}
use Rattle.legal_runs.specs.Legal.{phase_at, name_at, flip_on, script_on}
use Rattle.legal_runs.specs.Short.{tick_count_in, IsCutShort}
use Rattle.journal_bound.specs.Counts.{written_count, byte_count_on, call_count_on}
use Rattle.journal_bound.proofs.Totals.{total, total_least, total_plus, total_sixteen, total_listed, total_found}
use Rattle.journal_bound.proofs.Names.{names_own, worth_of, worth_once, worth_over, calls_worth, one_each}
use Rattle.journal_bound.proofs.Spent.{cost, spent, IsSound}
use Rattle.journal_bound.proofs.Steps.{own, mark_count, spent_in, extras, leads_uses}
use Rattle.journal_bound.proofs.Ends.{few_marks, hangup_count, few_hangups, ticks_in, phase_ends_in, all_ticks}
use Rattle.uart_line.proofs.Arrivals.{received_few}
use Rattle.journal_bound.proofs.Characters.{script_arrivals, kept_few}

-- ---- a caller

abbrev call_cost : PlainCall → ℕ
call_cost call = cost (Some call)

abbrev script_cost : PlainScript → ℕ
script_cost script = sum_by call_cost script.calls

-- what a caller can spend: its calls, and an end in each phase in which it is
abbrev most_of : ℕ → PlainSession → ℕ → ℕ
most_of p session c =
    worth_of script_cost (scripts_over p session.phases) (name_at p session c)
    + 16 * worth_of one_each (scripts_over p session.phases) (name_at p session c)

caller_spent : (p : ℕ) (session : PlainSession) (c k : ℕ) (s : Standing)
    → IsSound (call_at p session c) (own p session c) k s
    → spent (call_at p session c) (own p session c) k s ≤ most_of p session c
caller_spent p session c k s h =
    let calls : List PlainCall = calls_of (scripts_over p session.phases) (name_at p session c) in
    let paid : total (λ i. cost (call_at p session c i)) (suc s.next) ≤ sum_by call_cost calls =
    total_found cost calls (suc s.next) refl in
    let worth : sum_by call_cost calls ≡ worth_of script_cost (scripts_over p session.phases) (name_at p session c) =
    calls_worth call_cost (scripts_over p session.phases) (name_at p session c) in
    let ends : total (own p session c) (suc k)
    ≤ sum_by (λ phase. worth_of one_each (scripts_on p phase) (name_at p session c)) session.phases =
    total_listed (λ phase. worth_of one_each (scripts_on p phase) (name_at p session c))
    (record { lines = []; ticks = []; callers = [] }) session.phases (suc k) refl in
    let over = worth_over one_each p session.phases (name_at p session c) in
    omega (arith, h.paid, h.waits, h.over, paid, worth, ends, over)

-- ---- all callers

all_spent : (p : ℕ) (session : PlainSession) (n k : ℕ) (stands : ℕ → Standing)
    → ((c : ℕ) → IsSound (call_at p session c) (own p session c) k (stands c))
    → spent_in p session n k stands
    ≤ sum_by script_cost (scripts_over p session.phases) + 16 * sum_by one_each (scripts_over p session.phases)
all_spent p session n k stands sound =
    let scripts : List PlainScript = scripts_over p session.phases in
    let least : spent_in p session n k stands ≤ total (λ c. most_of p session c) n =
    total_least (λ c. spent (call_at p session c) (own p session c) k (stands c)) (λ c. most_of p session c) n
    (λ c. caller_spent p session c k (stands c) (sound c)) in
    let parts : total (λ c. most_of p session c) n
    ≡ total (λ c. worth_of script_cost scripts (name_at p session c)) n
    + total (λ c. 16 * worth_of one_each scripts (name_at p session c)) n =
    total_plus (λ c. worth_of script_cost scripts (name_at p session c))
    (λ c. 16 * worth_of one_each scripts (name_at p session c)) n in
    let sixteen = total_sixteen (λ c. worth_of one_each scripts (name_at p session c)) n in
    let costs : total (λ c. worth_of script_cost scripts (name_at p session c)) n ≤ sum_by script_cost scripts =
    worth_once (names_of scripts) script_cost scripts n (names_own scripts) in
    let ends : total (λ c. worth_of one_each scripts (name_at p session c)) n ≤ sum_by one_each scripts =
    worth_once (names_of scripts) one_each scripts n (names_own scripts) in
    omega (arith, least, parts, sixteen, costs, ends)

calls_cost : (calls : List PlainCall) → sum_by call_cost calls ≡ 31 * sum_by written_count calls + 48 * length calls
calls_cost [] = refl
calls_cost (x ∷ xs) = omega (arith, sum_by-cons call_cost x xs, sum_by-cons written_count x xs, calls_cost xs)

scripts_cost : (scripts : List PlainScript)
    → sum_by script_cost scripts
    ≡ 31 * sum_by (λ script. sum_by written_count script.calls) scripts
    + 48 * sum_by (λ script. length script.calls) scripts
scripts_cost [] = refl
scripts_cost (x ∷ xs) =
    omega (
      arith,
      sum_by-cons script_cost x xs,
      sum_by-cons (λ (script : PlainScript). sum_by written_count script.calls) x xs,
      sum_by-cons (λ (script : PlainScript). length script.calls) x xs,
      calls_cost x.calls,
      scripts_cost xs,
    )

each_one : (scripts : List PlainScript) → sum_by one_each scripts ≡ length scripts
each_one [] = refl
each_one (x ∷ xs) = omega (arith, sum_by-cons one_each x xs, each_one xs)

few_scripts : (p ports : ℕ) (phases : List PlainPhase)
    → All (IsPhaseWithin ports) phases
    → length (scripts_over p phases) ≤ MOST_CALLERS * length phases
few_scripts p ports [] h = omega arith
few_scripts p ports (x ∷ xs) h =
    let here = (All-head (IsPhaseWithin ports) x xs h).few_callers p in
    omega (
      arith,
      here,
      few_scripts p ports xs (All-tail (IsPhaseWithin ports) x xs h),
      length-append (scripts_on p x) (scripts_over p xs),
    )

-- ---- what counts by itself

extras_parts : (es : List PlainEntry) → extras es ≡ 16 * ticks_in es + 32 * length (chars_of es) + 32 * hangup_count es
extras_parts [] = refl
extras_parts (e ∷ es) = omega (arith, extras_parts es, length-append (chars_in e.event) (chars_of es))

few_ticks : (p : ℕ) (session : PlainSession) (es : List PlainEntry)
    → ((k : ℕ) → tick_count_in k 0 es ≤ ticks_on p (phase_at session k))
    → ticks_in es ≤ tick_count p session.phases
few_ticks p session es h =
    let all = all_ticks es 0 (phase_ends_in es + 1) (omega arith) in
    let each =
    total_least (λ k. tick_count_in k 0 es) (λ k. ticks_on p (phase_at session k)) (phase_ends_in es + 1) h in
    let listed : total (λ k. ticks_on p (phase_at session k)) (phase_ends_in es + 1)
    ≤ sum_by (ticks_on p) session.phases =
    total_listed (ticks_on p) (record { lines = []; ticks = []; callers = [] }) session.phases (phase_ends_in es + 1)
    refl in
    omega (arith, all, each, listed)

few_characters : (p : ℕ) (session : PlainSession) (run : PortRun) (chars : List Flagged)
    → IsPrefix chars (kept_list (received_list (script_on p session)) run.line.overruns.items)
    → length chars ≤ character_count p session.phases
few_characters p session run chars h =
    let whole : length (chars ++ h.0)
    ≡ length (kept_list (received_list (script_on p session)) run.line.overruns.items) =
    ap (λ (cs : List Flagged). length cs) h.1 in
    let kept = kept_few 0 (received_list (script_on p session)) run.line.overruns.items in
    let received = received_few (script_on p session) in
    let arrived = script_arrivals p session.phases in
    omega (arith, whole, kept, received, arrived, length-append chars h.0)

-- ---- a journal

first_sound : (calls : ℕ → Option PlainCall) (owned : ℕ → ℕ) → IsSound calls owned 0 at_first
first_sound calls owned = record { paid = omega arith; waits = omega arith; over = omega arith }

opening_sound : (p : ℕ) (session : PlainSession) (n capacity c : ℕ)
    → IsSound (call_at p session c) (own p session c) 0 (standing_of (caller_at (opening n capacity) c))
opening_sound p session n capacity c =
    subst (λ (s : CallerState). IsSound (call_at p session c) (own p session c) 0 (standing_of s)) (sym (all_idle n c))
    (first_sound (call_at p session c) (own p session c))

pub bounded : (p : ℕ) (session : PlainSession) (run : PortRun) (t : Terminal)
    → IsWithinLimits session
    → IsCutShort p session run t
    → 16 * length run.journal.items
    ≤ 31 * byte_count_on p session.phases + 48 * call_count_on p session.phases + 32 * character_count p session.phases
    + 16 * tick_count p session.phases + 19504
bounded p session run t limits h =
    let es : List PlainEntry = run.journal.items in
    let callers : ℕ = sum (counts_on p session) in
    let n : ℕ = length (opening callers (flip_on p session)).callers in
    let ends = leads_uses p session n (opening callers (flip_on p session)) es t h.on_the_way.steps
    h.on_the_way.in_phases (λ c. opening_sound p session callers (flip_on p session) c) refl in
    let spent_all = all_spent p session n t.phase (λ c. standing_of (caller_at t c)) ends.sound in
    let costs = scripts_cost (scripts_over p session.phases) in
    let one = each_one (scripts_over p session.phases) in
    let scripts = few_scripts p session.ports session.phases limits.phases in
    let same_marks : mark_count (marks_of t) ≡ mark_count (marks_in es no_marks) =
    ap mark_count (run_marks (call_at p session) (counts_on p session) (flip_on p session) es t h.on_the_way.steps) in
    let marks = few_marks (length session.phases) no_marks es h.last (λ z. refl) in
    let phases = length-map session.phases (λ (phase : PlainPhase). length (scripts_on p phase)) in
    let hangups = few_hangups (call_at p session) (counts_on p session) (length session.phases)
    (opening callers (flip_on p session)) es t h.on_the_way.steps (omega (arith, phases)) h.last in
    let ticks = few_ticks p session es h.ticks in
    let chars = few_characters p session run (chars_of es) h.chars in
    let few = limits.few_phases in
    omega
    (arith, ends.few, spent_all, costs, one, scripts, same_marks, marks, extras_parts es, hangups, ticks, chars, few)

-- ---- with the limits

filtered_calls : (b : Bool) (x : PlainScript) (xs : List PlainScript)
    → sum_by (λ script. length script.calls) (cond b (x ∷ xs) xs)
    ≤ length x.calls + sum_by (λ script. length script.calls) xs
filtered_calls true x xs = omega (arith, sum_by-cons (λ (script : PlainScript). length script.calls) x xs)
filtered_calls false x xs = omega arith

port_calls : (p : ℕ) (scripts : List PlainScript)
    → sum_by (λ script. length script.calls) (filter (λ s. s.port == p) scripts)
    ≤ sum_by (λ script. length script.calls) scripts
port_calls p [] = omega arith
port_calls p (x ∷ xs) = omega (
  arith,
  filtered_calls (x.port == p) x (filter (λ s. s.port == p) xs),
  port_calls p xs,
  sum_by-cons (λ (script : PlainScript). length script.calls) x xs,
)

pub few_calls : (p : ℕ) (phases : List PlainPhase) → call_count_on p phases ≤ call_count phases
few_calls p [] = omega arith
few_calls p (x ∷ xs) =
    omega (
      arith,
      sum_by-append (λ (script : PlainScript). length script.calls) (scripts_on p x) (scripts_over p xs),
      port_calls p x.callers,
      few_calls p xs,
      sum_by-cons (λ (phase : PlainPhase). sum_by (λ script. length script.calls) phase.callers) x xs,
    )

pub never_full : (p : ℕ) (session : PlainSession) (run : PortRun) (t : Terminal)
    → IsWithinLimits session
    → IsCutShort p session run t
    → 2 * byte_count_on p session.phases + 3 * call_count_on p session.phases
    + 2 * character_count p session.phases ≤ MOST_ENTRIES
    → length run.journal.items < MOST_ENTRIES
never_full p session run t limits h few =
    let most = bounded p session run t limits h in
    let calls = few_calls p session.phases in
    let in_limits = limits.few_calls in
    let characters = limits.few_characters p in
    let ticks = limits.few_ticks p in
    omega (arith, most, calls, in_limits, characters, ticks, few)
