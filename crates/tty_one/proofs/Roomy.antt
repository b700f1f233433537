-- No journal of a session that a text spells is ever full.
use Rattle.std.proofs.Common.{ℕ, ◌+◌, ◌*◌, ◌<◌, ◌≤◌, List, [], ◌∷◌, length, arith}
use Rattle.std.specs.Prelude.{sum_by}
use Rattle.std.proofs.lemmas.List.Sums.{sum_by-cons}
use Rattle.tty_base.specs.Sizes.{MOST_ARRIVALS, MOST_ENTRIES, MOST_STEPS, MOST_TEXT, MOST_TICKS}
use Rattle.tty_calls.specs.declared.journals.PortRun.{PortRun}
use Rattle.tty_calls.specs.Plain.{PlainCall, opens, closes, reads, writes, gets_modes, sets_modes, gets_disc}
use Rattle.tty_calls.specs.Plain.{sets_disc, flushes, steers, counts_input, counts_output, excludes, admits}
use Rattle.tty_calls.specs.Plain.{drains, gets_counts, hangs_up, sends_packet, takes_packet}
use Rattle.tty_calls.specs.Sessions.{PlainScript, PlainSession, scripts_over}
use Rattle.tty_calls.specs.Limits.{IsWithinLimits, byte_count, character_count, tick_count}
use Rattle.session_text.specs.Asked.{asked_of}
use Rattle.session_text.specs.Grammar.{Spells}
use Rattle.session_text.proofs.TextAsks.{text_asks}
use Rattle.session_text.proofs.Within.{spelled_within}
use Rattle.tty_terminal.specs.Terminals.{Terminal}
use Rattle.legal_runs.specs.Short.{IsCutShort}
use Rattle.journal_bound.specs.Counts.{byte_count_on, call_count_on, written_count}
use Rattle.journal_bound.proofs.Bound.{bounded, few_calls, never_full}

-- what is written is handed over
handed : (call : PlainCall) → written_count call ≤ byte_count call
handed (opens h access nonblock) = omega arith
handed (closes h) = omega arith
handed (reads h n) = omega arith
handed (writes h bytes) = omega arith
handed (gets_modes h) = omega arith
handed (sets_modes h when words) = omega arith
handed (gets_disc h) = omega arith
handed (sets_disc h n) = omega arith
handed (flushes h queue) = omega arith
handed (steers h act) = omega arith
handed (counts_input h) = omega arith
handed (counts_output h) = omega arith
handed (excludes h) = omega arith
handed (admits h) = omega arith
handed (drains h) = omega arith
handed (gets_counts h) = omega arith
handed (hangs_up h) = omega arith
handed (sends_packet h bytes) = omega arith
handed (takes_packet h) = omega arith

calls_handed : (calls : List PlainCall) → sum_by written_count calls ≤ sum_by byte_count calls
calls_handed [] = omega arith
calls_handed (call ∷ calls) = omega
    (arith, sum_by-cons written_count call calls, sum_by-cons byte_count call calls, handed call, calls_handed calls)

pub scripts_handed : (scripts : List PlainScript)
    → sum_by (λ script. sum_by written_count script.calls) scripts
    ≤ sum_by (λ script. sum_by byte_count script.calls) scripts
scripts_handed [] = omega arith
scripts_handed (script ∷ scripts) =
    let written = sum_by-cons (λ (s : PlainScript). sum_by written_count s.calls) script scripts in
    let all = sum_by-cons (λ (s : PlainScript). sum_by byte_count s.calls) script scripts in
    omega (arith, written, all, calls_handed script.calls, scripts_handed scripts)

-- a journal's bound, where what is asked of the port is no more than the text is long, but for a letter
few_entries_by : (entries written calls characters ticks long : ℕ)
    → 16 * entries ≤ 31 * written + 48 * calls + 32 * characters + 16 * ticks + 19504
    → 2 * written + 3 * calls + 2 * characters ≤ long + 1
    → long ≤ MOST_TEXT
    → calls ≤ MOST_STEPS
    → characters ≤ MOST_ARRIVALS
    → ticks ≤ MOST_TICKS
    → entries < MOST_ENTRIES
few_entries_by entries written calls characters ticks long bound asked few k c t =
    omega (arith, bound, asked, few, k, c, t)

pub never_full_within : (text : List ℕ) (p : ℕ) (played : PlainSession) (run : PortRun) (t : Terminal)
    → IsWithinLimits played
    → asked_of p played.phases ≤ length text + 1
    → length text ≤ MOST_TEXT
    → IsCutShort p played run t
    → length run.journal.items < MOST_ENTRIES
never_full_within text p played run t limits asks few short =
    let written = scripts_handed (scripts_over p played.phases) in
    few_entries_by (length run.journal.items) (byte_count_on p played.phases) (call_count_on p played.phases)
    (character_count p played.phases) (tick_count p played.phases) (length text) (bounded p played run t limits short)
    (omega (arith, asks, written)) few
    (omega (arith, few_calls p played.phases, limits.few_calls)) (limits.few_characters p) (limits.few_ticks p)

pub never_full_here : (text : List ℕ) (session : PlainSession) (p : ℕ) (run : PortRun) (t : Terminal)
    → Spells text session
    → length text ≤ MOST_TEXT
    → IsCutShort p session run t
    → length run.journal.items < MOST_ENTRIES
never_full_here text session p run t spells few short =
    let asked = text_asks text session p spells in
    let written = scripts_handed (scripts_over p session.phases) in
    never_full p session run t (spelled_within text session spells) short (omega (arith, asked, written, few))
