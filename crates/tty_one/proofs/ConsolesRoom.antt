-- No journal of a console is ever full, and a session of consoles that a text spells can be played.
use Rattle.std.proofs.Common.{◌≡◌, ℕ, ◌+◌, ◌*◌, ◌<◌, ◌≤◌, List, length, ap, subst, arith}
use Rattle.std.specs.Prelude.{sum_by}
use Rattle.tty_base.specs.Sizes.{MOST_ARRIVALS, MOST_ENTRIES, MOST_STEPS, MOST_TEXT, MOST_TICKS}
use Rattle.tty_calls.specs.declared.journals.PortRun.{PortRun}
use Rattle.tty_calls.specs.Limits.{byte_count, character_count, tick_count}
use Rattle.tty_calls.specs.Sessions.{PlainScript, scripts_over}
use Rattle.tty_terminal.specs.Terminals.{Terminal}
use Rattle.legal_runs.specs.Short.{IsCutShort}
use Rattle.journal_bound.specs.Counts.{byte_count_on, call_count_on}
use Rattle.journal_bound.proofs.Bound.{bounded, few_calls}
use Rattle.vt_consoles.specs.declared.entries.VtEntry.{VtEntry}
use Rattle.vt_text.specs.Sessions.{PlainVtSession}
use Rattle.vt_text.proofs.Limits.{read_within, read_asks}
use Rattle.vt_account.specs.Keyed.{consoles_in, keyed}
use Rattle.vt_account.proofs.Limits.{few_characters, keyed_within}
use Rattle.vt_account.proofs.ReadSessions.{all_counted, within_keys, few_entries}
use Rattle.tty_one.specs.Consoles.{SpellsConsoles}
use Rattle.tty_one.specs.Works.{CanBePlayed}
use Rattle.vt_report.proofs.Played.{same_scripts}
use Rattle.tty_one.proofs.Roomy.{scripts_handed}

-- A journal's bound, where what is asked of the console is no more than the text is long, but for two letters.
few_entries_by : (entries written calls characters ticks long : ℕ)
    → 16 * entries ≤ 31 * written + 48 * calls + 32 * characters + 16 * ticks + 19504
    → 2 * written + 3 * calls + 2 * characters ≤ long + 2
    → long ≤ MOST_TEXT
    → calls ≤ MOST_STEPS
    → characters ≤ MOST_ARRIVALS
    → ticks ≤ MOST_TICKS
    → entries < MOST_ENTRIES
few_entries_by entries written calls characters ticks long bound asked few k c t =
    omega (arith, bound, asked, few, k, c, t)

pub console_never_full : (text : List ℕ) (session : PlainVtSession) (entries : List VtEntry) (p : ℕ) (run : PortRun)
    (t : Terminal)
    → SpellsConsoles text session
    → length text ≤ MOST_TEXT
    → IsCutShort p (keyed session entries) run t
    → length run.journal.items < MOST_ENTRIES
console_never_full text session entries p run t spells few short =
    let keys = within_keys session (read_within text session spells) in
    let within = keyed_within session entries keys in
    let phases = (keyed session entries).phases in
    let scripts : scripts_over p phases ≡ scripts_over p session.calls.phases =
    same_scripts p session.calls.ports (consoles_in entries) session.phases session.calls.phases keys.whole in
    let handed : byte_count_on p phases
    ≤ sum_by (λ script. sum_by byte_count script.calls) (scripts_over p session.calls.phases) =
    subst (λ (ss : List PlainScript). byte_count_on p phases ≤ sum_by (λ script. sum_by byte_count script.calls) ss)
    scripts (scripts_handed (scripts_over p phases)) in
    let calls : call_count_on p phases ≡ sum_by (λ script. length script.calls) (scripts_over p session.calls.phases) =
    ap (λ (ss : List PlainScript). sum_by (λ script. length script.calls) ss) scripts in
    let characters =
    few_characters p session.calls.ports (consoles_in entries) session.phases session.calls.phases keys.whole in
    few_entries_by (length run.journal.items) (byte_count_on p phases) (call_count_on p phases)
    (character_count p phases) (tick_count p phases) (length text)
    (bounded p (keyed session entries) run t within short)
    (omega (arith, read_asks text session p spells, handed, calls, characters, all_counted session.phases)) few
    (omega (arith, few_calls p phases, within.few_calls)) (within.few_characters p) (within.few_ticks p)

pub can_be_played : (text : List ℕ) (session : PlainVtSession)
    → SpellsConsoles text session
    → length text ≤ MOST_TEXT
    → CanBePlayed session
can_be_played text session spells few =
    let within = read_within text session spells in
    record {
      within = within_keys session within;
      room = omega (arith, few_entries session within);
      never_full = λ entries p run t short. console_never_full text session entries p run t spells few short;
    }
