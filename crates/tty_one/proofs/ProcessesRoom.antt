-- No journal of a session of processes is ever full, and a session that a text spells can be played.
use Rattle.std.proofs.Common.{◌≡◌, ℕ, ◌<◌, ◌≤◌, Bool, true, false, if◌then◌else◌}
use Rattle.std.proofs.Common.{List, [], ◌∷◌, ◌++◌, Ok, length, refl, sym, ap, subst, arith}
use Rattle.std.specs.Prelude.{All, flat_map}
use Rattle.std.specs.List.{range_with_len}
use Rattle.std.proofs.lemmas.List.Elements.{All-nil, All-cons, All-append}
use Rattle.tty_base.specs.Sizes.{MOST_ENTRIES, MOST_TEXT}
use Rattle.tty_calls.specs.declared.journals.PortRun.{PortRun}
use Rattle.tty_calls.specs.Plain.{PlainEntry}
use Rattle.tty_terminal.specs.Standing.{standing_in, at_first}
use Rattle.tty_terminal.specs.Terminals.{Terminal}
use Rattle.legal_runs.specs.Short.{IsCutShort}
use Rattle.passed_calls.specs.Blocks.{names_on}
use Rattle.passed_calls.specs.Derived.{Passing, passed_phases}
use Rattle.passed_calls.specs.Within.{ArePassedWithin}
use Rattle.passed_calls.proofs.Limits.{within_limits}
use Rattle.job_text.specs.declared.sessions.JobsSession.{JobsSession as KeptSession}
use Rattle.job_text.specs.Events.{JobLog, events_on}
use Rattle.job_text.specs.Reading.{jobs_in}
use Rattle.job_text.specs.Sessions.{JobsSession, bare_session_of, blocks_in, jobs_session_of}
use Rattle.job_text.proofs.Left.{session_within}
use Rattle.job_steps.specs.Derived.{block_phases, job_call_at, passings_on, plain_call}
use Rattle.job_one.specs.Played.{answered_by, begun_by, begun_in, derived_with}
use Rattle.further_asked.specs.Asked.{AskNoMore, AsksWithin, asked_at}
use Rattle.further_asked.specs.Jobs.{asked_phases}
use Rattle.further_asked.proofs.Jobs.{asked_blocks_are, call_within, logged_within, text_asks_all}
use Rattle.further_asked.proofs.Passing.{asks_no_more}
use Rattle.tty_one.specs.Processes.{bare_of, given_to}
use Rattle.tty_one.specs.Works.{CanProcessesBePlayed}
use Rattle.tty_one.proofs.Bared.{kept_bare, within_kept}
use Rattle.tty_one.proofs.Roomy.{never_full_within}
use Rattle.order_laws.specs.Sessions.{journal_on}

-- ---- what the ports have begun asks no more than the calls of their callers

module _ (session : JobsSession) (log : JobLog) (p : ℕ) (journal : List PlainEntry) where
  abbrev Own : Passing → Type 0
  Own m = All (AsksWithin (asked_at p (asked_phases session) m.caller m.step)) m.calls

  begun_if : (b : Bool) (c : ℕ)
      → All Own (if b
      then record {
        caller = c;
        step = answered_by c (events_on p log);
        calls = plain_call (job_call_at p session c (answered_by c (events_on p log)));
      } ∷ []
      else [])
  begun_if true c =
      All-cons Own
      (record {
        caller = c;
        step = answered_by c (events_on p log);
        calls = plain_call (job_call_at p session c (answered_by c (events_on p log)));
      }) []
      (call_within session p c (answered_by c (events_on p log))) (All-nil Own)
  begun_if false c = All-nil Own

  begun_all : (callers : List ℕ)
      → All Own (flat_map (λ c. begun_by session log p c (standing_in c journal at_first)) callers)
  begun_all [] = All-nil Own
  begun_all (c ∷ callers) =
      All-append Own (begun_by session log p c (standing_in c journal at_first))
      (flat_map (λ d. begun_by session log p d (standing_in d journal at_first)) callers)
      (begun_if (standing_in c journal at_first).begun c) (begun_all callers)

  given_within : AskNoMore p (asked_phases session) (passings_on session log p ++ begun_in session log p journal)
  given_within = All-append Own (passings_on session log p) (begun_in session log p journal)
      (logged_within session log p) (begun_all (range_with_len 0 (length (names_on p (blocks_in session)))))

-- ---- a journal

pub processes_never_full : (text : List ℕ) (session : JobsSession) (log : JobLog) (runs : List PortRun) (p : ℕ)
    (run : PortRun) (t : Terminal)
    → jobs_in text ≡ Ok (bare_of session)
    → length text ≤ MOST_TEXT
    → ArePassedWithin (given_to session log runs)
    → IsCutShort p (derived_with session log runs) run t
    → length run.journal.items < MOST_ENTRIES
processes_never_full text session log runs p run t spells few within short =
    let played = derived_with session log runs in
    let of_text = session_within text (bare_of session) spells in
    let limits = within_limits (block_phases session) (given_to session log runs) played refl of_text.blocks within in
    let same = ap (passed_phases (given_to session log runs)) (sym (asked_blocks_are session.phases)) in
    let asks = asks_no_more (asked_phases session) (given_to session log runs) played p same within
    (given_within session log p (journal_on runs p)) in
    never_full_within text p played run t limits
    (omega (arith, asks, text_asks_all text (bare_of session) p spells)) few short

-- ---- a session that is kept

pub spelled_kept : (text : List ℕ) (s : KeptSession)
    → jobs_in text ≡ Ok (bare_session_of s)
    → jobs_in text ≡ Ok (bare_of (jobs_session_of s))
spelled_kept text s spells = subst (λ (session : JobsSession). jobs_in text ≡ Ok session) (kept_bare s) spells

pub can_processes_be_played : (text : List ℕ) (s : KeptSession)
    → jobs_in text ≡ Ok (bare_session_of s)
    → length text ≤ MOST_TEXT
    → CanProcessesBePlayed (jobs_session_of s)
can_processes_be_played text s spells few =
    let spelled = spelled_kept text s spells in
    record {
      within = within_kept (jobs_session_of s) (session_within text (bare_of (jobs_session_of s)) spelled);
      never_full = λ log runs within p run t short.
          processes_never_full text (jobs_session_of s) log runs p run t spelled few within short;
    }
