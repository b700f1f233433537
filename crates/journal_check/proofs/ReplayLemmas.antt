-- What a replay knows, entry by entry.
use Rattle.std.proofs.Common.{◌≡◌, ℕ, ◌+◌, ◌<◌, ◌≤◌, Bool, true, false, List, [], ◌∷◌, ◌++◌, Option, is_some}
use Rattle.std.proofs.Common.{length, refl, sym, ◌∙◌, ap, subst, arith, append_assoc, append-nil, length-append}
use Rattle.std.specs.Prelude.{sum}
use Rattle.std.proofs.lemmas.Bool.{false≢true, eqb-true, eq-eqb}
use Rattle.tty_base.specs.Sizes.{COLUMNS_OF_ENTRY, NUMBER_END}
use Rattle.tty_calls.specs.declared.journals.Who.{Who}
use Rattle.tty_calls.specs.declared.journals.Who.TheVariants.{Caller, Flusher, Line, Clock, Session}
use Rattle.tty_calls.specs.Plain.{PlainCall, PlainEvent, answered, parted, waited, flushed, ticked, line_ended}
use Rattle.tty_calls.specs.Plain.{clock_ended, caller_ended, phase_ended, hung_up, PlainEntry, is_caller}
use Rattle.tty_calls.specs.Sessions.{PlainSession, call_at, counts_on}
use Rattle.ldisc_switch.specs.Disciplines.{column_in}
use Rattle.tty_terminal.specs.Terminals.{Terminal, opening, caller_at}
use Rattle.tty_terminal.specs.Steps.{IsAllowed, after_event, Allowed, after}
use Rattle.tty_terminal.specs.Runs.{Leads, is_flush, is_of_call, OneGeneration, GoesOnInGeneration, phase_after}
use Rattle.tty_terminal.proofs.StepLaws.{step_does}
use Rattle.tty_terminal.proofs.OneRun.{one_more}
use Rattle.journal_check.specs.declared.turns.Turn.{Turn}
use Rattle.journal_check.specs.declared.replay.Replay.{Replay}
use Rattle.legal_runs.specs.Legal.{flip_on, is_phase_end, IsInPhase}
use Rattle.journal_check.specs.Trying.{Tries}
use Rattle.journal_check.specs.Verdicts.{IsFine, AreFine, AreFineTo, opening_of}
use Rattle.journal_check.specs.Scripts.{AreTurns, AreIdle}
use Rattle.journal_check.specs.Replaying.{IsLatestRunOf, CallStays, Stays, latest_after, Follows}
use Rattle.legal_runs.proofs.PhaseLemmas.{phase-after}
use Rattle.journal_check.proofs.FineLemmas.{Leads-from_fine}
use Rattle.journal_check.proofs.TurnLemmas.{turns_idle}
use Rattle.journal_check.proofs.GenerationLemmas.{run_has, flush_stays, run_after, call_stays}
use Rattle.legal_runs.proofs.EventLemmas.{phase_same}

-- ---- fine entries, one more

fine_more : (p : ℕ) (session : PlainSession) (before : List PlainEntry) (t : Terminal) (es : List PlainEntry)
    (u : Terminal) (e : PlainEntry)
    → AreFine p session before t es u
    → IsFine p session (before ++ es) u e
    → AreFine p session before t (es ++ e ∷ []) (after (call_at p session) u e)
fine_more p session before t [] u e fine one =
    let here : IsFine p session before t e =
    subst (λ (v : Terminal). IsFine p session before v e) fine
    (subst (λ (xs : List PlainEntry). IsFine p session xs u e) (append-nil before) one) in
    (here, ap (λ (v : Terminal). after (call_at p session) v e) fine)
fine_more p session before t (x ∷ es) u e fine one = (
  fine.0,
  fine_more p session (before ++ x ∷ []) (after (call_at p session) t x) es u e fine.1
      (subst (λ (xs : List PlainEntry). IsFine p session xs u e) (sym (append_assoc before (x ∷ []) es)) one),
)

-- ---- generations

caller_stays : (f : ℕ → ℕ → Option PlainCall) (counts : List ℕ) (callers capacity : ℕ) (es : List PlainEntry)
    (u : Terminal) (e : PlainEntry) (who : Who)
    → e.who ≡ who
    → Leads f counts (opening callers capacity) es u
    → OneGeneration (es ++ e ∷ [])
    → is_of_call e.event ≡ true
    → ((c : ℕ) → who ≡ Caller c → e.step ≡ (caller_at u c).next)
    → CallStays u who e.generation
caller_stays f counts callers capacity es u e (Caller c) by leads one of at = λ parts waits.
    call_stays f counts callers capacity es u e c leads one (record {
      of_call = of;
      by_caller = ap (λ (w : Who). is_caller w c) by ∙ eq-eqb c c refl;
      at_step = at c refl;
      parts = parts;
      waits = waits;
    })
caller_stays f counts callers capacity es u e Flusher by leads one of at = tt
caller_stays f counts callers capacity es u e Line by leads one of at = tt
caller_stays f counts callers capacity es u e Clock by leads one of at = tt
caller_stays f counts callers capacity es u e Session by leads one of at = tt

at_next : (f : ℕ → ℕ → Option PlainCall) (counts : List ℕ) (t : Terminal) (who : Who) (step part : ℕ)
    (event : PlainEvent) (c : ℕ)
    → IsAllowed f counts t who step part event
    → is_of_call event ≡ true
    → who ≡ Caller c
    → step ≡ (caller_at t c).next
at_next f counts t who step part (answered a dropped) c h of by =
    (subst (λ (w : Who). IsAllowed f counts t w step part (answered a dropped)) by h).next.at_step
at_next f counts t who step part (parted n) c h of by =
    (subst (λ (w : Who). IsAllowed f counts t w step part (parted n)) by h).next.at_step
at_next f counts t who step part waited c h of by =
    (subst (λ (w : Who). IsAllowed f counts t w step part waited) by h).next.at_step
at_next f counts t who step part (flushed chars) c h of by = absurd (false≢true of)
at_next f counts t who step part ticked c h of by = absurd (false≢true of)
at_next f counts t who step part (line_ended n) c h of by = absurd (false≢true of)
at_next f counts t who step part clock_ended c h of by = absurd (false≢true of)
at_next f counts t who step part caller_ended c h of by = absurd (false≢true of)
at_next f counts t who step part phase_ended c h of by = absurd (false≢true of)
at_next f counts t who step part (hung_up dropped) c h of by = absurd (false≢true of)

-- what of an event stays in its generation
stays_by : (u : Terminal) (latest : ℕ) (who : Who) (part generation : ℕ) (event : PlainEvent)
    → (is_of_call event ≡ true → CallStays u who generation)
    → (is_flush event ≡ true → 0 < part → latest ≡ generation)
    → Stays u latest who part generation event
stays_by u latest who part generation (answered a dropped) calls flushes = calls refl
stays_by u latest who part generation (parted n) calls flushes = calls refl
stays_by u latest who part generation waited calls flushes = calls refl
stays_by u latest who part generation (flushed chars) calls flushes = flushes refl
stays_by u latest who part generation ticked calls flushes = tt
stays_by u latest who part generation (line_ended n) calls flushes = tt
stays_by u latest who part generation clock_ended calls flushes = tt
stays_by u latest who part generation caller_ended calls flushes = tt
stays_by u latest who part generation phase_ended calls flushes = tt
stays_by u latest who part generation (hung_up dropped) calls flushes = tt

call_of_stays : (u : Terminal) (latest : ℕ) (who : Who) (part generation : ℕ) (event : PlainEvent)
    → Stays u latest who part generation event
    → is_of_call event ≡ true
    → CallStays u who generation
call_of_stays u latest who part generation (answered a dropped) h of = h
call_of_stays u latest who part generation (parted n) h of = h
call_of_stays u latest who part generation waited h of = h
call_of_stays u latest who part generation (flushed chars) h of = absurd (false≢true of)
call_of_stays u latest who part generation ticked h of = absurd (false≢true of)
call_of_stays u latest who part generation (line_ended n) h of = absurd (false≢true of)
call_of_stays u latest who part generation clock_ended h of = absurd (false≢true of)
call_of_stays u latest who part generation caller_ended h of = absurd (false≢true of)
call_of_stays u latest who part generation phase_ended h of = absurd (false≢true of)
call_of_stays u latest who part generation (hung_up dropped) h of = absurd (false≢true of)

flush_of_stays : (u : Terminal) (latest : ℕ) (who : Who) (part generation : ℕ) (event : PlainEvent)
    → Stays u latest who part generation event
    → is_flush event ≡ true
    → 0 < part
    → latest ≡ generation
flush_of_stays u latest who part generation (answered a dropped) h is = absurd (false≢true is)
flush_of_stays u latest who part generation (parted n) h is = absurd (false≢true is)
flush_of_stays u latest who part generation waited h is = absurd (false≢true is)
flush_of_stays u latest who part generation (flushed chars) h is = h
flush_of_stays u latest who part generation ticked h is = absurd (false≢true is)
flush_of_stays u latest who part generation (line_ended n) h is = absurd (false≢true is)
flush_of_stays u latest who part generation clock_ended h is = absurd (false≢true is)
flush_of_stays u latest who part generation caller_ended h is = absurd (false≢true is)
flush_of_stays u latest who part generation phase_ended h is = absurd (false≢true is)
flush_of_stays u latest who part generation (hung_up dropped) h is = absurd (false≢true is)

caller_goes : (u : Terminal) (who : Who) (generation c : ℕ)
    → CallStays u who generation
    → is_caller who c ≡ true
    → 0 < (caller_at u c).parts
    → is_some (caller_at u c).waits ≡ false
    → (caller_at u c).generation ≡ generation
caller_goes u (Caller d) generation c h is parts waits =
    subst (λ (x : ℕ).
    0 < (caller_at u x).parts → is_some (caller_at u x).waits ≡ false → (caller_at u x).generation ≡ generation)
    (eqb-true d c is) h parts waits
caller_goes u Flusher generation c h is parts waits = absurd (false≢true is)
caller_goes u Line generation c h is parts waits = absurd (false≢true is)
caller_goes u Clock generation c h is parts waits = absurd (false≢true is)
caller_goes u Session generation c h is parts waits = absurd (false≢true is)

-- the entries so far lead from the opening terminal
pub follows_leads : (p : ℕ) (session : PlainSession) (before : List PlainEntry) (r : Replay)
    → Follows p session before r
    → Leads (call_at p session) (counts_on p session) (opening_of p session) before r.terminal.terminal
follows_leads p session before r h =
    Leads-from_fine p session [] (opening_of p session) before r.terminal.terminal h.fine

-- an entry that is fine stays in its generation
pub stays_if_fine : (p : ℕ) (session : PlainSession) (before : List PlainEntry) (r : Replay) (e : PlainEntry)
    → Follows p session before r
    → IsFine p session before r.terminal.terminal e
    → Stays r.terminal.terminal r.latest e.who e.part e.generation e.event
stays_if_fine p session before r e h fine =
    let f = call_at p session in
    let counts = counts_on p session in
    let t = r.terminal.terminal in
    let leads = follows_leads p session before r h in
    stays_by t r.latest e.who e.part e.generation e.event
    (λ of. caller_stays f counts (sum counts) (flip_on p session) before t e e.who refl leads fine.one of
    (λ c by. at_next f counts t e.who e.step e.part e.event c fine.step.1 of by))
    (λ is some. flush_stays f counts before t r.latest e h.run fine.step is fine.one some)

-- ---- one more entry

pub phase_more : (f : ℕ → ℕ → Option PlainCall) (t : Terminal) (who : Who) (step part : ℕ) (event : PlainEvent)
    → is_phase_end event ≡ true
    → (after_event f t who step part event).phase ≡ t.phase + 1
phase_more f t who step part (answered a dropped) is = absurd (false≢true is)
phase_more f t who step part (parted n) is = absurd (false≢true is)
phase_more f t who step part waited is = absurd (false≢true is)
phase_more f t who step part (flushed chars) is = absurd (false≢true is)
phase_more f t who step part ticked is = absurd (false≢true is)
phase_more f t who step part (line_ended n) is = absurd (false≢true is)
phase_more f t who step part clock_ended is = absurd (false≢true is)
phase_more f t who step part caller_ended is = absurd (false≢true is)
phase_more f t who step part phase_ended is = refl
phase_more f t who step part (hung_up dropped) is = absurd (false≢true is)

phase_little : (event : PlainEvent) (phase : ℕ) → phase_after event phase ≤ phase + 1
phase_little (answered a dropped) phase = omega arith
phase_little (parted n) phase = omega arith
phase_little waited phase = omega arith
phase_little (flushed chars) phase = omega arith
phase_little ticked phase = omega arith
phase_little (line_ended n) phase = omega arith
phase_little clock_ended phase = omega arith
phase_little caller_ended phase = omega arith
phase_little phase_ended phase = omega arith
phase_little (hung_up dropped) phase = omega arith

-- an entry is at most the end of a phase
pub next_small : (f : ℕ → ℕ → Option PlainCall) (counts : List ℕ) (t u : Terminal) (e : PlainEntry)
    → Allowed f counts t e
    → u ≡ after f t e
    → t.phase < NUMBER_END
    → u.phase ≤ NUMBER_END
next_small f counts t u e allowed is small =
    omega
    (arith, ap (λ (v : Terminal). v.phase) is, phase-after f counts t e allowed, phase_little e.event t.phase, small)

-- after the end of a phase the turns are those before the next
pub next_idle : (p : ℕ) (session : PlainSession) (f : ℕ → ℕ → Option PlainCall) (t u : Terminal) (turns : List Turn)
    (who : Who) (step part : ℕ) (event : PlainEvent)
    → AreTurns p session t.phase turns
    → u ≡ after_event f t who step part event
    → is_phase_end event ≡ true
    → AreIdle p session u.phase turns
next_idle p session f t u turns who step part event are now is =
    subst (λ (k : ℕ). AreIdle p session k turns)
    (sym (ap (λ (v : Terminal). v.phase) now ∙ phase_more f t who step part event is))
    (turns_idle p session t.phase turns are)

-- what the tests of an entry found, and what was made of the replay
pub record GoesBy (p : ℕ) (session : PlainSession) (r after : Replay) (e : PlainEntry) : Type 0 where
  pub generation : e.generation ≡ r.terminal.terminal.generation
  pub in_phase : IsInPhase p session r.terminal.terminal.phase e.who e.step e.event
  pub stays : Stays r.terminal.terminal r.latest e.who e.part e.generation e.event
  pub allowed : IsAllowed (call_at p session) (counts_on p session) r.terminal.terminal e.who e.step e.part e.event
  pub terminal : after.terminal.terminal
      ≡ after_event (call_at p session) r.terminal.terminal e.who e.step e.part e.event
  pub column : column_in after.terminal.terminal.disc ≤ column_in r.terminal.terminal.disc + COLUMNS_OF_ENTRY
  pub latest : after.latest ≡ latest_after e.event e.generation r.latest
  pub names : after.names ≡ r.names
  pub counts : after.counts.items ≡ r.counts.items
  pub many : length after.turns.items ≡ length r.turns.items
  pub begins : is_phase_end e.event ≡ true → AreTurns p session after.terminal.terminal.phase after.turns.items
  pub same : is_phase_end e.event ≡ false → after.turns.items ≡ r.turns.items

turns_after : (p : ℕ) (session : PlainSession) (before : List PlainEntry) (r after : Replay) (e : PlainEntry) (b : Bool)
    → Follows p session before r
    → GoesBy p session r after e
    → is_phase_end e.event ≡ b
    → AreTurns p session after.terminal.terminal.phase after.turns.items
turns_after p session before r after e true h by is = by.begins is
turns_after p session before r after e false h by is =
    let phase : after.terminal.terminal.phase ≡ r.terminal.terminal.phase =
    ap (λ (v : Terminal). v.phase) by.terminal
    ∙ phase-after (call_at p session) (counts_on p session) r.terminal.terminal e (by.generation, by.allowed)
    ∙ phase_same e.event r.terminal.terminal.phase is in
    subst (λ (k : ℕ). AreTurns p session k after.turns.items) (sym phase)
    (subst (AreTurns p session r.terminal.terminal.phase) (sym (by.same is)) h.turns)

pub goes_on : (p : ℕ) (session : PlainSession) (before : List PlainEntry) (r after : Replay) (e : PlainEntry)
    → Follows p session before r
    → GoesBy p session r after e
    → IsFine p session before r.terminal.terminal e × Follows p session (before ++ e ∷ []) after
goes_on p session before r now e h by =
    let f = call_at p session in
    let counts = counts_on p session in
    let t = r.terminal.terminal in
    let leads = follows_leads p session before r h in
    let allowed : Allowed f counts t e = (by.generation, by.allowed) in
    let goes : GoesOnInGeneration t e = λ c of is parts waits. caller_goes t e.who e.generation c
    (call_of_stays t r.latest e.who e.part e.generation e.event by.stays of) is parts waits in
    let flushes : is_flush e.event ≡ true → 0 < e.part → r.latest ≡ e.generation =
    flush_of_stays t r.latest e.who e.part e.generation e.event by.stays in
    let one : OneGeneration (before ++ e ∷ []) =
    one_more f counts (flip_on p session) before t e leads h.one allowed goes
    (λ is some. run_has f counts (opening_of p session) before t r.latest e leads h.run allowed is (flushes is)) in
    let fine : IsFine p session before t e = record { step = allowed; one = one; in_phase = by.in_phase } in
    let does = step_does f counts t e allowed in (
      fine,
      record {
        fine = subst (AreFineTo p session (before ++ e ∷ [])) (sym by.terminal)
            (fine_more p session [] (opening_of p session) before t e h.fine fine);
        one = one;
        run = subst (λ (g : ℕ). IsLatestRunOf (before ++ e ∷ []) now.terminal.terminal.flushed g) (sym by.latest)
            (subst (λ (v : Terminal). IsLatestRunOf (before ++ e ∷ []) v.flushed
            (latest_after e.event e.generation r.latest))
            (sym by.terminal)
            (run_after f counts (opening_of p session) before t r.latest e leads h.run allowed flushes));
        turns = turns_after p session before r now e (is_phase_end e.event) h by refl;
        names = by.names ∙ h.names;
        counts = by.counts ∙ h.counts;
        many = omega (arith, by.many, h.many, does.callers, ap (λ (v : Terminal). length v.callers) by.terminal);
        column = omega (arith, by.column, h.column, length-append before (e ∷ []));
        flip = h.flip;
      },
    )

pub tries_true : (P : Type 0) (there u : Terminal) (b : Bool) → Tries P there u b → b ≡ true → P × (u ≡ there)
tries_true P there u true h is = h
tries_true P there u false h is = absurd (false≢true is)
