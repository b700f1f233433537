-- A port's journal from its first entry on.
use Rattle.std.proofs.Common.{◌≡◌, ℕ, ◌+◌, ◌*◌, ◌^◌, ◌<◌, ◌≤◌, Bool, true, false, MatchBool}
use Rattle.std.proofs.Common.{List, [], ◌∷◌, ◌++◌, Option, Some, length, take, drop, get_or}
use Rattle.std.proofs.Common.{slice_get, replicate, sym, ◌∙◌, ap, subst, arith}
use Rattle.std.specs.Prelude.{sum}
use Rattle.std.proofs.lemmas.Bool.{false≢true}
use Rattle.std.proofs.lemmas.List.{get_or-replicate, length-replicate, length-take-le}
use Rattle.std.proofs.lemmas.List.{take-append-drop, take_all, take_more}
use Rattle.std.proofs.lemmas.Option.{get_or_from_slice_get, slice_get_within}
use Rattle.tty_base.specs.Sizes.{NUMBER_END}
use Rattle.tty_calls.specs.declared.journals.Who.{Who}
use Rattle.tty_calls.specs.declared.journals.Who.TheVariants as who
use Rattle.tty_calls.specs.Plain.{PlainCall, PlainEvent, answered, parted, waited, flushed, ticked, line_ended}
use Rattle.tty_calls.specs.Plain.{clock_ended, caller_ended, phase_ended, hung_up, PlainEntry, chars_in}
use Rattle.tty_calls.specs.Sessions.{PlainSession, scripts_over, call_at, counts_on}
use Rattle.tty_terminal.specs.Terminals.{Terminal, opening}
use Rattle.tty_terminal.specs.Outcomes.{Outcome, unknown, waits, takes, gives}
use Rattle.tty_terminal.specs.Calls.{outcome_of}
use Rattle.tty_terminal.specs.Steps.{Drops, IsAllowed, after}
use Rattle.tty_terminal.specs.Terminals.{caller_at}
use Rattle.tty_terminal.specs.Runs.{Leads}
use Rattle.tty_terminal.proofs.StepLaws.{step_does, Within}
use Rattle.tty_terminal.proofs.Runs.{run_bounded, run_capacity, run_within}
use Rattle.tty_terminal.proofs.WaitLaws.{run_part_count}
use Rattle.journal_check.specs.declared.turns.Turn.{Turn}
use Rattle.journal_check.specs.declared.replay.Replay.{Replay}
use Rattle.legal_runs.specs.Legal.{flip_on}
use Rattle.journal_check.specs.Verdicts.{IsFine, AreFineTo, HasNoWrong, IsFirstWrong}
use Rattle.journal_check.specs.WellFormed.{IsWellFormed}
use Rattle.journal_check.specs.Scripts.{no_turn, IsIdle, AreIdle}
use Rattle.journal_check.specs.Replaying.{CanBeJudged, Follows}
use Rattle.journal_check.proofs.AccountLemmas.{next_at}
use Rattle.legal_runs.proofs.NameLemmas.{names_few, length_over, no_calls_yet}
use Rattle.journal_check.proofs.ReplayLemmas.{follows_leads}

-- ---- the first turns

pub first_idle : (p : ℕ) (session : PlainSession) (callers : ℕ) (turns : List Turn)
    → callers ≡ sum (counts_on p session)
    → turns ≡ replicate callers no_turn
    → AreIdle p session 0 turns
first_idle p session callers turns count is =
    subst (AreIdle p session 0) (sym is) (record {
      many = omega (
        arith,
        names_few (scripts_over p session.phases) [],
        length_over p session.phases,
        length-replicate callers no_turn,
      );
      each = λ c within. (let here : get_or (replicate callers no_turn) c no_turn ≡ no_turn = get_or-replicate callers c
          no_turn no_turn (omega (arith, within, length-replicate callers no_turn)) in
          subst (IsIdle p session 0 c) (sym here) (record { begun = omega arith; first = sym (no_calls_yet _) }));
    })

-- ---- how many characters an entry has

drops_few : (t : Terminal) (o : Outcome) (n : ℕ) → t.capacity < 2 ^ 32 → Drops t o n → n < 2 ^ 32
drops_few t unknown n capacity h = omega (arith, h)
drops_few t waits n capacity h = omega (arith, h)
drops_few t (takes taken left) n capacity h = omega (arith, h)
drops_few t (gives answer false left) n capacity h = omega (arith, h)
drops_few t (gives answer true left) n capacity h = omega (arith, h.1, capacity)

chars_few : (f : ℕ → ℕ → Option PlainCall) (counts : List ℕ) (t : Terminal) (who : Who) (step part : ℕ)
    (event : PlainEvent)
    → t.capacity < 2 ^ 32
    → Within t
    → IsAllowed f counts t who step part event
    → length (chars_in event) < 2 ^ 32
chars_few f counts t (who.Caller c) step part (answered a dropped) capacity within h =
    drops_few t (outcome_of t (caller_at t c) (f c step)) (length dropped) capacity h.drops
chars_few f counts t who.Flusher step part (answered a dropped) capacity within h = absurd h
chars_few f counts t who.Line step part (answered a dropped) capacity within h = absurd h
chars_few f counts t who.Clock step part (answered a dropped) capacity within h = absurd h
chars_few f counts t who.Session step part (answered a dropped) capacity within h = absurd h
chars_few f counts t by step part (parted n) capacity within h = omega arith
chars_few f counts t by step part waited capacity within h = omega arith
chars_few f counts t by step part (flushed chars) capacity within h = omega (arith, h.1.few)
chars_few f counts t by step part ticked capacity within h = omega arith
chars_few f counts t by step part (line_ended n) capacity within h = omega arith
chars_few f counts t by step part clock_ended capacity within h = omega arith
chars_few f counts t by step part caller_ended capacity within h = omega arith
chars_few f counts t by step part phase_ended capacity within h = omega arith
chars_few f counts t by step part (hung_up dropped) capacity within h = omega (arith, h.1.all, within, capacity)

taken_few : (f : ℕ → ℕ → Option PlainCall) (counts : List ℕ) (t : Terminal) (es : List PlainEntry) (u : Terminal)
    → Leads f counts t es u
    → t.capacity < 2 ^ 32
    → Within t
    → u.taken ≤ t.taken + 4294967295 * length es
taken_few f counts t [] u h capacity within = omega (arith, ap (λ (v : Terminal). v.taken) h)
taken_few f counts t (e ∷ es) u h capacity within =
    let does = step_does f counts t e h.0 in
    let few = chars_few f counts t e.who e.step e.part e.event capacity within h.0.1 in
    omega (
      arith,
      taken_few f counts (after f t e) es u h.1 (omega (arith, does.capacity, capacity)) (does.within within),
      does.taken,
      few,
    )

-- ---- what a replay needs

pub ready : (p : ℕ) (session : PlainSession) (before : List PlainEntry) (r : Replay)
    → IsWellFormed session
    → length before < NUMBER_END
    → Follows p session before r
    → CanBeJudged p session r
ready p session before r formed few h =
    let f = call_at p session in
    let counts = counts_on p session in
    let t = r.terminal.terminal in
    let leads = follows_leads p session before r h in
    let bounded = run_bounded f counts (flip_on p session) before t leads in
    let capacity = run_capacity f counts (flip_on p session) before t leads in
    let taken = taken_few f counts (opening (sum counts) (flip_on p session)) before t leads h.flip (omega arith) in
    record {
      formed = formed;
      small = record {
        tick = omega (arith, bounded.tick, few);
        generation = omega (arith, bounded.generation, few);
        phase = omega (arith, bounded.phase, few);
        taken = omega (arith, taken, few);
        capacity = omega (arith, capacity, h.flip);
        within = run_within f counts (flip_on p session) before t leads;
        next = λ c. omega (arith, bounded.next c, few);
        parts = λ c. omega (arith, run_part_count f counts (flip_on p session) before t leads c, few);
        column = omega (arith, h.column, few);
      };
      turns = h.turns;
      names = h.names;
      counts = h.counts;
      many = h.many;
    }

-- ---- the loop over the entries

entries_more : (es : List PlainEntry) (i : ℕ) (e : PlainEntry)
    → slice_get es i ≡ Some e
    → take i es ++ e ∷ [] ≡ take (i + 1) es
entries_more es i e at =
    ap (λ (x : PlainEntry). take i es ++ x ∷ []) (sym (get_or_from_slice_get es i e e at))
    ∙ sym (take_more es i e (slice_get_within es i e at))

entries_split : (es : List PlainEntry) (i : ℕ) (e : PlainEntry)
    → slice_get es i ≡ Some e
    → es ≡ take i es ++ e ∷ drop (i + 1) es
entries_split es i e at =
    sym (take-append-drop i es) ∙ ap (λ (xs : List PlainEntry). take i es ++ xs) (next_at es i e at)

pub goes_through : (p : ℕ) (session : PlainSession) (es : List PlainEntry) (i : ℕ) (e : PlainEntry) (r after : Replay)
    (b : Bool)
    → slice_get es i ≡ Some e
    → b ≡ true
    → MatchBool b (IsFine p session (take i es) r.terminal.terminal e × Follows p session (take i es ++ e ∷ []) after)
    (IsFine p session (take i es) r.terminal.terminal e → ⊥)
    → Follows p session (take (i + 1) es) after
goes_through p session es i e r after true at fine h =
    subst (λ (xs : List PlainEntry). Follows p session xs after) (entries_more es i e at) h.1
goes_through p session es i e r after false at fine h = absurd (false≢true fine)

pub is_wrong : (p : ℕ) (session : PlainSession) (es : List PlainEntry) (i : ℕ) (e : PlainEntry) (r after : Replay)
    (b : Bool)
    → slice_get es i ≡ Some e
    → b ≡ false
    → Follows p session (take i es) r
    → MatchBool b (IsFine p session (take i es) r.terminal.terminal e × Follows p session (take i es ++ e ∷ []) after)
    (IsFine p session (take i es) r.terminal.terminal e → ⊥)
    → IsFirstWrong p session es i
is_wrong p session es i e r after true at wrong follows h = absurd (false≢true (sym wrong))
is_wrong p session es i e r after false at wrong follows h = record {
  before = take i es;
  entry = e;
  rest = drop (i + 1) es;
  parts = entries_split es i e at;
  place = length-take-le i es (let lt = slice_get_within es i e at in omega (arith, lt));
  terminal = r.terminal.terminal;
  fine = follows.fine;
  wrong = h;
}

pub none_wrong : (p : ℕ) (session : PlainSession) (es : List PlainEntry) (i : ℕ) (r : Replay)
    → length es ≤ i
    → Follows p session (take i es) r
    → HasNoWrong p session es
none_wrong p session es i r all follows = (
  r.terminal.terminal,
  subst (λ (xs : List PlainEntry). AreFineTo p session xs r.terminal.terminal) (take_all i es all) follows.fine,
)
