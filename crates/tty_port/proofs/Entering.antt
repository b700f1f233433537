-- What the turns of line, clock, callers and flusher add to a history.
use Rattle.std.proofs.Common.{◌≡◌, inl, inr, ℕ, ◌+◌, ◌<◌, ◌≤◌, zero, suc, List, [], ◌∷◌, ◌++◌, Bool, true}
use Rattle.std.proofs.Common.{false, IsTrue, not, ◌&&◌, ◌||◌, ◌==◌, ◌-◌, min, MatchBool, if◌then◌else◌, Option, None}
use Rattle.std.proofs.Common.{Some, length, sum, refl, sym, ◌∙◌, ap, subst, arith, append-nil, length-append}
use Rattle.std.proofs.lemmas.Bool.{and_parts, or_cases, eqb-true, eq-eqb, false≢true}
use Rattle.tty_base.specs.Sizes.{PIECE}
use Rattle.tty_base.specs.declared.characters.Flagged.{Flagged}
use Rattle.word_ring.specs.Ends.{TakerState, PutterState}
use Rattle.tty_calls.specs.declared.journals.Who.{Who}
use Rattle.tty_calls.specs.declared.journals.Who.TheVariants.{Line, Clock}
use Rattle.tty_calls.specs.Plain.{PlainEvent, flushed, ticked}
use Rattle.tty_calls.specs.Plain.{line_ended, clock_ended, PlainEntry}
use Rattle.tty_terminal.specs.declared.callers.Piece.{Piece}
use Rattle.tty_terminal.specs.Terminals.{Terminal, opening, live_count}
use Rattle.tty_terminal.specs.Receiving.{accepts}
use Rattle.tty_terminal.specs.Steps.{follows, after}
use Rattle.tty_terminal.specs.Runs.{RunHas, chars_of}
use Rattle.tty_terminal.specs.Standing.{Standing}
use Rattle.tty_terminal.specs.Marks.{Marks}
use Rattle.tty_terminal.proofs.StepLaws.{runs_of, taken_after, sent_after}
use Rattle.tty_terminal.proofs.BeginLaws.{step_generation}
use Rattle.port_core.specs.Ports.{PortValue, IsPort, call_in, with_entry, Appends}
use Rattle.port_core.specs.Ports.{is_stuck, phase_entry, end_entry, flush_entry}
use Rattle.port_core.specs.Flips.{MeetsTaker}
use Rattle.port_core.specs.Phases as phases
use Rattle.port_core.specs.Flushes.{IsPieceOf, Takes, LooksAtNone, TakesNone}
use Rattle.port_core.specs.declared.ports.flushing.Flushed.TheVariants as outcome
use Rattle.port_cell.specs.declared.kept.Stamped.{Stamped}
use Rattle.port_cell.specs.Entries.{generation_of}
use Rattle.port_cell.proofs.Histories.{generation_of-push}
use Rattle.tty_port.specs.Inside.{Name, EntryWithCall}
use Rattle.tty_port.specs.Histories.{stamped_entry, history_in, name_in}
use Rattle.tty_port.specs.Seen.{entries_in, marks_at, chars_at, terminal_at}
use Rattle.tty_port.specs.Adding.{Adds, IsEntry}
use Rattle.tty_port.specs.Flushing.{IsPiece, IsCaughtUp, IsWholePiece, GoesOnAt, HasNothingLeft, FlushesPiece}
use Rattle.tty_port.specs.Lines.{MeetsFlip, EndsLine}
use Rattle.tty_port.specs.PhaseEvents.{CanFollow, CanHappen, IsEventEntry, entry_of_event}
use Rattle.tty_port.specs.declared.phase_events.PhaseEvent.{PhaseEvent}
use Rattle.tty_port.specs.declared.phase_events.PhaseEvent.TheVariants.{Tick, ClockEnd, CallerEnd}
use Rattle.tty_port.proofs.Histories.{history_entries, history_length, history_adds, port_generation, port_terminal}
use Rattle.tty_port.proofs.Histories.{port_stands, port_marks, marks_append, entries_append, none_begun}
use Rattle.tty_port.proofs.Keeping.{run_append}

-- the entry that a port made is the last of its history
abbrev last_of : ℕ → PortValue → PlainEntry → Stamped EntryWithCall
last_of m v e = stamped_entry m (call_in v.kept) e (after (call_in v.kept) v.terminal e).generation

appends : (m : ℕ) (old new : PortValue) (flip : TakerState Flagged) (e : PlainEntry)
    → IsPort old
    → Appends old new flip e
    → history_in m new ≡ history_in m old ++ last_of m old e ∷ []
appends m old new flip e p h =
    ap (history_in m) h.appended
    ∙ history_adds m old (record (with_entry old e) { flip = flip }) e p (λ c s call k. k) h.allowed.0 refl

-- it leaves the generation
appends_same : (m : ℕ) (old new : PortValue) (flip : TakerState Flagged) (e : PlainEntry)
    → IsPort old
    → Appends old new flip e
    → (after (call_in old.kept) old.terminal e).generation ≡ old.terminal.generation
    → generation_of (history_in m new) ≡ generation_of (history_in m old)
appends_same m old new flip e p h same =
    ap generation_of (appends m old new flip e p h)
    ∙ generation_of-push (history_in m old) (last_of m old e)
    ∙ same
    ∙ sym (port_generation m old p)

adds : (m : ℕ) (old new : PortValue) (flip : TakerState Flagged) (e : PlainEntry) (P : Stamped EntryWithCall → Type 0)
    → IsPort old
    → Appends old new flip e
    → P (last_of m old e)
    → Adds P (history_in m old) (history_in m new)
adds m old new flip e P p h is =
    record {
      entry = last_of m old e;
      added = appends m old new flip e p h;
      generation = h.allowed.0 ∙ sym (port_generation m old p);
      is = is;
    }

-- an entry of the phase that is of no call
pub enters : (m : ℕ) (old new : PortValue) (n : ℕ) (who : Who) (event : PlainEvent)
    → IsPort old
    → Appends old new old.flip (phase_entry old who event)
    → IsEntry n who old.terminal.phase event (last_of m old (phase_entry old who event))
    → Adds (IsEntry n who (marks_at (history_in m old)).phase event) (history_in m old) (history_in m new)
enters m old new n who event p h is =
    adds m old new old.flip (phase_entry old who event) _ p h
    (subst (λ (k : ℕ). IsEntry n who k event (last_of m old (phase_entry old who event)))
    (ap (λ (k : Marks). k.phase) (port_marks m old p)) is)

-- the entry of an event of the phase
pub event_enters : (m : ℕ) (old new : PortValue) (event : PhaseEvent)
    → IsPort old
    → Appends old new old.flip (entry_of_event old event)
    → Adds (IsEventEntry m event (history_in m old) (history_in m old)) (history_in m old) (history_in m new)
event_enters m old new Tick p h = enters m old new (m + 2) Clock ticked p h
    (record { seat = refl; who = refl; at_step = refl; at_part = refl; happened = refl; keeps = refl })
event_enters m old new ClockEnd p h = enters m old new (m + 2) Clock clock_ended p h
    (record { seat = refl; who = refl; at_step = refl; at_part = refl; happened = refl; keeps = refl })
event_enters m old new (CallerEnd c) p h =
    adds m old new old.flip (end_entry old c) _ p h
    (record {
      seat = refl;
      who = refl;
      at_step = ap (λ (s : Standing). s.next) (port_stands m old p c);
      at_part = refl;
      happened = refl;
      keeps = refl;
    })

pub event_leaves : (m : ℕ) (old new : PortValue) (event : PhaseEvent)
    → IsPort old
    → Appends old new old.flip (entry_of_event old event)
    → generation_of (history_in m new) ≡ generation_of (history_in m old)
event_leaves m old new Tick p h = appends_same m old new old.flip (phase_entry old Clock ticked) p h refl
event_leaves m old new ClockEnd p h = appends_same m old new old.flip (phase_entry old Clock clock_ended) p h refl
event_leaves m old new (CallerEnd c) p h = appends_same m old new old.flip (end_entry old c) p h refl

-- what can follow on the history of a port can happen at it
pub event_can_happen : (m : ℕ) (v : PortValue) (event : PhaseEvent)
    → IsPort v
    → CanFollow (sum v.counts) event (history_in m v)
    → CanHappen event v
event_can_happen m v Tick p h = ap (λ (k : Marks). k.clock_over) (port_marks m v p) ∙ h
event_can_happen m v ClockEnd p h = ap (λ (k : Marks). k.clock_over) (port_marks m v p) ∙ h
event_can_happen m v (CallerEnd c) p h = (
  h.0,
  ap (λ (s : Standing). s.over) (port_stands m v p c) ∙ h.1.not_over,
  ap (λ (s : Standing). s.begun) (port_stands m v p c) ∙ h.1.not_begun,
)

-- the line of a shared port knows where it stands
pub line_open : (m : ℕ) (v : PortValue)
    → IsPort v
    → (marks_at (history_in m v)).line_over ≡ false
    → v.terminal.line_over ≡ false
line_open m v p h = ap (λ (k : Marks). k.line_over) (port_marks m v p) ∙ h

pub line_sent : (m n : ℕ) (v : PortValue) → IsPort v → (marks_at (history_in m v)).sent ≤ n → v.terminal.sent ≤ n
line_sent m n v p h = subst (λ (k : ℕ). k ≤ n) (sym (ap (λ (k : Marks). k.sent) (port_marks m v p))) h

-- ---- the end of a line

meets : (taken : List Flagged) (flip : TakerState Flagged) (p q : PutterState Flagged)
    → flip.taken ≡ taken
    → MeetsTaker flip p q
    → MeetsFlip taken p q
meets taken flip p q same h =
    subst (λ (xs : List Flagged). MeetsFlip xs p q) same
    (record { putter = h.putter; begins = h.begins; heads = h.heads; rise = h.rise; rises = h.rises })

pub line_ends : (m : ℕ) (old new : PortValue) (p q : PutterState Flagged)
    → IsPort old
    → phases.EndsLine old new p q
    → Adds (EndsLine (m + 1) p q (history_in m old)) (history_in m old) (history_in m new)
line_ends m old new p q port h =
    let e = phase_entry old Line (line_ended (length p.sent)) in
    let is : IsEntry (m + 1) Line old.terminal.phase (line_ended (length p.sent)) (last_of m old e) =
    record { seat = refl; who = refl; at_step = refl; at_part = refl; happened = refl; keeps = refl } in
    adds m old new new.flip e _ port h.appends
    (record {
      entry = subst (λ (k : ℕ). IsEntry (m + 1) Line k (line_ended (length p.sent)) (last_of m old e))
          (ap (λ (k : Marks). k.phase) (port_marks m old port)) is;
      meets = meets (chars_at (history_in m old)) old.flip p q
          (sym (ap chars_of (history_entries m (call_in old.kept) old.journal old.terminal.generation) ∙ port.chars))
          h.meets;
    })

pub line_ends_same : (m : ℕ) (old new : PortValue) (p q : PutterState Flagged)
    → IsPort old
    → phases.EndsLine old new p q
    → generation_of (history_in m new) ≡ generation_of (history_in m old)
line_ends_same m old new p q port h =
    appends_same m old new new.flip (phase_entry old Line (line_ended (length p.sent))) port h.appends refl

-- what an entry beside another flip buffer leaves of the name
named_by : (m : ℕ) (old new : PortValue) (flip : TakerState Flagged) (e : PlainEntry)
    → Appends old new flip e
    → flip.ring ≡ old.flip.ring
    → flip.capacity ≡ old.flip.capacity
    → name_in m new ≡ name_in m old
named_by m old new flip e h ring capacity =
    ap (name_in m) h.appended
    ∙ (λ i. record { counts = old.counts; limit = old.limit; callers = m; ring = ring i; capacity = capacity i })

-- ---- a piece of a flush run

pub is_piece_of : (m : ℕ) (v : PortValue) (run part most : ℕ)
    → 1 ≤ most
    → most ≤ PIECE
    → IsPort v
    → GoesOnAt run part (generation_of (history_in m v)) (history_in m v)
    → IsPieceOf v run part most
is_piece_of m v run part most some few p g =
    record {
      some = some;
      few = few;
      numbered = subst (λ (o : Option Piece). IsTrue (follows o run part))
          (sym (ap (λ (k : Marks). k.latest) (port_marks m v p))) g.numbered;
      one = λ lt. subst (RunHas run v.terminal.generation)
          (history_entries m (call_in v.kept) v.journal v.terminal.generation)
          (subst (λ (k : ℕ). RunHas run k (entries_in (history_in m v))) (port_generation m v p) (g.one lt));
    }

first_follows : (o : Option Piece) (run : ℕ) → IsTrue (follows o run 0) → runs_of o ≤ run
first_follows None run h = omega arith
first_follows (Some p) run h =
    elim (or_cases ((run == p.run) && (0 == p.part + 1)) ((run == p.run + 1) && (0 == 0)) h) [
      | inl k ↦
          let e : 0 ≡ p.part + 1 = eqb-true 0 (p.part + 1) (and_parts (run == p.run) (0 == p.part + 1) k).1 in
          absurd (omega arith)
      | inr k ↦
          let e : run ≡ p.run + 1 = eqb-true run (p.run + 1) (and_parts (run == p.run + 1) (0 == 0) k).0 in omega arith
    ]

run_so_far : (v : PortValue) (run part : ℕ)
    → IsPort v
    → IsPieceOf v run part 1
    → RunHas run v.terminal.generation v.journal
run_so_far v run zero p h =
    none_begun (call_in v.kept) v.counts (opening (sum v.counts) v.flip.capacity) v.journal v.terminal run
    v.terminal.generation p.run (first_follows v.terminal.flushed run h.numbered)
run_so_far v run (suc part) p h = h.one (omega arith)

follows_next : (run part : ℕ) → IsTrue (follows (Some (record { run = run; part = part })) run (part + 1))
follows_next run part =
    ap (λ (b : Bool). (b && (part + 1 == part + 1)) || ((run == run + 1) && (part + 1 == 0))) (eq-eqb run run refl)
    ∙ ap (λ (b : Bool). b || ((run == run + 1) && (part + 1 == 0))) (eq-eqb (part + 1) (part + 1) refl)

pub hands_name : (m : ℕ) (old new : PortValue) (run part most n : ℕ)
    → Takes old new run part most n
    → name_in m new ≡ name_in m old
hands_name m old new run part most n h =
    named_by m old new new.flip (flush_entry old run part h.chars) h.appends h.takes_out.ring h.takes_out.capacity

-- a look that shows no more than n characters shows all that are known to be sent
shows_all : (over : Bool) (tail taken sent n : ℕ)
    → n ≡ (if over then min (tail - taken) (sent - taken) else tail - taken)
    → sent ≤ tail
    → sent ≤ taken + n
shows_all true tail taken sent n e le = omega arith
shows_all false tail taken sent n e le = omega arith

or_true : (b : Bool) → (b || true) ≡ true
or_true true = refl
or_true false = refl

stuck_by : (t : Terminal) → accepts t ≡ false → is_stuck t ≡ true
stuck_by t e = ap (λ (b : Bool). (live_count t == 0) || not b) e ∙ or_true (live_count t == 0)

-- a piece of fewer characters than were asked for took all that is known to be sent, or the discipline does not accept
stops : (old new : PortValue) (run part most n : ℕ)
    → IsPort old
    → Takes old new run part most n
    → n < most
    → IsCaughtUp new.terminal
stops old new run part most n p h few free =
    elim (h.stops few) [
      | inl all ↦
          let e = flush_entry old run part h.chars in
          let now : new.terminal ≡ after (call_in old.kept) old.terminal e =
          ap (λ (v : PortValue). v.terminal) h.appends.appended in
          let sent : new.terminal.sent ≡ old.terminal.sent =
          ap (λ (t : Terminal). t.sent) now
          ∙ sent_after (call_in old.kept) old.counts old.terminal e h.appends.allowed in
          let taken : new.terminal.taken ≡ old.terminal.taken + length h.chars =
          ap (λ (t : Terminal). t.taken) now
          ∙ taken_after (call_in old.kept) old.counts old.terminal e h.appends.allowed in
          let count = h.count in
          let known = p.sent in
          let looked = h.looks.rises in
          let left = shows_all old.terminal.line_over h.tail old.terminal.taken old.terminal.sent n all (omega arith) in
          omega arith
      | inr closed ↦ absurd (false≢true (sym free ∙ stuck_by new.terminal closed))
    ]

pub hands : (m : ℕ) (old new : PortValue) (run part most n : ℕ)
    → IsPort old
    → IsPort new
    → length old.journal < old.limit
    → GoesOnAt run part (generation_of (history_in m old)) (history_in m old)
    → most ≤ PIECE
    → PIECE ≤ most
    → Takes old new run part most n
    → FlushesPiece (name_in m old) run part (history_in m old) (history_in m new) (outcome.Took n)
hands m old new run part most n p q few goes small large h =
    let e = flush_entry old run part h.chars in
    let x = last_of m old e in
    let xs = history_in m old in
    let at : generation_of xs ≡ old.terminal.generation = port_generation m old p in
    let P : Stamped EntryWithCall → Type 0 = λ y.
    IsPiece m run part (generation_of xs) y × (n ≡ length (chars_at (y ∷ []))) × IsWholePiece (name_in m old) xs y in
    let added = appends m old new new.flip e p h.appends in
    let size_is : n ≡ length (chars_at (x ∷ [])) = sym h.count ∙ sym (ap length (append-nil h.chars)) in
    let led : terminal_at (name_in m old) (xs ++ x ∷ []) ≡ new.terminal =
    ap (terminal_at (name_in m old)) (sym added)
    ∙ (ap (λ (name : Name). terminal_at name (history_in m new)) (sym (hands_name m old new run part most n h))
    ∙ port_terminal m new q) in
    let at_most = h.few in
    let counted = h.count in
    let is : P x = (
      record {
        seat = refl;
        who = refl;
        at_step = refl;
        at_part = refl;
        at_generation = sym at;
        chars = h.chars;
        some = subst (λ (k : ℕ). 0 < k) (sym h.count) h.some;
        few = omega arith;
        happened = refl;
        keeps = refl;
      },
      size_is,
      λ lt. subst IsCaughtUp (sym led) (stops old new run part most n p h (omega arith)),
    ) in
    let latest : (marks_at (history_in m new)).latest ≡ Some (record { run = run; part = part }) =
    ap (λ (k : Marks). k.latest) (ap marks_at added ∙ marks_append xs (x ∷ [])) in
    let listed : entries_in (history_in m new) ≡ old.journal ++ e ∷ [] =
    ap entries_in added
    ∙ entries_append xs (x ∷ [])
    ∙ ap (λ (es : List PlainEntry). es ++ e ∷ [])
    (history_entries m (call_in old.kept) old.journal old.terminal.generation) in
    let has : RunHas run (generation_of xs) (old.journal ++ e ∷ []) =
    subst (λ (k : ℕ). RunHas run k (old.journal ++ e ∷ [])) (sym at)
    (run_append run old.terminal.generation old.journal (e ∷ [])
    (run_so_far old run part p (is_piece_of m old run part 1 (omega arith) (omega arith) p goes)) ((λ is. refl), tt)) in
    let size : length (history_in m new) ≡ length xs + 1 = ap length added ∙ length-append xs (x ∷ []) in
    let sized : length xs ≡ length old.journal =
    history_length m (call_in old.kept) old.journal old.terminal.generation in
    let most = p.limit in (
      adds m old new new.flip e P p h.appends is,
      record {
        numbered = subst (λ (o : Option Piece). IsTrue (follows o run (part + 1))) (sym latest) (follows_next run part);
        one = λ lt. subst (RunHas run (generation_of xs)) (sym listed) has;
      },
      ap (λ (o : Option Piece). runs_of o) latest,
      omega arith,
    )

pub hands_same : (m : ℕ) (old new : PortValue) (run part most n : ℕ)
    → IsPort old
    → Takes old new run part most n
    → generation_of (history_in m new) ≡ generation_of (history_in m old)
hands_same m old new run part most n p h =
    appends_same m old new new.flip (flush_entry old run part h.chars) p h.appends
    (step_generation (call_in old.kept) old.counts old.terminal (flush_entry old run part h.chars) h.appends.allowed)

none_same : (m : ℕ) (old new : PortValue) (b : Bool)
    → MatchBool b (new ≡ old) (LooksAtNone old new)
    → (history_in m new ≡ history_in m old) × (name_in m new ≡ name_in m old)
none_same m old new true h = (ap (history_in m) h, ap (name_in m) h)
none_same m old new false h = (ap (history_in m) h.looked, ap (name_in m) h.looked)

pub hands_none : (m : ℕ) (old new : PortValue) (run part : ℕ)
    → IsPort old
    → TakesNone old new
    → FlushesPiece (name_in m old) run part (history_in m old) (history_in m new) outcome.Nothing
hands_none m old new run part p h = (
  (none_same m old new (is_stuck old.terminal) h.cause).0,
  subst HasNothingLeft (sym (port_terminal m old p)) (record { caught_up = h.caught_up; idle = h.idle }),
)

pub none_history : (m : ℕ) (old new : PortValue) → TakesNone old new → history_in m new ≡ history_in m old
none_history m old new h = (none_same m old new (is_stuck old.terminal) h.cause).0
