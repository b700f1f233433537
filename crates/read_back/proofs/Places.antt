-- The entries of a legal run are of the kinds that can be printed.
use Rattle.std.proofs.Common.{◌≡◌, inl, inr, ℕ, zero, suc, ◌+◌, ◌*◌, ◌<◌, ◌≤◌, Bool, true, ◌&&◌, ◌==◌}
use Rattle.std.proofs.Common.{IsTrue, Option, None, Some, option_map, Ok, List, [], ◌∷◌, ◌++◌, length}
use Rattle.std.proofs.Common.{sum, slice_get, refl, sym, ◌∙◌, ap, subst, arith, length-append}
use Rattle.std.specs.Prelude.{slice_index_or}
use Rattle.std.specs.List.{AllByRecursion}
use Rattle.std.proofs.lemmas.Bool.{and_parts, or_cases, eqb-true, false≢true}
use Rattle.tty_base.specs.Sizes.{MOST_ARRIVALS}
use Rattle.tty_base.specs.declared.characters.Flagged.{Flagged}
use Rattle.tty_calls.specs.declared.journals.Who.{Who}
use Rattle.tty_calls.specs.declared.journals.Who.TheVariants.{Caller, Flusher, Line, Clock, Session}
use Rattle.tty_calls.specs.Plain.{PlainCall, PlainAnswer, PlainEvent, answered, parted, waited, flushed, ticked}
use Rattle.tty_calls.specs.Plain.{line_ended, clock_ended, caller_ended, phase_ended, hung_up, PlainEntry, chars_in}
use Rattle.tty_calls.specs.Sessions.{PlainScript, PlainSession, scripts_on, scripts_over, names_of, call_at, counts_on}
use Rattle.text_lines.specs.Values.{is_name}
use Rattle.session_text.specs.declared.faults.Reason.TheVariants.{Order}
use Rattle.tty_terminal.specs.declared.callers.Piece.{Piece}
use Rattle.tty_terminal.specs.Terminals.{Terminal, opening, caller_at}
use Rattle.tty_terminal.specs.Calls.{outcome, outcome_of}
use Rattle.tty_terminal.specs.Steps.{Answers, MustWait, TakesPart, IsAnswer, IsPart, IsWait}
use Rattle.tty_terminal.specs.Steps.{IsCallerEnd, ByCaller, IsAllowed, Allowed, after, follows}
use Rattle.tty_terminal.specs.Runs.{Leads, IsRun, chars_of}
use Rattle.tty_terminal.specs.Standing.{standing_of}
use Rattle.tty_terminal.specs.Marks.{Marks, marks_of, marks_after}
use Rattle.tty_terminal.proofs.Runs.{Bounded, run_bounded, run_capacity, run_taken, leads_more, chars_append}
use Rattle.tty_terminal.proofs.StepLaws.{taken_after}
use Rattle.tty_terminal.proofs.MarkLaws.{step_marks}
use Rattle.tty_terminal.proofs.WaitLaws.{run_part_count, part_more}
use Rattle.legal_runs.specs.Legal.{name_at, has_script, phase_at, flip_on, IsInPhase, AreInPhases}
use Rattle.legal_runs.proofs.PhaseLemmas.{phase-after}
use Rattle.journal_bound.specs.Counts.{written_count}
use Rattle.journal_bound.proofs.Crowded.{pay}
use Rattle.journal_bound.proofs.Spent.{bytes_of, text_of, IsSound}
use Rattle.journal_bound.proofs.Steps.{own, leads_uses}
use Rattle.check_text.specs.Callers.{answer_kind, callers_on}
use Rattle.check_text.specs.Fields.{or_else}
use Rattle.check_text.specs.Entries.{call_of_entry}
use Rattle.check_text.specs.Grammar.{most}
use Rattle.check_text.specs.Printed.{IsAnswerTo, IsAnsweredCall, IsEventOf, IsWhoOf, IsEntryOf}
use Rattle.check_text.proofs.EntryLines.{kind_of_call}
use Rattle.read_back.proofs.Lists.{each_first, each_last}
use Rattle.read_back.proofs.Outcomes.{IsSized, met_answers, call_met}
use Rattle.read_back.proofs.Received.{AreByteChars}
use Rattle.read_back.proofs.Steps.{AreKnown, event_sized}
use Rattle.read_back.proofs.Sessions.{IsPrintable}

-- ---- flush runs

-- the numbers of the latest piece are below this
abbrev pub PieceBelow : Option Piece → ℕ → Type 0
PieceBelow None n = Unit {0}
PieceBelow (Some piece) n = (piece.run < n) × (piece.part < n)

record AreFew (step part n : ℕ) : Type 0 where
  step_few : step ≤ n
  part_few : part ≤ n

follows_few : (latest : Option Piece) (run part n : ℕ)
    → IsTrue (follows latest run part)
    → PieceBelow latest n
    → AreFew run part n
follows_few None run part n h below =
    let both = and_parts (run == 0) (part == 0) h in
    record { step_few = omega (arith, eqb-true run 0 both.0); part_few = omega (arith, eqb-true part 0 both.1) }
follows_few (Some piece) run part n h below =
    elim (or_cases ((run == piece.run) && (part == piece.part + 1)) ((run == piece.run + 1) && (part == 0)) h) [
      | inl e ↦
          let both = and_parts (run == piece.run) (part == piece.part + 1) e in
          record {
            step_few = omega (arith, eqb-true run piece.run both.0, below.0);
            part_few = omega (arith, eqb-true part (piece.part + 1) both.1, below.1);
          }
      | inr e ↦
          let both = and_parts (run == piece.run + 1) (part == 0) e in
          record {
            step_few = omega (arith, eqb-true run (piece.run + 1) both.0, below.0);
            part_few = omega (arith, eqb-true part 0 both.1);
          }
    ]

below_more : (latest : Option Piece) (n : ℕ) → PieceBelow latest n → PieceBelow latest (n + 1)
below_more None n h = tt
below_more (Some piece) n h = (omega (arith, h.0), omega (arith, h.1))

-- ---- callers

by_a_caller : (who : Who) (P : ℕ → Type 0) → ByCaller who P → (c : ℕ) × (who ≡ Caller c) × P c
by_a_caller (Caller c) P h = (c, refl, h)
by_a_caller Flusher P h = absurd h
by_a_caller Line P h = absurd h
by_a_caller Clock P h = absurd h
by_a_caller Session P h = absurd h

at_place : (names : List (List ℕ)) (c : ℕ) (name : List ℕ)
    → slice_get names c ≡ Some name
    → (c < length names) × (slice_index_or names c [] ≡ name)
at_place [] c name e = cc
at_place (x ∷ names) zero name e = (omega arith, cc)
at_place (x ∷ names) (suc c) name e = let rest = at_place names c name e in (omega (arith, rest.0), rest.1)

named_by : (scripts : List PlainScript) (name : Option (List ℕ))
    → has_script scripts name ≡ true
    → (x : List ℕ) × (name ≡ Some x)
named_by scripts None h = absurd (false≢true h)
named_by scripts (Some x) h = (x, refl)

-- a place of a run: these entries have led to this terminal
pub record Place (p : ℕ) (session : PlainSession) (before : List PlainEntry) (t : Terminal) : Type 0 where
  pub run : IsRun (call_at p session) (counts_on p session) (flip_on p session) before t
  pub sound : (c : ℕ) → IsSound (call_at p session c) (own p session c) t.phase (standing_of (caller_at t c))
  pub sized : IsSized (3 * t.taken) t
  pub piece : PieceBelow t.flushed (length before)

module _ (p : ℕ) (session : PlainSession) (printable : IsPrintable p session) where
  who_is : (k : ℕ) (who : Who) (step : ℕ) (event : PlainEvent)
      → IsInPhase p session k who step event
      → IsWhoOf (callers_on p session) who
  who_is k (Caller c) step event h =
      let named = named_by (scripts_on p (phase_at session k)) (name_at p session c) h.0 in
      let place = at_place (names_of (scripts_over p session.phases)) c named.0 named.1 in
      (place.0, subst (λ (name : List ℕ). is_name name ≡ true) (sym place.1) (printable.names c named.0 named.1))
  who_is k Flusher step event h = tt
  who_is k Line step event h = tt
  who_is k Clock step event h = tt
  who_is k Session step event h = tt

  module _ (before : List PlainEntry) (t : Terminal) (place : Place p session before t) (few : length before ≤ most)
      (taken : t.taken ≤ MOST_ARRIVALS) where
    bounded : Bounded t (length before)
    bounded = run_bounded (call_at p session) (counts_on p session) (flip_on p session) before t place.run

    parts_few : (c : ℕ) → (caller_at t c).parts ≤ length before
    parts_few c = run_part_count (call_at p session) (counts_on p session) (flip_on p session) before t place.run c

    known : AreKnown (call_at p session) t
    known c call e =
        let paid = (place.sound c).paid in
        (printable.calls c (caller_at t c).next call e, taken_of (call_at p session c (caller_at t c).next) call e paid)
      where
        taken_of : (o : Option PlainCall) (call : PlainCall)
            → o ≡ Some call
            → pay (text_of o) (caller_at t c).taken ≤ 31 * bytes_of o
            → (caller_at t c).taken ≤ written_count call
        taken_of None call e paid = cc
        taken_of (Some other) call e paid = (let same : other ≡ call = cc in
            subst (λ (x : PlainCall). (caller_at t c).taken ≤ written_count x) same (omega (arith, paid)))

    -- ---- numbers

    numbers_few : (who : Who) (step part : ℕ) (event : PlainEvent)
        → IsAllowed (call_at p session) (counts_on p session) t who step part event
        → AreFew step part (length before)
    numbers_few who step part (answered a dropped) h =
        let by = by_a_caller who (λ c. IsAnswer (call_at p session) (counts_on p session) t c step part a dropped) h in
        let next = by.2.next in
        record {
          step_few = omega (arith, next.at_step, bounded.next by.0);
          part_few = omega (arith, next.at_part, parts_few by.0);
        }
    numbers_few who step part (parted n) h =
        let by = by_a_caller who (λ c. IsPart (call_at p session) t c step part n) h in
        let next = by.2.next in
        record {
          step_few = omega (arith, next.at_step, bounded.next by.0);
          part_few = omega (arith, next.at_part, parts_few by.0);
        }
    numbers_few who step part waited h =
        let by = by_a_caller who (λ c. IsWait (call_at p session) t c step part) h in
        let next = by.2.next in
        record {
          step_few = omega (arith, next.at_step, bounded.next by.0);
          part_few = omega (arith, next.at_part, parts_few by.0);
        }
    numbers_few who step part (flushed chars) h =
        follows_few t.flushed step part (length before) h.1.numbered place.piece
    numbers_few who step part ticked h = record {
      step_few = omega (arith, h.1.phase.at_step, bounded.phase);
      part_few = omega (arith, h.1.phase.at_part);
    }
    numbers_few who step part (line_ended n) h = record {
      step_few = omega (arith, h.1.phase.at_step, bounded.phase);
      part_few = omega (arith, h.1.phase.at_part);
    }
    numbers_few who step part clock_ended h = record {
      step_few = omega (arith, h.1.phase.at_step, bounded.phase);
      part_few = omega (arith, h.1.phase.at_part);
    }
    numbers_few who step part caller_ended h =
        let by = by_a_caller who (λ c. IsCallerEnd t c step part) h in
        let at_step = by.2.at_step in
        let at_part = by.2.at_part in
        record { step_few = omega (arith, at_step, bounded.next by.0); part_few = omega (arith, at_part) }
    numbers_few who step part phase_ended h = record {
      step_few = omega (arith, h.1.phase.at_step, bounded.phase);
      part_few = omega (arith, h.1.phase.at_part);
    }
    numbers_few who step part (hung_up dropped) h =
        let after = h.1.after in
        let at_step = h.1.at_step in
        let at_part = h.1.at_part in
        record { step_few = omega (arith, after, at_step, bounded.phase); part_few = omega (arith, at_part) }

    -- ---- calls

    call_kind : (c step : ℕ) (call : PlainCall)
        → call_at p session c step ≡ Some call
        → call_of_entry (callers_on p session) (Caller c) step ≡ Ok (answer_kind call)
    call_kind c step call e =
        ap (λ o. or_else Order o) (kind_of_call p session c step ∙ ap (λ o. option_map answer_kind o) e)

    answer_is : (c step : ℕ) (may : Bool) (a : PlainAnswer) (o : Option PlainCall)
        → call_at p session c step ≡ o
        → step ≡ (caller_at t c).next
        → Answers may (outcome_of t (caller_at t c) o) a
        → IsAnsweredCall (callers_on p session) (Caller c) step (λ kind. IsAnswerTo kind a)
    answer_is c step may a None e at h = absurd h
    answer_is c step may a (Some call) e at h =
        let k = known c call (subst (λ (i : ℕ). call_at p session c i ≡ Some call) at e) in (
          answer_kind call,
          call_kind c step call e,
          met_answers call (3 * t.taken) t may (outcome t (caller_at t c) call) a h
              (call_met (3 * t.taken) t (caller_at t c) call (omega (arith, taken)) k.0 k.1 place.sized),
        )

    wait_is : (c step : ℕ) (o : Option PlainCall)
        → call_at p session c step ≡ o
        → MustWait (outcome_of t (caller_at t c) o)
        → IsAnsweredCall (callers_on p session) (Caller c) step (λ kind. Unit {0})
    wait_is c step None e h = absurd h
    wait_is c step (Some call) e h = (answer_kind call, call_kind c step call e, tt)

    part_is : (c step n : ℕ) (o : Option PlainCall)
        → call_at p session c step ≡ o
        → TakesPart (outcome_of t (caller_at t c) o) n
        → IsAnsweredCall (callers_on p session) (Caller c) step (λ kind. Unit {0}) × (n ≤ most)
    part_is c step n None e h = absurd h
    part_is c step n (Some call) e h =
        let small = (printable.calls c step call e).bytes in
        ((answer_kind call, call_kind c step call e, tt), omega (arith, part_more t (caller_at t c) call n h, small))

    event_is : (who : Who) (step part : ℕ) (event : PlainEvent)
        → AreByteChars (chars_in event)
        → IsAllowed (call_at p session) (counts_on p session) t who step part event
        → IsEventOf (callers_on p session) who step event
    event_is (Caller c) step part (answered a dropped) small h =
        (answer_is c step _ a (call_at p session c step) refl h.next.at_step h.answer, small)
    event_is Flusher step part (answered a dropped) small h = absurd h
    event_is Line step part (answered a dropped) small h = absurd h
    event_is Clock step part (answered a dropped) small h = absurd h
    event_is Session step part (answered a dropped) small h = absurd h
    event_is (Caller c) step part (parted n) small h = part_is c step n (call_at p session c step) refl h.takes
    event_is Flusher step part (parted n) small h = absurd h
    event_is Line step part (parted n) small h = absurd h
    event_is Clock step part (parted n) small h = absurd h
    event_is Session step part (parted n) small h = absurd h
    event_is (Caller c) step part waited small h = wait_is c step (call_at p session c step) refl h.must
    event_is Flusher step part waited small h = absurd h
    event_is Line step part waited small h = absurd h
    event_is Clock step part waited small h = absurd h
    event_is Session step part waited small h = absurd h
    event_is who step part (flushed chars) small h = small
    event_is who step part ticked small h = tt
    event_is who step part (line_ended n) small h =
        let fits = h.1.fits in
        let capacity : t.capacity ≡ flip_on p session =
        run_capacity (call_at p session) (counts_on p session) (flip_on p session) before t place.run in
        let most_flip = printable.capacity in
        omega (arith, fits, taken, capacity, most_flip)
    event_is who step part clock_ended small h = tt
    event_is who step part caller_ended small h = tt
    event_is who step part phase_ended small h = tt
    event_is who step part (hung_up dropped) small h = small

    entry_is : (e : PlainEntry)
        → AreByteChars (chars_in e.event)
        → Allowed (call_at p session) (counts_on p session) t e
        → IsInPhase p session t.phase e.who e.step e.event
        → IsEntryOf (callers_on p session) e
    entry_is e small h in_phase =
        let numbers = numbers_few e.who e.step e.part e.event h.1 in
        record {
          who = who_is t.phase e.who e.step e.event in_phase;
          step = omega (arith, numbers.step_few, few);
          part = omega (arith, numbers.part_few, few);
          generation = omega (arith, h.0, bounded.generation, few);
          event = event_is e.who e.step e.part e.event small h.1;
        }

    -- ---- the next place

    piece_next : (event : PlainEvent) (step part : ℕ)
        → AreFew step part (length before)
        → PieceBelow (marks_after event step part (marks_of t)).latest (length before + 1)
    piece_next (answered a dropped) step part h = below_more t.flushed (length before) place.piece
    piece_next (parted n) step part h = below_more t.flushed (length before) place.piece
    piece_next waited step part h = below_more t.flushed (length before) place.piece
    piece_next (flushed chars) step part h = (omega (arith, h.step_few), omega (arith, h.part_few))
    piece_next ticked step part h = below_more t.flushed (length before) place.piece
    piece_next (line_ended n) step part h = below_more t.flushed (length before) place.piece
    piece_next clock_ended step part h = below_more t.flushed (length before) place.piece
    piece_next caller_ended step part h = below_more t.flushed (length before) place.piece
    piece_next phase_ended step part h = below_more t.flushed (length before) place.piece
    piece_next (hung_up dropped) step part h = below_more t.flushed (length before) place.piece

    next_place : (e : PlainEntry)
        → AreByteChars (chars_in e.event)
        → Allowed (call_at p session) (counts_on p session) t e
        → IsInPhase p session t.phase e.who e.step e.event
        → Place p session (before ++ e ∷ []) (after (call_at p session) t e)
    next_place e small h in_phase =
        let u : Terminal = after (call_at p session) t e in
        let grown : length (before ++ e ∷ []) ≡ length before + 1 = length-append before (e ∷ []) in
        let latest : u.flushed ≡ (marks_after e.event e.step e.part (marks_of t)).latest =
        ap (λ (m : Marks). m.latest) (step_marks (call_at p session) (counts_on p session) t e h) in
        record {
          run = leads_more (call_at p session) (counts_on p session)
              (opening (sum (counts_on p session)) (flip_on p session)) before t e place.run h;
          sound =
              (leads_uses p session (length t.callers) t (e ∷ []) u (h, refl) (in_phase, tt) place.sound refl).sound;
          sized = event_sized (call_at p session) (counts_on p session) (3 * t.taken) t (omega (arith, taken)) known
              place.sized e.who e.step e.part (3 * u.taken) e.event
              (omega (arith, taken_after (call_at p session) (counts_on p session) t e h)) small h.1;
          piece = subst (λ (n : ℕ). PieceBelow u.flushed n) (sym grown)
              (subst (λ (o : Option Piece). PieceBelow o (length before + 1)) (sym latest)
              (piece_next e.event e.step e.part (numbers_few e.who e.step e.part e.event h.1)));
        }

  -- ---- all entries

  pub entries_are : (before : List PlainEntry) (t : Terminal) (es : List PlainEntry) (u : Terminal)
      → Place p session before t
      → Leads (call_at p session) (counts_on p session) t es u
      → AreInPhases p session t.phase es
      → AreByteChars (chars_of es)
      → length before + length es ≤ most
      → length (chars_of before) + length (chars_of es) ≤ MOST_ARRIVALS
      → AllByRecursion (IsEntryOf (callers_on p session)) es
  entries_are before t [] u place h in_phases small few taken = tt
  entries_are before t (e ∷ es) u place h in_phases small few taken =
      let here : AreByteChars (chars_in e.event) =
      each_first (λ c. c.byte < 256) (chars_in e.event) (chars_of es) small in
      let later : AreByteChars (chars_of es) = each_last (λ c. c.byte < 256) (chars_in e.event) (chars_of es) small in
      let was : t.taken ≡ length (chars_of before) =
      run_taken (call_at p session) (counts_on p session) (flip_on p session) before t place.run in
      let few_before : length before ≤ most = omega (arith, few) in
      let few_taken : t.taken ≤ MOST_ARRIVALS = omega (arith, was, taken) in
      let both : length (chars_in e.event ++ chars_of es) ≡ length (chars_in e.event) + length (chars_of es) =
      length-append (chars_in e.event) (chars_of es) in
      let more : length (chars_of (before ++ e ∷ [])) ≡ length (chars_of before) + length (chars_in e.event) =
      ap (λ (cs : List Flagged). length cs) (chars_append before e)
      ∙ length-append (chars_of before) (chars_in e.event) in
      let grown : length (before ++ e ∷ []) ≡ length before + 1 = length-append before (e ∷ []) in
      let phase = phase-after (call_at p session) (counts_on p session) t e h.0 in (
        entry_is before t place few_before few_taken e here h.0 in_phases.0,
        entries_are (before ++ e ∷ []) (after (call_at p session) t e) es u
            (next_place before t place few_before few_taken e here h.0 in_phases.0) h.1
            (subst (λ (k : ℕ). AreInPhases p session k es) (sym phase) in_phases.1) later (omega (arith, grown, few))
            (omega (arith, more, both, taken)),
      )
