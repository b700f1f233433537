-- A journal whose entries are fine is finished exactly where it goes well from its front.
use Rattle.std.proofs.Common.{◌≡◌, ◌⊎◌, inl, inr, ℕ, zero, suc, ◌+◌, ◌-◌, ◌<◌, ◌≤◌, nat_le, Bool, true}
use Rattle.std.proofs.Common.{false, ◌&&◌, if◌then◌else◌, List, [], ◌∷◌, ◌++◌, Option, length, refl}
use Rattle.std.proofs.Common.{sym, ◌∙◌, ap, subst, arith, append_assoc, append-nil, length-append}
use Rattle.std.specs.Prelude.{count_by, sum}
use Rattle.std.proofs.lemmas.Bool.{false≢true, and_parts, eqb-true, eq-eqb}
use Rattle.std.proofs.lemmas.Bool.{and_from, le-ltb, lt-ltb}
use Rattle.std.proofs.lemmas.Grind.{flat_map-append}
use Rattle.std.proofs.lemmas.List.{length-replicate}
use Rattle.tty_base.specs.declared.characters.Flagged.{Flagged}
use Rattle.tty_base.specs.declared.lines.Overrun.{Overrun}
use Rattle.tty_calls.specs.declared.journals.Who.{Who}
use Rattle.tty_calls.specs.declared.journals.Who.TheVariants as who
use Rattle.tty_calls.specs.Plain.{PlainCall, PlainEvent, answered, parted, waited, flushed, ticked, line_ended}
use Rattle.tty_calls.specs.Plain.{clock_ended, caller_ended, phase_ended, hung_up, PlainEntry, is_caller}
use Rattle.tty_calls.specs.Sessions.{PlainPhase, PlainSession, ticks_on, scripts_on}
use Rattle.tty_calls.specs.Sessions.{scripts_over, names_of, call_at, counts_on}
use Rattle.tty_terminal.specs.Terminals.{Terminal, caller_at, idle_caller, is_over}
use Rattle.tty_terminal.specs.declared.callers.CallerState.{CallerState}
use Rattle.tty_terminal.proofs.CallerLists.{all_idle}
use Rattle.tty_terminal.specs.Steps.{IsAllowed, Allowed, after, may_end, callers_in, nothing_to_flush}
use Rattle.tty_terminal.specs.Runs.{Leads, phase_after}
use Rattle.tty_terminal.specs.Marks.{Marks, marks_of, marks_after}
use Rattle.tty_terminal.specs.Standing.{Standing, standing_of, standing_after_own, standing_after_other}
use Rattle.tty_terminal.proofs.MarkLaws.{step_marks}
use Rattle.tty_terminal.proofs.StandingLaws.{step_stands}
use Rattle.tty_terminal.proofs.StepLaws.{step_does}
use Rattle.tty_terminal.proofs.Runs.{leads_more}
use Rattle.legal_runs.specs.Legal.{phase_at, name_at, has_script, IsInPhase, first_step, sent_by, line_ends}
use Rattle.legal_runs.specs.Legal.{line_ends_in, ClockMark, clock_ends, clock_marks, clock_marks_in, session_events}
use Rattle.legal_runs.specs.Legal.{session_events_in, ticks_of, EndsPhase, HangsUp, IsFinishedFrom, IsFinished}
use Rattle.legal_runs.specs.Phases.{BeginsPhase, CompletesPhase}
use Rattle.journal_check.specs.Verdicts.{AreFine, opening_of, HasNoWrong}
use Rattle.journal_check.specs.Finishing.{may_go, ticks_after, is_hangup, is_none, goes_well}
use Rattle.legal_runs.proofs.NameLemmas.{names_few, length_over, no_calls_yet}
use Rattle.legal_runs.proofs.PhaseLemmas.{phase-after}
use Rattle.legal_runs.proofs.MarkLemmas.{LineOf, ClockOf, phase_part, line_marks, clock_marks_of}
use Rattle.legal_runs.proofs.Truths.{nothing_first, nothing_rest}
use Rattle.legal_runs.proofs.EventLemmas.{quiet_phase}
use Rattle.legal_runs.proofs.CallerLemmas.{PlaysAt, plays_more, three_true, callers_complete, played_next, plays_first}

-- ---- kinds of entries

-- an entry within a phase, the end of a phase, or a hangup
abbrev Kind : PlainEvent → Type 0
Kind event = (session_events event ≡ []) ⊎ ((event ≡ phase_ended) ⊎ (is_hangup event ≡ true))

kind_of : (event : PlainEvent) → Kind event
kind_of (answered a dropped) = inl refl
kind_of (parted n) = inl refl
kind_of waited = inl refl
kind_of (flushed chars) = inl refl
kind_of ticked = inl refl
kind_of (line_ended n) = inl refl
kind_of clock_ended = inl refl
kind_of caller_ended = inl refl
kind_of phase_ended = inr (inl refl)
kind_of (hung_up dropped) = inr (inr refl)

no_end : (event : PlainEvent) → event ≡ phase_ended → session_events event ≡ [] → ⊥
no_end event is none =
    (let some : session_events phase_ended ≡ [] = subst (λ (x : PlainEvent). session_events x ≡ []) is none in cc)

no_hangup : (event : PlainEvent) → is_hangup event ≡ true → session_events event ≡ [] → ⊥
no_hangup (answered a dropped) is none = false≢true is
no_hangup (parted n) is none = false≢true is
no_hangup waited is none = false≢true is
no_hangup (flushed chars) is none = false≢true is
no_hangup ticked is none = false≢true is
no_hangup (line_ended n) is none = false≢true is
no_hangup clock_ended is none = false≢true is
no_hangup caller_ended is none = false≢true is
no_hangup phase_ended is none = false≢true is
no_hangup (hung_up dropped) is none = cc

no_hangup_end : (event : PlainEvent) → is_hangup event ≡ true → event ≡ phase_ended → ⊥
no_hangup_end event is ends = false≢true (sym (ap is_hangup ends) ∙ is)

no_going : (event : PlainEvent) (sent ticks passed : ℕ)
    → is_hangup event ≡ true
    → may_go event sent ticks passed ≡ false
no_going (answered a dropped) sent ticks passed is = absurd (false≢true is)
no_going (parted n) sent ticks passed is = absurd (false≢true is)
no_going waited sent ticks passed is = absurd (false≢true is)
no_going (flushed chars) sent ticks passed is = absurd (false≢true is)
no_going ticked sent ticks passed is = absurd (false≢true is)
no_going (line_ended n) sent ticks passed is = absurd (false≢true is)
no_going clock_ended sent ticks passed is = absurd (false≢true is)
no_going caller_ended sent ticks passed is = absurd (false≢true is)
no_going phase_ended sent ticks passed is = absurd (false≢true is)
no_going (hung_up dropped) sent ticks passed is = refl

-- ---- parts of a journal

-- the first end of a phase, or hangup, is at one place
first_end : (sofar part : List PlainEntry) (e last : PlainEntry) (es rest : List PlainEntry)
    → session_events_in sofar ≡ []
    → session_events_in part ≡ []
    → (session_events e.event ≡ [] → ⊥)
    → (session_events last.event ≡ [] → ⊥)
    → sofar ++ e ∷ es ≡ part ++ last ∷ rest
    → (sofar ≡ part) × (e ≡ last) × (es ≡ rest)
first_end [] [] e last es rest none inside some end same =
    (refl, (let h : e ≡ last = cc in h), (let h : es ≡ rest = cc in h))
first_end [] (y ∷ part) e last es rest none inside some end same =
    let here : e ≡ y = cc in
    absurd (some (ap (λ (x : PlainEntry). session_events x.event) here
    ∙ nothing_first (session_events y.event) (session_events_in part) inside))
first_end (x ∷ sofar) [] e last es rest none inside some end same =
    let here : x ≡ last = cc in
    absurd (end (ap (λ (y : PlainEntry). session_events y.event) (sym here)
    ∙ nothing_first (session_events x.event) (session_events_in sofar) none))
first_end (x ∷ sofar) (y ∷ part) e last es rest none inside some end same =
    let here : x ≡ y = cc in
    let tail : sofar ++ e ∷ es ≡ part ++ last ∷ rest = cc in
    let found = first_end sofar part e last es rest
    (nothing_rest (session_events x.event) (session_events_in sofar) none)
    (nothing_rest (session_events y.event) (session_events_in part) inside) some end tail in
    ((λ i. here i ∷ found.0 i), found.1, found.2)

-- the part of a phase goes on past entries within it
part_past : (sofar part es rest : List PlainEntry) (last : PlainEntry)
    → session_events_in sofar ≡ []
    → (session_events last.event ≡ [] → ⊥)
    → sofar ++ es ≡ part ++ last ∷ rest
    → (more : List PlainEntry) × (part ≡ sofar ++ more)
part_past [] part es rest last none end same = (part, refl)
part_past (x ∷ sofar) [] es rest last none end same =
    let here : x ≡ last = cc in
    absurd (end (ap (λ (y : PlainEntry). session_events y.event) (sym here)
    ∙ nothing_first (session_events x.event) (session_events_in sofar) none))
part_past (x ∷ sofar) (y ∷ part) es rest last none end same =
    let here : y ≡ x = cc in
    let tail : sofar ++ es ≡ part ++ last ∷ rest = cc in
    let found =
    part_past sofar part es rest last (nothing_rest (session_events x.event) (session_events_in sofar) none) end tail in
    (found.0, (λ i. here i ∷ found.1 i))

-- ---- within a phase

record Midway (p : ℕ) (session : PlainSession) (overruns : List Overrun) (k passed : ℕ) (t0 : Terminal)
    (sofar : List PlainEntry) (t : Terminal) : Type 0 where
  lt : k < length session.phases
  leads : Leads (call_at p session) (counts_on p session) t0 sofar t
  inside : session_events_in sofar ≡ []
  begins : BeginsPhase t0
  first : (c : ℕ) → (caller_at t0 c).next ≡ first_step p session k c
  phase : t.phase ≡ k
  passes : t.tick ≡ t0.tick + passed
  line : t.line_over ≡ true → t.sent ≡ sent_by p session overruns k
  clock : t.clock_over ≡ true → passed ≡ ticks_on p (phase_at session k)
  callers : (c : ℕ) → PlaysAt p session k t c
  many : length (names_of (scripts_over p session.phases)) ≤ length t.callers

tick_more : (event : PlainEvent) (step part : ℕ) (m : Marks) (first passed : ℕ)
    → session_events event ≡ []
    → m.tick ≡ first + passed
    → (marks_after event step part m).tick ≡ first + ticks_after event passed
tick_more (answered a dropped) step part m first passed none h = h
tick_more (parted n) step part m first passed none h = h
tick_more waited step part m first passed none h = h
tick_more (flushed chars) step part m first passed none h = h
tick_more ticked step part m first passed none h = omega (arith, h)
tick_more (line_ended n) step part m first passed none h = h
tick_more clock_ended step part m first passed none h = h
tick_more caller_ended step part m first passed none h = h
tick_more phase_ended step part m first passed none h = cc
tick_more (hung_up dropped) step part m first passed none h = h

line_more : (event : PlainEvent) (step part : ℕ) (m : Marks) (sent ticks passed : ℕ)
    → may_go event sent ticks passed ≡ true
    → (m.line_over ≡ true → m.sent ≡ sent)
    → (marks_after event step part m).line_over ≡ true
    → (marks_after event step part m).sent ≡ sent
line_more (answered a dropped) step part m sent ticks passed may h over = h over
line_more (parted n) step part m sent ticks passed may h over = h over
line_more waited step part m sent ticks passed may h over = h over
line_more (flushed chars) step part m sent ticks passed may h over = h over
line_more ticked step part m sent ticks passed may h over = h over
line_more (line_ended n) step part m sent ticks passed may h over = eqb-true n sent may
line_more clock_ended step part m sent ticks passed may h over = h over
line_more caller_ended step part m sent ticks passed may h over = h over
line_more phase_ended step part m sent ticks passed may h over = absurd (false≢true over)
line_more (hung_up dropped) step part m sent ticks passed may h over = h over

clock_more : (event : PlainEvent) (step part : ℕ) (m : Marks) (sent ticks passed : ℕ)
    → may_go event sent ticks passed ≡ true
    → (event ≡ ticked → m.clock_over ≡ false)
    → (m.clock_over ≡ true → passed ≡ ticks)
    → (marks_after event step part m).clock_over ≡ true
    → ticks_after event passed ≡ ticks
clock_more (answered a dropped) step part m sent ticks passed may guard h over = h over
clock_more (parted n) step part m sent ticks passed may guard h over = h over
clock_more waited step part m sent ticks passed may guard h over = h over
clock_more (flushed chars) step part m sent ticks passed may guard h over = h over
clock_more ticked step part m sent ticks passed may guard h over = absurd (false≢true (sym (guard refl) ∙ over))
clock_more (line_ended n) step part m sent ticks passed may guard h over = h over
clock_more clock_ended step part m sent ticks passed may guard h over = eqb-true passed ticks may
clock_more caller_ended step part m sent ticks passed may guard h over = h over
clock_more phase_ended step part m sent ticks passed may guard h over = absurd (false≢true over)
clock_more (hung_up dropped) step part m sent ticks passed may guard h over = h over

tick_guard : (f : ℕ → ℕ → Option PlainCall) (counts : List ℕ) (t : Terminal) (w : Who) (step part : ℕ)
    (event : PlainEvent)
    → IsAllowed f counts t w step part event
    → event ≡ ticked
    → t.clock_over ≡ false
tick_guard f counts t w step part event h is =
    (let there = subst (IsAllowed f counts t w step part) is h in there.1.not_over)

midway_more : (p : ℕ) (session : PlainSession) (overruns : List Overrun) (k passed : ℕ) (t0 : Terminal)
    (sofar : List PlainEntry) (t : Terminal) (e : PlainEntry)
    → Midway p session overruns k passed t0 sofar t
    → Allowed (call_at p session) (counts_on p session) t e
    → IsInPhase p session k e.who e.step e.event
    → session_events e.event ≡ []
    → may_go e.event (sent_by p session overruns k) (ticks_on p (phase_at session k)) passed ≡ true
    → Midway p session overruns k (ticks_after e.event passed) t0 (sofar ++ e ∷ []) (after (call_at p session) t e)
midway_more p session overruns k passed t0 sofar t e h allowed in_phase none may =
    let f = call_at p session in
    let counts = counts_on p session in
    let marks = step_marks f counts t e allowed in
    record {
      lt = h.lt;
      leads = leads_more f counts t0 sofar t e h.leads allowed;
      inside =
          flat_map-append (λ (x : PlainEntry). session_events x.event) sofar (e ∷ [])
          ∙ (λ i. h.inside i ++ (none i ++ []));
      begins = h.begins;
      first = h.first;
      phase = phase-after f counts t e allowed ∙ quiet_phase e.event t.phase none ∙ h.phase;
      passes =
          ap (λ (m : Marks). m.tick) marks ∙ tick_more e.event e.step e.part (marks_of t) t0.tick passed none h.passes;
      line = λ over.
          ap (λ (m : Marks). m.sent) marks
          ∙ line_more e.event e.step e.part (marks_of t) (sent_by p session overruns k)
          (ticks_on p (phase_at session k)) passed may h.line (sym (ap (λ (m : Marks). m.line_over) marks) ∙ over);
      clock = λ over. clock_more e.event e.step e.part (marks_of t) (sent_by p session overruns k)
          (ticks_on p (phase_at session k)) passed may (tick_guard f counts t e.who e.step e.part e.event allowed.1)
          h.clock (sym (ap (λ (m : Marks). m.clock_over) marks) ∙ over);
      callers = λ c. plays_more p session k t e c allowed in_phase none (h.callers c);
      many = omega (arith, h.many, (step_does f counts t e allowed).callers);
    }

-- ---- the end of a phase

completes : (p : ℕ) (session : PlainSession) (overruns : List Overrun) (k passed : ℕ) (t0 : Terminal)
    (sofar : List PlainEntry) (t : Terminal)
    → Midway p session overruns k passed t0 sofar t
    → may_end (counts_on p session) t ≡ true
    → CompletesPhase p session overruns k t0 t
completes p session overruns k passed t0 sofar t h may =
    let parts = three_true t.line_over t.clock_over
    (nat_le (callers_in (counts_on p session) t.phase) (count_by is_over t.callers)) (nothing_to_flush t) may in
    record {
      line = parts.0;
      sent = h.line parts.0;
      clock = parts.1;
      tick = omega (arith, h.passes, h.clock parts.1);
      first = h.first;
      callers = callers_complete p session k t h.lt h.phase h.many h.callers may;
    }

-- a terminal at which phase k begins, and where its callers stand
record Opens (p : ℕ) (session : PlainSession) (k : ℕ) (t : Terminal) : Type 0 where
  begins : BeginsPhase t
  first : (c : ℕ) → (caller_at t c).next ≡ first_step p session k c
  phase : t.phase ≡ k
  many : length (names_of (scripts_over p session.phases)) ≤ length t.callers

midway_first : (p : ℕ) (session : PlainSession) (overruns : List Overrun) (k : ℕ) (t : Terminal)
    → k < length session.phases
    → Opens p session k t
    → Midway p session overruns k 0 t [] t
midway_first p session overruns k t lt h = record {
  lt = lt;
  leads = refl;
  inside = refl;
  begins = h.begins;
  first = h.first;
  phase = h.phase;
  passes = omega arith;
  line = λ over. absurd (false≢true (sym h.begins.line ∙ over));
  clock = λ over. absurd (false≢true (sym h.begins.clock ∙ over));
  callers = λ c. plays_first _ _ _ _ _ (h.first c) (h.begins.callers c);
  many = h.many;
}

by_session : (w : Who) (c : ℕ) → w ≡ who.Session → is_caller w c ≡ false
by_session w c is = ap (λ (x : Who). is_caller x c) is

opens_next : (p : ℕ) (session : PlainSession) (overruns : List Overrun) (k passed : ℕ) (t0 : Terminal)
    (sofar : List PlainEntry) (t : Terminal) (e : PlainEntry)
    → Midway p session overruns k passed t0 sofar t
    → Allowed (call_at p session) (counts_on p session) t e
    → e.event ≡ phase_ended
    → CompletesPhase p session overruns k t0 t
    → Opens p session (k + 1) (after (call_at p session) t e)
opens_next p session overruns k passed t0 sofar t e h allowed ends complete =
    let f = call_at p session in
    let counts = counts_on p session in
    let there = subst (IsAllowed f counts t e.who e.step e.part) ends allowed.1 in
    let marks : marks_of (after f t e) ≡ marks_after phase_ended e.step e.part (marks_of t) =
    step_marks f counts t e allowed ∙ ap (λ (event : PlainEvent). marks_after event e.step e.part (marks_of t)) ends in
    let stands : (c : ℕ)
    → standing_of (caller_at (after f t e) c) ≡ standing_after_other phase_ended (standing_of (caller_at t c)) =
    λ c. step_stands f counts t e allowed c
    ∙ ap
    (λ o.
    if o
    then standing_after_own e.event e.generation (standing_of (caller_at t c))
    else standing_after_other e.event (standing_of (caller_at t c)))
    (by_session e.who c there.0)
    ∙ ap (λ (event : PlainEvent). standing_after_other event (standing_of (caller_at t c))) ends in
    record {
      begins = record {
        line = ap (λ (m : Marks). m.line_over) marks;
        clock = ap (λ (m : Marks). m.clock_over) marks;
        callers = λ c. ap (λ (s : Standing). s.over) (stands c);
      };
      first = λ c.
          ap (λ (s : Standing). s.next) (stands c)
          ∙ played_next p session k c (caller_at t c).next (caller_at t c).over
          (has_script (scripts_on p (phase_at session k)) (name_at p session c)) h.lt refl (complete.callers c);
      phase = ap (λ (m : Marks). m.phase) marks ∙ ap (λ (n : ℕ). n + 1) h.phase;
      many = omega (arith, h.many, (step_does f counts t e allowed).callers);
    }

-- ---- from the front to the end

record Asks (p : ℕ) (session : PlainSession) (overruns : List Overrun) (sents asked : ℕ → ℕ) : Type 0 where
  sent : (k : ℕ) → k < length session.phases → sents k ≡ sent_by p session overruns k
  tick : (k : ℕ) → asked k ≡ ticks_on p (phase_at session k)

pub within : (sents asked : ℕ → ℕ) (n k passed : ℕ) (e : PlainEntry) (es : List PlainEntry)
    → k < n
    → goes_well sents asked n k passed (e ∷ es)
    ≡ (may_go e.event (sents k) (asked k) passed
    && goes_well sents asked n (phase_after e.event k) (ticks_after e.event passed) es)
within sents asked n k passed e es lt = ap (λ b.
    if b
    then may_go e.event (sents k) (asked k) passed
    && goes_well sents asked n (phase_after e.event k) (ticks_after e.event passed) es
    else (is_hangup e.event && is_none es))
    (lt-ltb k n lt)

pub beyond : (sents asked : ℕ → ℕ) (n k passed : ℕ) (e : PlainEntry) (es : List PlainEntry)
    → n ≤ k
    → goes_well sents asked n k passed (e ∷ es) ≡ (is_hangup e.event && is_none es)
beyond sents asked n k passed e es past = ap (λ b.
    if b
    then may_go e.event (sents k) (asked k) passed
    && goes_well sents asked n (phase_after e.event k) (ticks_after e.event passed) es
    else (is_hangup e.event && is_none es))
    (le-ltb k n past)

record IsHungUp (event : PlainEvent) : Type 0 where
  dropped : List Flagged
  is : event ≡ hung_up dropped

hung_up_by : (event : PlainEvent) → is_hangup event ≡ true → IsHungUp event
hung_up_by (answered a dropped) is = absurd (false≢true is)
hung_up_by (parted n) is = absurd (false≢true is)
hung_up_by waited is = absurd (false≢true is)
hung_up_by (flushed chars) is = absurd (false≢true is)
hung_up_by ticked is = absurd (false≢true is)
hung_up_by (line_ended n) is = absurd (false≢true is)
hung_up_by clock_ended is = absurd (false≢true is)
hung_up_by caller_ended is = absurd (false≢true is)
hung_up_by phase_ended is = absurd (false≢true is)
hung_up_by (hung_up dropped) is = record { dropped = dropped; is = refl }

none_left : (es : List PlainEntry) → is_none es ≡ true → es ≡ []
none_left [] is = refl
none_left (e ∷ es) is = absurd (false≢true is)

hangs_if_well : (sents asked : ℕ → ℕ) (n k passed : ℕ) (es : List PlainEntry)
    → n ≤ k
    → goes_well sents asked n k passed es ≡ true
    → HangsUp es
hangs_if_well sents asked n k passed [] past well = absurd (false≢true well)
hangs_if_well sents asked n k passed (e ∷ es) past well =
    let both = and_parts (is_hangup e.event) (is_none es) (sym (beyond sents asked n k passed e es past) ∙ well) in
    let hung = hung_up_by e.event both.0 in
    record {
      entry = e;
      dropped = hung.dropped;
      alone = ap (λ (xs : List PlainEntry). e ∷ xs) (none_left es both.1);
      is_hangup = hung.is;
    }

well_if_hangs : (sents asked : ℕ → ℕ) (n k passed : ℕ) (es : List PlainEntry)
    → n ≤ k
    → HangsUp es
    → goes_well sents asked n k passed es ≡ true
well_if_hangs sents asked n k passed es past h =
    ap (goes_well sents asked n k passed) h.alone
    ∙ beyond sents asked n k passed h.entry [] past
    ∙ ap (λ (event : PlainEvent). is_hangup event && true) h.is_hangup

-- what a phase that goes well, or that ends, hands on
abbrev WellThen : ℕ → PlainSession → List Overrun → (sents asked : ℕ → ℕ) → List PlainEntry → Type 0
WellThen p session overruns sents asked es =
    (before : List PlainEntry) (k passed : ℕ) (t0 : Terminal) (sofar : List PlainEntry) (t u : Terminal)
    (phases : List PlainPhase)
    → Midway p session overruns k passed t0 sofar t
    → k + 1 + length phases ≡ length session.phases
    → AreFine p session before t es u
    → goes_well sents asked (length session.phases) k passed es ≡ true
    → EndsPhase p session overruns k (sofar ++ es) (IsFinishedFrom p session overruns (k + 1) phases)

phases_then : (p : ℕ) (session : PlainSession) (overruns : List Overrun) (sents asked : ℕ → ℕ) (es : List PlainEntry)
    → WellThen p session overruns sents asked es
    → (before : List PlainEntry) (k : ℕ) (t u : Terminal) (phases : List PlainPhase)
    → Opens p session k t
    → k + length phases ≡ length session.phases
    → AreFine p session before t es u
    → goes_well sents asked (length session.phases) k 0 es ≡ true
    → IsFinishedFrom p session overruns k phases es
phases_then p session overruns sents asked es on_rest before k t u [] opens count fine well =
    hangs_if_well sents asked (length session.phases) k 0 es (omega (arith, count)) well
phases_then p session overruns sents asked es on_rest before k t u (phase ∷ phases) opens count fine well =
    on_rest before k 0 t [] t u phases (midway_first p session overruns k t (omega (arith, count)) opens)
    (omega (arith, count)) fine well

ends_if_well : (p : ℕ) (session : PlainSession) (overruns : List Overrun) (sents asked : ℕ → ℕ)
    → Asks p session overruns sents asked
    → (es : List PlainEntry)
    → WellThen p session overruns sents asked es
ends_if_well p session overruns sents asked asks [] before k passed t0 sofar t u phases h count fine well =
    absurd (false≢true well)
ends_if_well p session overruns sents asked asks (e ∷ es) before k passed t0 sofar t u phases h count fine well =
    let f = call_at p session in
    let both = and_parts (may_go e.event (sents k) (asked k) passed)
    (goes_well sents asked (length session.phases) (phase_after e.event k) (ticks_after e.event passed) es)
    (sym (within sents asked (length session.phases) k passed e es h.lt) ∙ well) in
    let may : may_go e.event (sent_by p session overruns k) (ticks_on p (phase_at session k)) passed ≡ true =
    (λ i. may_go e.event (sym (asks.sent k h.lt) i) (sym (asks.tick k) i) passed) ∙ both.0 in
    elim (kind_of e.event) [
      | inl none ↦ (let on = midway_more p session overruns k passed t0 sofar t e h fine.0.step
          (subst (λ (n : ℕ). IsInPhase p session n e.who e.step e.event) h.phase fine.0.in_phase) none may in
          subst (λ (xs : List PlainEntry).
          EndsPhase p session overruns k xs (IsFinishedFrom p session overruns (k + 1) phases))
          (append_assoc sofar (e ∷ []) es)
          (ends_if_well p session overruns sents asked asks es (before ++ e ∷ []) k (ticks_after e.event passed) t0
          (sofar ++ e ∷ []) (after f t e) u phases on count fine.1
          (ap (λ (n : ℕ). goes_well sents asked (length session.phases) n (ticks_after e.event passed) es)
          (sym (quiet_phase e.event k none))
          ∙ both.1)))
      | inr other ↦ elim other [
        | inl ends ↦ (let there = subst (IsAllowed f (counts_on p session) t e.who e.step e.part) ends fine.0.step.1 in
            let complete = completes p session overruns k passed t0 sofar t h there.1.may in
            record {
              part = sofar;
              last = e;
              rest = es;
              parts = refl;
              is_part = phase_part p session overruns k t0 sofar t h.leads h.inside h.begins complete;
              ends = ends;
              goes_on = phases_then p session overruns sents asked es
                  (ends_if_well p session overruns sents asked asks es) (before ++ e ∷ []) (k + 1) (after f t e)
                  u phases
                  (opens_next p session overruns k passed t0 sofar t e h fine.0.step ends complete) count fine.1
                  ((λ i. goes_well sents asked (length session.phases) (phase_after (sym ends i) k)
                  (ticks_after (sym ends i) passed) es)
                  ∙ both.1);
            })
        | inr hangs ↦ absurd (false≢true (sym (no_going e.event (sents k) (asked k) passed hangs) ∙ both.0))
      ]
    ]

-- ---- the other way

line_first : (sofar : List PlainEntry) (e : PlainEntry) (more : List PlainEntry) (sent ticks passed : ℕ)
    → line_ends_in sofar ≡ []
    → line_ends_in ((sofar ++ e ∷ []) ++ more) ≡ sent ∷ []
    → (n : ℕ)
    → e.event ≡ line_ended n
    → n ≡ sent
line_first sofar e more sent ticks passed none all n is =
    let ends : PlainEntry → List ℕ = λ x. line_ends x.event in
    let first : line_ends_in ((sofar ++ e ∷ []) ++ more) ≡ n ∷ line_ends_in more =
    flat_map-append ends (sofar ++ e ∷ []) more
    ∙ ap (λ (xs : List ℕ). xs ++ line_ends_in more)
    (flat_map-append ends sofar (e ∷ []) ∙ (λ i. none i ++ (line_ends (is i) ++ []))) in
    let both : n ∷ line_ends_in more ≡ sent ∷ [] = sym first ∙ all in cc

ticks_same : (m n : ℕ) (more : List ClockMark) → ticks_of m ++ clock_ends ∷ more ≡ ticks_of n ++ clock_ends ∷ [] → m ≡ n
ticks_same zero zero more h = refl
ticks_same zero (suc n) more h = cc
ticks_same (suc m) zero more h = cc
ticks_same (suc m) (suc n) more h = (let rest : ticks_of m ++ clock_ends ∷ more ≡ ticks_of n ++ clock_ends ∷ [] = cc in
    ap (λ (k : ℕ). suc k) (ticks_same m n more rest))

clock_first : (sofar : List PlainEntry) (e : PlainEntry) (more : List PlainEntry) (ticks passed : ℕ)
    → clock_marks_in sofar ≡ ticks_of passed
    → clock_marks_in ((sofar ++ e ∷ []) ++ more) ≡ ticks_of ticks ++ clock_ends ∷ []
    → e.event ≡ clock_ended
    → passed ≡ ticks
clock_first sofar e more ticks passed before all is =
    let marks : PlainEntry → List ClockMark = λ x. clock_marks x.event in
    let first : clock_marks_in ((sofar ++ e ∷ []) ++ more) ≡ ticks_of passed ++ clock_ends ∷ clock_marks_in more =
    flat_map-append marks (sofar ++ e ∷ []) more
    ∙ ap (λ (xs : List ClockMark). xs ++ clock_marks_in more)
    (flat_map-append marks sofar (e ∷ []) ∙ (λ i. before i ++ (clock_marks (is i) ++ [])))
    ∙ append_assoc (ticks_of passed) (clock_ends ∷ []) (clock_marks_in more) in
    ticks_same passed ticks (clock_marks_in more) (sym first ∙ all)

line_before : (over over' : Bool) (sent sent' : ℕ) (marks : List ℕ)
    → over ≡ false
    → over' ≡ false
    → LineOf over sent over' sent' marks
    → marks ≡ []
line_before true over' sent sent' marks was is h = absurd (false≢true (sym was))
line_before false true sent sent' marks was is h = absurd (false≢true (sym is))
line_before false false sent sent' marks was is h = h

clock_before : (over over' : Bool) (tick tick' passed : ℕ) (marks : List ClockMark)
    → over ≡ false
    → over' ≡ false
    → tick' ≡ tick + passed
    → ClockOf over tick over' tick' marks
    → marks ≡ ticks_of passed
clock_before true over' tick tick' passed marks was is count h = absurd (false≢true (sym was))
clock_before false true tick tick' passed marks was is count h = absurd (false≢true (sym is))
clock_before false false tick tick' passed marks was is count h =
    let all : tick' - tick ≡ passed = omega (arith, count) in
    h.1 ∙ append-nil (ticks_of (tick' - tick)) ∙ ap ticks_of all

line_guard : (f : ℕ → ℕ → Option PlainCall) (counts : List ℕ) (t : Terminal) (w : Who) (step part n : ℕ)
    (event : PlainEvent)
    → IsAllowed f counts t w step part event
    → event ≡ line_ended n
    → t.line_over ≡ false
line_guard f counts t w step part n event h is =
    (let there = subst (IsAllowed f counts t w step part) is h in there.1.not_over)

clock_guard : (f : ℕ → ℕ → Option PlainCall) (counts : List ℕ) (t : Terminal) (w : Who) (step part : ℕ)
    (event : PlainEvent)
    → IsAllowed f counts t w step part event
    → event ≡ clock_ended
    → t.clock_over ≡ false
clock_guard f counts t w step part event h is =
    (let there = subst (IsAllowed f counts t w step part) is h in there.1.not_over)

-- an event that is right may stand
goes_by : (event : PlainEvent) (sent ticks passed : ℕ)
    → session_events event ≡ []
    → ((n : ℕ) → event ≡ line_ended n → n ≡ sent)
    → (event ≡ clock_ended → passed ≡ ticks)
    → may_go event sent ticks passed ≡ true
goes_by (answered a dropped) sent ticks passed none line clock = refl
goes_by (parted n) sent ticks passed none line clock = refl
goes_by waited sent ticks passed none line clock = refl
goes_by (flushed chars) sent ticks passed none line clock = refl
goes_by ticked sent ticks passed none line clock = refl
goes_by (line_ended n) sent ticks passed none line clock = eq-eqb n sent (line n refl)
goes_by clock_ended sent ticks passed none line clock = eq-eqb passed ticks (clock refl)
goes_by caller_ended sent ticks passed none line clock = refl
goes_by phase_ended sent ticks passed none line clock = refl
goes_by (hung_up dropped) sent ticks passed none line clock = cc

abbrev EndsThen : ℕ → PlainSession → List Overrun → (sents asked : ℕ → ℕ) → List PlainEntry → Type 0
EndsThen p session overruns sents asked es =
    (before : List PlainEntry) (k passed : ℕ) (t0 : Terminal) (sofar : List PlainEntry) (t u : Terminal)
    (phases : List PlainPhase)
    → Midway p session overruns k passed t0 sofar t
    → k + 1 + length phases ≡ length session.phases
    → AreFine p session before t es u
    → EndsPhase p session overruns k (sofar ++ es) (IsFinishedFrom p session overruns (k + 1) phases)
    → goes_well sents asked (length session.phases) k passed es ≡ true

finished_then : (p : ℕ) (session : PlainSession) (overruns : List Overrun) (sents asked : ℕ → ℕ) (es : List PlainEntry)
    → EndsThen p session overruns sents asked es
    → (before : List PlainEntry) (k : ℕ) (t u : Terminal) (phases : List PlainPhase)
    → Opens p session k t
    → k + length phases ≡ length session.phases
    → AreFine p session before t es u
    → IsFinishedFrom p session overruns k phases es
    → goes_well sents asked (length session.phases) k 0 es ≡ true
finished_then p session overruns sents asked es on_rest before k t u [] opens count fine finished =
    well_if_hangs sents asked (length session.phases) k 0 es (omega (arith, count)) finished
finished_then p session overruns sents asked es on_rest before k t u (phase ∷ phases) opens count fine finished =
    on_rest before k 0 t [] t u phases (midway_first p session overruns k t (omega (arith, count)) opens)
    (omega (arith, count)) fine finished

well_if_ends : (p : ℕ) (session : PlainSession) (overruns : List Overrun) (sents asked : ℕ → ℕ)
    → Asks p session overruns sents asked
    → (es : List PlainEntry)
    → EndsThen p session overruns sents asked es
well_if_ends p session overruns sents asked asks [] before k passed t0 sofar t u phases h count fine ends =
    let more =
    part_past sofar ends.part [] ends.rest ends.last h.inside (no_end ends.last.event ends.ends) ends.parts in
    absurd (omega (
      arith,
      ap length ends.parts,
      ap length more.1,
      length-append sofar [],
      length-append ends.part (ends.last ∷ ends.rest),
      length-append sofar more.0,
    ))
well_if_ends p session overruns sents asked asks (e ∷ es) before k passed t0 sofar t u phases h count fine ends =
    let f = call_at p session in
    let counts = counts_on p session in
    elim (kind_of e.event) [
      | inl none ↦ (let inside : session_events_in (sofar ++ e ∷ []) ≡ [] = flat_map-append
          (λ (x : PlainEntry). session_events x.event) sofar (e ∷ []) ∙ (λ i. h.inside i ++ (none i ++ [])) in
          let whole : (sofar ++ e ∷ []) ++ es ≡ ends.part ++ ends.last ∷ ends.rest =
          append_assoc sofar (e ∷ []) es ∙ ends.parts in
          let more = part_past (sofar ++ e ∷ []) ends.part es ends.rest ends.last inside
          (no_end ends.last.event ends.ends) whole in
          let is = ends.is_part in
          let may : may_go e.event (sent_by p session overruns k) (ticks_on p (phase_at session k)) passed ≡ true =
          goes_by e.event (sent_by p session overruns k) (ticks_on p (phase_at session k)) passed none
          (λ n line. line_first sofar e more.0 (sent_by p session overruns k) 0 0
          (line_before t0.line_over t.line_over t0.sent t.sent (line_ends_in sofar) h.begins.line
          (line_guard f counts t e.who e.step e.part n e.event fine.0.step.1 line)
          (line_marks f counts t0 sofar t h.leads h.inside))
          (ap line_ends_in (sym more.1) ∙ is.line) n line)
          (λ clock. clock_first sofar e more.0 (ticks_on p (phase_at session k)) passed
          (clock_before t0.clock_over t.clock_over t0.tick t.tick passed (clock_marks_in sofar) h.begins.clock
          (clock_guard f counts t e.who e.step e.part e.event fine.0.step.1 clock) h.passes
          (clock_marks_of f counts t0 sofar t h.leads h.inside))
          (ap clock_marks_in (sym more.1) ∙ is.clock) clock) in
          let on = midway_more p session overruns k passed t0 sofar t e h fine.0.step
          (subst (λ (n : ℕ). IsInPhase p session n e.who e.step e.event) h.phase fine.0.in_phase) none may in
          let rest : goes_well sents asked (length session.phases) k (ticks_after e.event passed) es ≡ true =
          well_if_ends p session overruns sents asked asks es (before ++ e ∷ []) k (ticks_after e.event passed) t0
          (sofar ++ e ∷ []) (after f t e) u phases on count fine.1
          (subst (λ (xs : List PlainEntry).
          EndsPhase p session overruns k xs (IsFinishedFrom p session overruns (k + 1) phases))
          (sym (append_assoc sofar (e ∷ []) es)) ends) in
          within sents asked (length session.phases) k passed e es h.lt
          ∙ and_from (may_go e.event (sents k) (asked k) passed)
          (goes_well sents asked (length session.phases) (phase_after e.event k) (ticks_after e.event passed) es)
          ((λ i. may_go e.event (asks.sent k h.lt i) (asks.tick k i) passed) ∙ may)
          (ap (λ (n : ℕ). goes_well sents asked (length session.phases) n (ticks_after e.event passed) es)
          (quiet_phase e.event k none)
          ∙ rest))
      | inr other ↦ elim other [
        | inl end ↦ (let split = first_end sofar ends.part e ends.last es ends.rest h.inside ends.is_part.inside
            (no_end e.event end) (no_end ends.last.event ends.ends) ends.parts in
            let there = subst (IsAllowed f counts t e.who e.step e.part) end fine.0.step.1 in
            let complete = completes p session overruns k passed t0 sofar t h there.1.may in
            let rest : goes_well sents asked (length session.phases) (k + 1) 0 es ≡ true =
            finished_then p session overruns sents asked es (well_if_ends p session overruns sents asked asks es)
            (before ++ e ∷ []) (k + 1) (after f t e) u phases
            (opens_next p session overruns k passed t0 sofar t e h fine.0.step end complete) count fine.1
            (subst (IsFinishedFrom p session overruns (k + 1) phases) (sym split.2) ends.goes_on) in
            within sents asked (length session.phases) k passed e es h.lt
            ∙ and_from (may_go e.event (sents k) (asked k) passed)
            (goes_well sents asked (length session.phases) (phase_after e.event k) (ticks_after e.event passed) es)
            (ap (λ (event : PlainEvent). may_go event (sents k) (asked k) passed) end)
            ((λ i.
            goes_well sents asked (length session.phases) (phase_after (end i) k) (ticks_after (end i) passed) es)
            ∙ rest))
        | inr hangs ↦ (let split = first_end sofar ends.part e ends.last es ends.rest h.inside ends.is_part.inside
            (no_hangup e.event hangs) (no_end ends.last.event ends.ends) ends.parts in
            absurd (no_hangup_end e.event hangs (ap (λ (x : PlainEntry). x.event) split.1 ∙ ends.ends)))
      ]
    ]

-- ---- a whole journal

opens_first : (p : ℕ) (session : PlainSession) → Opens p session 0 (opening_of p session)
opens_first p session = record {
  begins = record {
    line = refl;
    clock = refl;
    callers = λ c. ap (λ (s : CallerState). s.over) (all_idle (sum (counts_on p session)) c);
  };
  first = λ c.
      ap (λ (s : CallerState). s.next) (all_idle (sum (counts_on p session)) c)
      ∙ sym (no_calls_yet (name_at p session c));
  phase = refl;
  many = omega (
    arith,
    names_few (scripts_over p session.phases) [],
    length_over p session.phases,
    length-replicate (sum (counts_on p session)) idle_caller,
  );
}

pub record FinishedAsWell (p : ℕ) (session : PlainSession) (overruns : List Overrun) (sents asked : ℕ → ℕ)
    (journal : List PlainEntry) : Type 0 where
  pub finished : goes_well sents asked (length session.phases) 0 0 journal ≡ true
      → IsFinished p session overruns journal
  pub well : IsFinished p session overruns journal → goes_well sents asked (length session.phases) 0 0 journal ≡ true

-- where no entry is wrong a journal is finished exactly where it goes well
pub finished_as_well : (p : ℕ) (session : PlainSession) (overruns : List Overrun) (sents asked : ℕ → ℕ)
    (journal : List PlainEntry)
    → ((k : ℕ) → k < length session.phases → sents k ≡ sent_by p session overruns k)
    → ((k : ℕ) → asked k ≡ ticks_on p (phase_at session k))
    → HasNoWrong p session journal
    → FinishedAsWell p session overruns sents asked journal
finished_as_well p session overruns sents asked journal sent tick (u, fine) =
    let asks : Asks p session overruns sents asked = record { sent = sent; tick = tick } in
    record {
      finished = phases_then p session overruns sents asked journal
          (ends_if_well p session overruns sents asked asks journal) [] 0 (opening_of p session) u session.phases
          (opens_first p session) (omega arith) fine;
      well = finished_then p session overruns sents asked journal
          (well_if_ends p session overruns sents asked asks journal) [] 0 (opening_of p session) u session.phases
          (opens_first p session) (omega arith) fine;
    }
