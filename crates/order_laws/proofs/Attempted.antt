-- The entry of an attempt, and what it tells of its caller.
use Rattle.std.proofs.Common.{◌≡◌, ℕ, ◌+◌, Bool, true, false, List, [], ◌∷◌, ◌++◌}
use Rattle.std.proofs.Common.{Some, length, refl, sym, ap, ◌∙◌, subst, arith, length-append}
use Rattle.std.specs.Prelude.{slice_get, is_some, MatchBool}
use Rattle.std.proofs.lemmas.Bool.{false≢true, ne_eqb, eq-eqb}
use Rattle.std.proofs.lemmas.Option.{same_Some}
use Rattle.tty_calls.specs.declared.journals.Who.{Who}
use Rattle.tty_calls.specs.declared.journals.Who.TheVariants.{Caller}
use Rattle.tty_calls.specs.Plain.{PlainCall, PlainAnswer, PlainEvent, answered, parted, waited, flushed, ticked}
use Rattle.tty_calls.specs.Plain.{line_ended, clock_ended, caller_ended, phase_ended, hung_up, PlainEntry, is_caller}
use Rattle.tty_terminal.specs.Terminals.{caller_at}
use Rattle.tty_terminal.specs.Standing.{Standing, standing_after_own}
use Rattle.tty_terminal.specs.Steps.{quiet}
use Rattle.tty_terminal.specs.Runs.{is_of_call}
use Rattle.port_core.specs.Attempts.{PlainTried, done_by, took_part, must_wait, Attempts}
use Rattle.port_core.specs.Ports.{PortValue, Appends, with_call, caller_entry}
use Rattle.play_base.specs.Roles.{Scene}
use Rattle.one_thread.specs.Turns.{standing_at, Adds}
use Rattle.one_thread.specs.Acts.{TriesCall, MakesCall}
use Rattle.play_base.specs.declared.roles.Role.{Role}
use Rattle.order_laws.specs.Later.{WasAnswered}
use Rattle.order_laws.specs.Begun.{begun_at}
use Rattle.order_laws.proofs.InOrders.{same_entry}
use Rattle.order_laws.proofs.BegunBefore.{own_stands}

-- by a wait or a part a call has begun; by an answer none is any more
abbrev pub begins : PlainEvent → Bool
begins (answered a dropped) = false
begins (parted n) = true
begins waited = true
begins (flushed chars) = false
begins ticked = false
begins (line_ended n) = false
begins clock_ended = false
begins caller_ended = false
begins phase_ended = false
begins (hung_up dropped) = false

begun_then : (event : PlainEvent) (g : ℕ) (q : Standing)
    → begins event ≡ true
    → ((standing_after_own event g q).begun ≡ true) × ((standing_after_own event g q).next ≡ q.next)
begun_then (answered a dropped) g q e = absurd (false≢true e)
begun_then (parted n) g q e = (refl, refl)
begun_then waited g q e = (refl, refl)
begun_then (flushed chars) g q e = absurd (false≢true e)
begun_then ticked g q e = absurd (false≢true e)
begun_then (line_ended n) g q e = absurd (false≢true e)
begun_then clock_ended g q e = absurd (false≢true e)
begun_then caller_ended g q e = absurd (false≢true e)
begun_then phase_ended g q e = absurd (false≢true e)
begun_then (hung_up dropped) g q e = absurd (false≢true e)

module _ (roles : List Role) (old new : PortValue) (place : ℕ) (r : Role) (call : PlainCall)
    (at : slice_get roles place ≡ Some r) where
  -- the attempt is that role's
  pub role_is : (tried : PlainTried) (h : TriesCall roles old new place call tried) → h.role ≡ r
  role_is tried h = same_Some h.role r (sym h.at_place ∙ at)

  pub makes_as : (tried : PlainTried) (h : TriesCall roles old new place call tried) → MakesCall old new r.number call
  makes_as tried h = subst (λ (x : Role). MakesCall old new x.number call) (role_is tried h) h.makes

  pub attempts_as : (tried : PlainTried) (h : TriesCall roles old new place call tried)
      → Attempts old new r.number (caller_at old.terminal r.number).next call tried
  attempts_as tried h = subst
      (λ (x : Role). Attempts old new x.number (caller_at old.terminal x.number).next call tried) (role_is tried h)
      h.attempts

module _ (old new : PortValue) (c : ℕ) (call : PlainCall) (makes : MakesCall old new c call) (s : Scene)
    (adds : Adds s old new) where
  abbrev next : ℕ
  next = (caller_at old.terminal c).next

  pub entry_is : makes.entry ≡ adds.entry
  entry_is = same_entry old.journal makes.entry adds.entry (sym makes.added ∙ adds.added)

  pub who_is : adds.entry.who ≡ Caller c
  who_is = ap (λ (e : PlainEntry). e.who) (sym entry_is) ∙ makes.who

  pub step_is : adds.entry.step ≡ next
  step_is = ap (λ (e : PlainEntry). e.step) (sym entry_is) ∙ makes.step

  pub call_is : is_of_call adds.entry.event ≡ true
  call_is = ap (λ (e : PlainEntry). is_of_call e.event) (sym entry_is) ∙ makes.of_call

  pub own_is : is_caller adds.entry.who c ≡ true
  own_is = ap (λ (w : Who). is_caller w c) who_is ∙ eq-eqb c c refl

  pub other_is : (x : ℕ) → (x ≡ c → ⊥) → is_caller adds.entry.who x ≡ false
  other_is x other = ap (λ (w : Who). is_caller w x) who_is ∙ ne_eqb c x (λ e. other (sym e))

  -- the event of an entry that is added is that of this one
  event_of : (e : PlainEntry) → new.journal ≡ old.journal ++ e ∷ [] → adds.entry ≡ e
  event_of e added = same_entry old.journal adds.entry e (sym adds.added ∙ added)

  longer : new ≡ old → ⊥
  longer same = absurd (omega (
    arith,
    ap (λ (v : PortValue). length v.journal) same,
    ap (λ (es : List PlainEntry). length es) adds.added,
    length-append old.journal (adds.entry ∷ []),
  ))

  waits_event : (b : Bool)
      → MatchBool b ((new ≡ old) × (quiet old.counts old.terminal ≡ false))
      (Appends (with_call old c next call) new old.flip (caller_entry old c waited))
      → begins adds.entry.event ≡ true
  waits_event true h = absurd (longer h.0)
  waits_event false h = ap (λ (e : PlainEntry). begins e.event)
      (event_of (caller_entry old c waited) (ap (λ (v : PortValue). v.journal) h.appended))

  pub begins_by_wait : Attempts old new c next call must_wait → begins adds.entry.event ≡ true
  begins_by_wait h = waits_event (is_some (caller_at old.terminal c).waits) h.waits

  pub begins_by_part : Attempts old new c next call took_part → begins adds.entry.event ≡ true
  begins_by_part h = ap (λ (e : PlainEntry). begins e.event)
      (event_of (caller_entry old c (parted h.count)) (ap (λ (v : PortValue). v.journal) h.appends.appended))

  -- its caller has begun the call then
  pub begun_now : begins adds.entry.event ≡ true → (begun_at new c ≡ true) × ((caller_at new.terminal c).next ≡ next)
  begun_now e =
      subst (λ (q : Standing). (q.begun ≡ true) × (q.next ≡ next)) (sym (own_stands s old new adds c own_is))
      (begun_then adds.entry.event adds.entry.generation (standing_at old c) e)

  module _ (answer : PlainAnswer) (h : Attempts old new c next call (done_by answer)) where
    answer_is : adds.entry ≡ caller_entry old c (answered answer h.dropped)
    answer_is =
        event_of (caller_entry old c (answered answer h.dropped)) (ap (λ (v : PortValue). v.journal) h.appends.appended)

    pub was_answered : WasAnswered new c next answer
    was_answered = record {
      before = old.journal;
      entry = adds.entry;
      last = adds.added;
      of_step = step_is;
      is_answer = (who_is, (h.dropped, ap (λ (e : PlainEntry). e.event) answer_is));
    }

    pub ended_now : begun_at new c ≡ false
    ended_now =
        ap (λ (q : Standing). q.begun) (own_stands s old new adds c own_is)
        ∙ ap (λ (e : PlainEntry). (standing_after_own e.event e.generation (standing_at old c)).begun) answer_is
