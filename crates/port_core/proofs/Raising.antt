-- What an attempt of a call does to the generation; and which calls are answered at once.
use Rattle.std.specs.Prelude.{MatchBool}
use Rattle.std.proofs.Common.{◌≡◌, ℕ, Bool, true, false, Option, None, Some, is_some}
use Rattle.std.proofs.Common.{if◌then◌else◌, inl, inr, refl, sym, ◌∙◌, ap, subst}
use Rattle.std.proofs.lemmas.Bool.{false≢true}
use Rattle.word_ring.specs.Ends.{TakerState}
use Rattle.tty_base.specs.declared.characters.Flagged.{Flagged}
use Rattle.handle_table.specs.declared.HandleState.{HandleState}
use Rattle.ldisc_switch.specs.declared.kinds.Kind.{Kind}
use Rattle.ldisc_switch.specs.Disciplines.{kind_of_number}
use Rattle.tty_calls.specs.declared.journals.Who.TheVariants.{Caller}
use Rattle.tty_calls.specs.Plain.{PlainCall, changes, opens, closes, reads, writes, gets_modes, sets_modes}
use Rattle.tty_calls.specs.Plain.{gets_disc, sets_disc, flushes, steers, counts_input, counts_output}
use Rattle.tty_calls.specs.Plain.{excludes, admits, drains, gets_counts, hangs_up, sends_packet}
use Rattle.tty_calls.specs.Plain.{takes_packet, PlainAnswer, PlainEvent, answered, parted, waited}
use Rattle.tty_terminal.specs.declared.callers.CallerState.{CallerState}
use Rattle.tty_terminal.specs.Terminals.{Terminal, handle_at, handle_for, caller_at, has_begun}
use Rattle.tty_terminal.specs.Outcomes.{Outcome, gives, on_live}
use Rattle.tty_terminal.specs.Opening.{closing_outcome}
use Rattle.tty_terminal.specs.Switching.{change_outcome}
use Rattle.tty_terminal.specs.Calls.{outcome, outcome_of}
use Rattle.tty_terminal.specs.Steps.{MustWait, TakesPart, quiet}
use Rattle.tty_terminal.specs.Begins.{call_begins, known_call_begins, begins_generation, generation_after}
use Rattle.tty_terminal.proofs.BeginLaws.{step_generation}
use Rattle.port_core.specs.Ports.{PortValue, IsPort, Appends, call_in, kept_with, with_call, caller_entry}
use Rattle.port_core.specs.Attempts.{IsReady, PlainTried, done_by, took_part, must_wait, Attempts, Raises, IsAtOnce}
use Rattle.port_core.proofs.Calls.{known_call}

-- ---- calls that are answered at once

record AtOnce (o : Outcome) : Type 0 where
  wait : MustWait o → ⊥
  part : (n : ℕ) → TakesPart o n → ⊥

given_at_once : (a : PlainAnswer) (drops : Bool) (left : Terminal) → AtOnce (gives a drops left)
given_at_once a drops left = record { wait = λ h. h; part = λ n h. h }

either_at_once : (b : Bool) (x y : Outcome) → AtOnce x → AtOnce y → AtOnce (if b then x else y)
either_at_once true x y p q = p
either_at_once false x y p q = q

live_at_once : (t : Terminal) (handle : Option HandleState) (o : Outcome) → AtOnce o → AtOnce (on_live t handle o)
live_at_once t None o h = given_at_once _ _ _
live_at_once t (Some handle) o h = either_at_once handle.live _ _ h (given_at_once _ _ _)

closing_at_once : (t : Terminal) (h : ℕ) (handle : Option HandleState) → AtOnce (closing_outcome t h handle)
closing_at_once t h None = given_at_once _ _ _
closing_at_once t h (Some handle) = given_at_once _ _ _

change_at_once : (t : Terminal) (number : ℕ) (kind : Option Kind) → AtOnce (change_outcome t number kind)
change_at_once t number None = given_at_once _ _ _
change_at_once t number (Some kind) = given_at_once _ _ _

changes_at_once : (t : Terminal) (s : CallerState) (call : PlainCall) → changes call ≡ true → AtOnce (outcome t s call)
changes_at_once t s (opens h access nonblock) e = absurd (false≢true e)
changes_at_once t s (closes h) e = closing_at_once t h (handle_at t h)
changes_at_once t s (reads h n) e = absurd (false≢true e)
changes_at_once t s (writes h bytes) e = absurd (false≢true e)
changes_at_once t s (gets_modes h) e = absurd (false≢true e)
changes_at_once t s (sets_modes h when words) e = absurd (false≢true e)
changes_at_once t s (gets_disc h) e = absurd (false≢true e)
changes_at_once t s (sets_disc h n) e = live_at_once t (handle_for t s h) _ (change_at_once t n (kind_of_number n))
changes_at_once t s (flushes h queue) e = absurd (false≢true e)
changes_at_once t s (steers h act) e = absurd (false≢true e)
changes_at_once t s (counts_input h) e = absurd (false≢true e)
changes_at_once t s (counts_output h) e = absurd (false≢true e)
changes_at_once t s (excludes h) e = absurd (false≢true e)
changes_at_once t s (admits h) e = absurd (false≢true e)
changes_at_once t s (drains h) e = absurd (false≢true e)
changes_at_once t s (gets_counts h) e = absurd (false≢true e)
changes_at_once t s (hangs_up h) e = live_at_once t (handle_for t s h) _ (given_at_once _ _ _)
changes_at_once t s (sends_packet h bytes) e = absurd (false≢true e)
changes_at_once t s (takes_packet h) e = absurd (false≢true e)

-- none of these waits
pub changes_waits_not : (t : Terminal) (s : CallerState) (call : PlainCall)
    → MustWait (outcome t s call)
    → changes call ≡ true
    → ⊥
changes_waits_not t s call must e = (changes_at_once t s call e).wait must

found_call : (v : PortValue) (c step : ℕ) (call : PlainCall)
    → IsPort v
    → IsReady v c step call
    → call_in (kept_with (has_begun (caller_at v.terminal c)) v.kept c step call)
    c (caller_at v.terminal c).next ≡ Some call
found_call v c step call p ready = subst
    (λ n. call_in (kept_with (has_begun (caller_at v.terminal c)) v.kept c step call) c n ≡ Some call) ready.next
    (known_call v c step call p ready)

pub is_at_once : (v now : PortValue) (c step : ℕ) (call : PlainCall) (x : PlainTried)
    → IsPort v
    → IsReady v c step call
    → changes call ≡ true
    → Attempts v now c step call x
    → IsAtOnce x
is_at_once v now c step call (done_by a) p ready e h = tt
is_at_once v now c step call took_part p ready e h =
    (changes_at_once v.terminal (caller_at v.terminal c) call e).part h.count
    (subst (λ (o : Option PlainCall). TakesPart (outcome_of v.terminal (caller_at v.terminal c) o) h.count)
    (found_call v c step call p ready) h.appends.allowed.1.takes)
is_at_once v now c step call must_wait p ready e h =
    (changes_at_once v.terminal (caller_at v.terminal c) call e).wait h.must

-- ---- the generation

begins_none : (t : Terminal) (s : CallerState) (call : PlainCall) → changes call ≡ false → call_begins t s call ≡ false
begins_none t s (opens h access nonblock) e = refl
begins_none t s (closes h) e = absurd (false≢true (sym e))
begins_none t s (reads h n) e = refl
begins_none t s (writes h bytes) e = refl
begins_none t s (gets_modes h) e = refl
begins_none t s (sets_modes h when words) e = refl
begins_none t s (gets_disc h) e = refl
begins_none t s (sets_disc h n) e = absurd (false≢true (sym e))
begins_none t s (flushes h queue) e = refl
begins_none t s (steers h act) e = refl
begins_none t s (counts_input h) e = refl
begins_none t s (counts_output h) e = refl
begins_none t s (excludes h) e = refl
begins_none t s (admits h) e = refl
begins_none t s (drains h) e = refl
begins_none t s (gets_counts h) e = refl
begins_none t s (hangs_up h) e = absurd (false≢true (sym e))
begins_none t s (sends_packet h bytes) e = refl
begins_none t s (takes_packet h) e = refl

raises_if : (changing begins : Bool) (n m : ℕ)
    → m ≡ generation_after begins n
    → (changing ≡ false → begins ≡ false)
    → Raises changing n m
raises_if true true n m is none = inr is
raises_if true false n m is none = inl is
raises_if false true n m is none = absurd (false≢true (sym (none refl)))
raises_if false false n m is none = is

raises_by : (v now : PortValue) (c step : ℕ) (call : PlainCall) (f : TakerState Flagged) (event : PlainEvent)
    → Appends (with_call v c step call) now f (caller_entry v c event)
    → (changes call ≡ false
    → begins_generation (call_in (kept_with (has_begun (caller_at v.terminal c)) v.kept c step call)) v.terminal
    (Caller c) (caller_at v.terminal c).next event ≡ false)
    → Raises (changes call) v.terminal.generation now.terminal.generation
raises_by v now c step call f event h none =
    raises_if (changes call) _ v.terminal.generation now.terminal.generation
    (ap (λ (w : PortValue). w.terminal.generation) h.appended
    ∙ step_generation (call_in (kept_with (has_begun (caller_at v.terminal c)) v.kept c step call)) v.counts v.terminal
    (caller_entry v c event) h.allowed) none

either_way : (b : Bool) (X Y Z : Type 0) → (X → Z) → (Y → Z) → MatchBool b X Y → Z
either_way true X Y Z f g h = f h
either_way false X Y Z f g h = g h

pub raises : (v now : PortValue) (c step : ℕ) (call : PlainCall) (x : PlainTried)
    → IsPort v
    → IsReady v c step call
    → Attempts v now c step call x
    → Raises (changes call) v.terminal.generation now.terminal.generation
raises v now c step call (done_by a) p ready h =
    raises_by v now c step call now.flip (answered a h.dropped) h.appends
    (λ e.
    ap (λ (o : Option PlainCall). known_call_begins v.terminal (caller_at v.terminal c) o)
    (found_call v c step call p ready)
    ∙ begins_none v.terminal (caller_at v.terminal c) call e)
raises v now c step call took_part p ready h = raises_by v now c step call v.flip (parted h.count) h.appends (λ e. refl)
raises v now c step call must_wait p ready h =
    either_way (is_some (caller_at v.terminal c).waits) ((now ≡ v) × (quiet v.counts v.terminal ≡ false))
    (Appends (with_call v c step call) now v.flip (caller_entry v c waited)) _
    (λ same. raises_if (changes call) false v.terminal.generation now.terminal.generation
    (ap (λ (w : PortValue). w.terminal.generation) same.0) (λ e. refl))
    (λ appends. raises_by v now c step call v.flip waited appends (λ e. refl)) h.waits
