-- An outcome that drops what waits in the flip buffer is answered Done, and which calls these are.
use Rattle.std.proofs.Common.{◌≡◌, ℕ, ◌<◌, List, Bool, true, false, Option, None, Some}
use Rattle.std.proofs.Common.{if◌then◌else◌, length, is_some, ◌&&◌, refl, sym, ◌∙◌, subst, arith}
use Rattle.std.proofs.lemmas.Bool.{and_parts, false≢true}
use Rattle.tty_base.specs.declared.characters.Flagged.{Flagged}
use Rattle.tty_calls.specs.declared.calls.When.{When}
use Rattle.tty_calls.specs.declared.calls.When.TheVariants as when
use Rattle.tty_calls.specs.declared.calls.Queue.{Queue}
use Rattle.tty_calls.specs.declared.calls.Queue.TheVariants as queue
use Rattle.tty_calls.specs.declared.journals.Who.{Who}
use Rattle.tty_calls.specs.declared.journals.Who.TheVariants.{Caller, Flusher, Line, Clock, Session}
use Rattle.tty_calls.specs.Plain.{PlainCall, opens, closes, reads, writes, gets_modes, sets_modes, gets_disc}
use Rattle.tty_calls.specs.Plain.{sets_disc, flushes, steers, counts_input, counts_output, excludes, admits, drains}
use Rattle.tty_calls.specs.Plain.{gets_counts, hangs_up, sends_packet, takes_packet, PlainAnswer, done, PlainEvent}
use Rattle.tty_calls.specs.Plain.{answered, PlainEntry}
use Rattle.tty_modes.specs.Settings.{Settings}
use Rattle.handle_table.specs.declared.HandleState.{HandleState}
use Rattle.handle_table.specs.Handles.{is_live}
use Rattle.tty_terminal.specs.declared.callers.CallerState.{CallerState}
use Rattle.tty_terminal.specs.Terminals.{Terminal, handle_for, caller_at}
use Rattle.tty_terminal.specs.Outcomes.{Outcome, unknown, waits, takes, gives, on_live}
use Rattle.tty_terminal.specs.Modes.{is_drained, modes_outcome}
use Rattle.tty_terminal.specs.Switching.{hangup_outcome}
use Rattle.tty_terminal.specs.Flow.{flush_outcome}
use Rattle.tty_terminal.specs.Calls.{outcome, outcome_of}
use Rattle.tty_terminal.specs.Meeting.{drops_of}
use Rattle.tty_terminal.specs.Steps.{quiet, Answers, Drops, IsAllowed, Allowed}
use Rattle.tty_terminal.specs.Questions.{drops_input, is_of_input, call_drops, is_purge, IsPurged}
use Rattle.tty_terminal.proofs.QuestionLemmas.{outcome_drops}

-- it is Done where it drops
abbrev IsDone : Outcome → Type 0
IsDone o = drops_of o ≡ true → (left : Terminal) × (o ≡ gives done true left)

never : (o : Outcome) → drops_of o ≡ false → IsDone o
never o none drops = absurd (false≢true (sym none ∙ drops))

either : (b : Bool) (x y : Outcome) → IsDone x → IsDone y → IsDone (if b then x else y)
either true x y p q = p
either false x y p q = q

live_done : (t : Terminal) (o : Option HandleState) (x : Outcome) → IsDone x → IsDone (on_live t o x)
live_done t None x h = never _ refl
live_done t (Some handle) x h = either handle.live x _ h (never _ refl)

modes_done : (t : Terminal) (w : When) (new : Settings) → IsDone (modes_outcome t w new)
modes_done t when.Now new = never _ refl
modes_done t when.Drain new = either (is_drained t) _ _ (never _ refl) (never _ refl)
modes_done t when.Flush new = either (is_drained t) _ _ (λ drops. (_, refl)) (never _ refl)

flush_done : (t : Terminal) (q : Queue) → IsDone (flush_outcome t q)
flush_done t queue.Input = λ drops. (_, refl)
flush_done t queue.Output = never _ refl
flush_done t queue.Both = λ drops. (_, refl)

-- a call that drops nothing
spares : (t : Terminal) (s : CallerState) (call : PlainCall) → call_drops t s call ≡ false → IsDone (outcome t s call)
spares t s call none = never (outcome t s call) (outcome_drops t s call ∙ none)

pub outcome_done : (t : Terminal) (s : CallerState) (call : PlainCall)
    → drops_of (outcome t s call) ≡ true
    → (left : Terminal) × (outcome t s call ≡ gives done true left)
outcome_done t s (opens h access nonblock) = spares t s (opens h access nonblock) refl
outcome_done t s (closes h) = spares t s (closes h) refl
outcome_done t s (reads h n) = spares t s (reads h n) refl
outcome_done t s (writes h bytes) = spares t s (writes h bytes) refl
outcome_done t s (gets_modes h) = spares t s (gets_modes h) refl
outcome_done t s (sets_modes h w words) = live_done t (handle_for t s h) _ (modes_done t w _)
outcome_done t s (gets_disc h) = spares t s (gets_disc h) refl
outcome_done t s (sets_disc h n) = spares t s (sets_disc h n) refl
outcome_done t s (flushes h q) = live_done t (handle_for t s h) _ (flush_done t q)
outcome_done t s (steers h act) = spares t s (steers h act) refl
outcome_done t s (counts_input h) = spares t s (counts_input h) refl
outcome_done t s (counts_output h) = spares t s (counts_output h) refl
outcome_done t s (excludes h) = spares t s (excludes h) refl
outcome_done t s (admits h) = spares t s (admits h) refl
outcome_done t s (drains h) = spares t s (drains h) refl
outcome_done t s (gets_counts h) = spares t s (gets_counts h) refl
outcome_done t s (hangs_up h) = live_done t (handle_for t s h) (hangup_outcome t) (λ drops. (_, refl))
outcome_done t s (sends_packet h bytes) = spares t s (sends_packet h bytes) refl
outcome_done t s (takes_packet h) = spares t s (takes_packet h) refl

-- which calls these are
purge_of : (t : Terminal) (s : CallerState) (call : PlainCall) → call_drops t s call ≡ true → is_purge call ≡ true
purge_of t s (sets_modes h w words) drops =
    (and_parts (drops_input w) (is_drained t) (and_parts (is_live (handle_for t s h)) _ drops).1).0
purge_of t s (flushes h q) drops = (and_parts (is_live (handle_for t s h)) (is_of_input q) drops).1
purge_of t s (hangs_up h) drops = refl
purge_of t s call drops = drops

pub outcome_purge : (t : Terminal) (s : CallerState) (call : PlainCall)
    → drops_of (outcome t s call) ≡ true
    → is_purge call ≡ true
outcome_purge t s call drops = purge_of t s call (sym (outcome_drops t s call) ∙ drops)

-- ---- entries

dropping : (t : Terminal) (may : Bool) (o : Outcome) (a : PlainAnswer) (n : ℕ)
    → Answers may o a
    → Drops t o n
    → 0 < n
    → drops_of o ≡ true
dropping t may unknown a n answers drops some = absurd answers
dropping t may waits a n answers drops some = absurd (omega arith)
dropping t may (takes taken left) a n answers drops some = absurd answers
dropping t may (gives answer false left) a n answers drops some = absurd (omega arith)
dropping t may (gives answer true left) a n answers drops some = refl

call_purged : (t : Terminal) (s : CallerState) (may : Bool) (call : PlainCall) (a : PlainAnswer) (n : ℕ)
    → Answers may (outcome t s call) a → Drops t (outcome t s call) n → 0 < n → (is_purge call ≡ true) × (a ≡ done)
call_purged t s may call a n answers drops some =
    let dropped = dropping t may (outcome t s call) a n answers drops some in
    let is = outcome_done t s call dropped in
    (outcome_purge t s call dropped, subst (λ (o : Outcome). Answers may o a) is.1 answers)

known_purged : (f : ℕ → ℕ → Option PlainCall) (t : Terminal) (c step : ℕ) (may : Bool) (o : Option PlainCall)
    (a : PlainAnswer) (n : ℕ)
    → f c step ≡ o
    → Answers may (outcome_of t (caller_at t c) o) a
    → Drops t (outcome_of t (caller_at t c) o) n
    → 0 < n
    → IsPurged f (Caller c) step a
known_purged f t c step may None a n asked answers drops some = absurd answers
known_purged f t c step may (Some call) a n asked answers drops some =
    let purged = call_purged t (caller_at t c) may call a n answers drops some in
    record { caller = c; call = call; by = refl; asked = asked; purge = purged.0; answer = purged.1 }

answer_purged : (f : ℕ → ℕ → Option PlainCall) (counts : List ℕ) (t : Terminal) (who : Who) (step part : ℕ)
    (a : PlainAnswer) (dropped : List Flagged)
    → IsAllowed f counts t who step part (answered a dropped)
    → 0 < length dropped
    → IsPurged f who step a
answer_purged f counts t (Caller c) step part a dropped h some =
    known_purged f t c step (is_some (caller_at t c).waits && quiet counts t) (f c step) a (length dropped)
    refl h.answer h.drops some
answer_purged f counts t Flusher step part a dropped h some = absurd h
answer_purged f counts t Line step part a dropped h some = absurd h
answer_purged f counts t Clock step part a dropped h some = absurd h
answer_purged f counts t Session step part a dropped h some = absurd h

pub entry_purged : (f : ℕ → ℕ → Option PlainCall) (counts : List ℕ) (t : Terminal) (e : PlainEntry) (a : PlainAnswer)
    (dropped : List Flagged)
    → Allowed f counts t e
    → e.event ≡ answered a dropped
    → 0 < length dropped
    → IsPurged f e.who e.step a
entry_purged f counts t e a dropped h is some =
    answer_purged f counts t e.who e.step e.part a dropped
    (subst (λ (event : PlainEvent). IsAllowed f counts t e.who e.step e.part event) is h.1) some
