-- What a call leaves, by what it met.
use Rattle.std.proofs.Common.{◌≡◌, ℕ, ◌<◌, ◌^◌, List, true, not, ◌&&◌, nat_lt}
use Rattle.std.proofs.Common.{Some, length, slice_set, refl, sym, ◌∙◌, ap, arith}
use Rattle.std.proofs.lemmas.Bool.Decides.{nat_tests}
use Rattle.std.proofs.lemmas.List.{length-set}
use Rattle.std.proofs.lemmas.Bool.{and_from, cond-true, cond-false}
use Rattle.tty_base.specs.Sizes.{MOST_HANDLES}
use Rattle.tty_calls.specs.Plain.{PlainCall, handle_of}
use Rattle.tty_terminal.specs.declared.callers.CallerState.{CallerState}
use Rattle.tty_terminal.specs.declared.rooms.Met.{Met}
use Rattle.tty_terminal.specs.declared.rooms.Met.TheVariants as met
use Rattle.tty_terminal.specs.Terminals.{Terminal, idle_caller}
use Rattle.tty_terminal.specs.Outcomes.{Outcome, unknown, waits, takes, gives}
use Rattle.tty_terminal.specs.Calls.{outcome}
use Rattle.tty_terminal.specs.Steps.{left_by, with_caller}
use Rattle.tty_terminal.specs.Meeting.{Meets}
use Rattle.tty_terminal.proofs.Effects.{outcome_keeps}
use Rattle.tty_device.specs.declared.askers.Asker.{Asker}
use Rattle.tty_device.specs.declared.askers.Verb.{Verb}
use Rattle.tty_device.specs.Askers.{state_of, verb_of}
use Rattle.tty_terminal.specs.Kept.{kept}
use Rattle.tty_device.specs.Acts.{settled, verbs_after}
use Rattle.tty_device.specs.Devices.{DeviceState, state_for, is_known, outcome_for}
use Rattle.tty_device.specs.Devices.{caller_waiting, after_outcome, after_call, with_taken_of}
use Rattle.ldisc_switch.specs.Disciplines.{column_in}
use Rattle.tty_device.proofs.Handing.{kept_column}

-- as many callers as before
pub same_callers : (t : Terminal) (s : CallerState) (call : PlainCall)
    → length (left_by (outcome t s call) t).callers ≡ length t.callers
same_callers t s call = (outcome_keeps t s (Some call)).left.callers

-- a device whose terminal and verbs are these
abbrev pub with_both : DeviceState → Terminal → List Verb → DeviceState
with_both d t verbs = record d { terminal = t; verbs = verbs }

-- what is noted by what was met is what the outcome leaves
pub settled_is : (d : DeviceState) (c : ℕ) (asker : Asker) (call : PlainCall) (o : Outcome) (m : Met)
    → state_for d c call ≡ state_of asker
    → Meets o m
    → with_both d (settled (left_by o d.terminal) c asker call m) (verbs_after d.verbs c call m)
    ≡ after_outcome d c call o
settled_is d c asker call unknown m same meets = absurd meets
settled_is d c asker call waits met.Waits same meets =
    ap (λ (s : CallerState). with_both d
    (kept (with_caller d.terminal c (caller_waiting d.terminal s (handle_of call))))
    (slice_set d.verbs c (verb_of call)))
    (sym same)
settled_is d c asker call waits (met.Gives answer) same meets = absurd meets
settled_is d c asker call waits (met.Takes n) same meets = absurd meets
settled_is d c asker call (takes taken left) met.Waits same meets = absurd meets
settled_is d c asker call (takes taken left) (met.Gives answer) same meets = absurd meets
settled_is d c asker call (takes taken left) (met.Takes n) same meets = refl
settled_is d c asker call (gives answer drops left) met.Waits same meets = absurd meets
settled_is d c asker call (gives answer drops left) (met.Gives given) same meets = refl
settled_is d c asker call (gives answer drops left) (met.Takes n) same meets = absurd meets

lt-ltb : (a b : ℕ) → a < b → nat_lt a b ≡ true
lt-ltb a b lt = grind (arith, nat_tests)

-- a call of a caller that is there, on a number that a handle can have
module _ (d : DeviceState) (c : ℕ) (call : PlainCall) (known : c < length d.terminal.callers)
    (number : handle_of call < MOST_HANDLES) where
  pub outcome_is : outcome_for d c call ≡ outcome d.terminal (state_for d c call) call
  outcome_is =
      cond-false (not (is_known d c)) _ _ (ap not (lt-ltb c (length d.terminal.callers) known))
      ∙ cond-false (not (nat_lt (handle_of call) MOST_HANDLES)) _ _
      (ap not (lt-ltb (handle_of call) MOST_HANDLES number))

  left_is : after_call d c call ≡ after_outcome d c call (outcome d.terminal (state_for d c call) call)
  left_is = cond-true (is_known d c && nat_lt (handle_of call) MOST_HANDLES) _ _
      (and_from (is_known d c) (nat_lt (handle_of call) MOST_HANDLES) (lt-ltb c (length d.terminal.callers) known)
      (lt-ltb (handle_of call) MOST_HANDLES number))

  -- what is noted once it met something
  pub call_left : (asker : Asker) (m : Met) (u : Terminal)
      → state_for d c call ≡ state_of asker
      → Meets (outcome d.terminal (state_of asker) call) m
      → u ≡ left_by (outcome d.terminal (state_of asker) call) d.terminal
      → with_both d (settled u c asker call m) (verbs_after d.verbs c call m) ≡ after_call d c call
  call_left asker m u same meets left =
      let o : Outcome = outcome d.terminal (state_of asker) call in
      ap (λ (t : Terminal). with_both d (settled t c asker call m) (verbs_after d.verbs c call m)) left
      ∙ (settled_is d c asker call o m same meets
      ∙ (ap (λ (s : CallerState). after_outcome d c call (outcome d.terminal s call)) (sym same)
      ∙ sym left_is))

-- what is settled is kept
settled_kept : (t : Terminal) (c : ℕ) (asker : Asker) (call : PlainCall) (m : Met)
    → (s : CallerState) × (settled t c asker call m ≡ kept (with_caller t c s))
settled_kept t c asker call met.Waits = (caller_waiting t (state_of asker) (handle_of call), refl)
settled_kept t c asker call (met.Gives answer) = (idle_caller, refl)
settled_kept t c asker call (met.Takes n) = (idle_caller, refl)

module _ (t u : Terminal) (c : ℕ) (asker : Asker) (call : PlainCall) (m : Met) (is : u ≡ settled t c asker call m) where
  pub settled_generation : u.generation ≡ 0
  settled_generation = ap (λ (x : Terminal). x.generation) (is ∙ (settled_kept t c asker call m).1)

  pub settled_uncounted : u.taken ≡ 0
  settled_uncounted = ap (λ (x : Terminal). x.taken) (is ∙ (settled_kept t c asker call m).1)

  pub settled_column : column_in u.disc < 2 ^ 32
  settled_column =
      kept_column (with_caller t c (settled_kept t c asker call m).0) u (is ∙ (settled_kept t c asker call m).1)

  pub settled_callers : length u.callers ≡ length t.callers
  settled_callers =
      ap (λ (x : Terminal). length x.callers) (is ∙ (settled_kept t c asker call m).1)
      ∙ length-set t.callers c (settled_kept t c asker call m).0

pub as_many_verbs : (verbs : List Verb) (c : ℕ) (call : PlainCall) (m : Met)
    → length (verbs_after verbs c call m) ≡ length verbs
as_many_verbs verbs c call met.Waits = length-set verbs c (verb_of call)
as_many_verbs verbs c call (met.Gives answer) = refl
as_many_verbs verbs c call (met.Takes n) = refl

-- a device with this terminal and these verbs is what a call leaves, beside what was taken and shown
pub with_both_left : (d v w : DeviceState) (t : Terminal) (verbs : List Verb)
    → with_both d t verbs ≡ w
    → v.terminal ≡ t
    → v.verbs ≡ verbs
    → v.ring ≡ d.ring
    → v.line ≡ d.line
    → v ≡ with_taken_of v w
with_both_left d v w t verbs left terminal same ring line =
    (λ i.
    record { terminal = terminal i; verbs = same i; ring = ring i; taken = v.taken; shown = v.shown; line = line i })
    ∙ ap (with_taken_of v) left
