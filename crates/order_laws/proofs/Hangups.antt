-- What a hangup through a live handle comes to.
use Rattle.std.proofs.Common.{◌≡◌, ℕ, Bool, true, false}
use Rattle.std.proofs.Common.{Option, None, Some, IsTrue, is_some}
use Rattle.std.proofs.Common.{if◌then◌else◌, refl, sym, ap, ◌∙◌, subst}
use Rattle.std.specs.Prelude.{◌&&◌}
use Rattle.std.proofs.lemmas.Bool.{false≢true}
use Rattle.tty_calls.specs.Plain.{PlainCall, hangs_up, PlainAnswer, done}
use Rattle.handle_table.specs.declared.HandleState.{HandleState}
use Rattle.handle_table.specs.Handles.{is_live}
use Rattle.tty_terminal.specs.declared.callers.Bound.{Bound}
use Rattle.tty_terminal.specs.declared.callers.CallerState.{CallerState}
use Rattle.tty_terminal.specs.Terminals.{Terminal, caller_at, has_begun, handle_at, is_bound, bound_or}
use Rattle.tty_terminal.specs.Generations.{after_hangup}
use Rattle.tty_terminal.specs.Outcomes.{Outcome, gives, on_live}
use Rattle.tty_terminal.specs.Switching.{hangup_outcome}
use Rattle.tty_terminal.specs.Calls.{outcome, outcome_of}
use Rattle.tty_terminal.specs.Steps.{Answers, MustWait, TakesPart, quiet}
use Rattle.port_core.specs.Attempts.{PlainTried, done_by, took_part, must_wait, Attempts}
use Rattle.port_core.specs.Ports.{PortValue, call_in, with_call}
use Rattle.one_thread.specs.Acts.{MakesCall}
use Rattle.order_laws.specs.Begun.{begun_at}

bound_none : (o : Option Bound) (now : Option HandleState) → is_bound o ≡ false → bound_or o now ≡ now
bound_none None now e = refl
bound_none (Some b) now e = absurd (false≢true (sym e))

live_does : (t : Terminal) (o : Option HandleState) (live : Outcome) → IsTrue (is_live o) → on_live t o live ≡ live
live_does t None live is = absurd (false≢true is)
live_does t (Some handle) live is =
    ap (λ (b : Bool). if b then live else on_live t (Some (record handle { live = false })) live) is

-- through a live handle it does what it is for
hangup_is : (t : Terminal) (s : CallerState) (h : ℕ)
    → has_begun s ≡ false
    → IsTrue (is_live (handle_at t h))
    → outcome t s (hangs_up h) ≡ gives done true (after_hangup t)
hangup_is t s h rest live =
    ap (λ (o : Option HandleState). on_live t o (hangup_outcome t)) (bound_none s.bound (handle_at t h) rest)
    ∙ live_does t (handle_at t h) (hangup_outcome t) live

done_answer : (may : Bool) (left : Terminal) (answer : PlainAnswer) (o : Outcome)
    → o ≡ gives done true left
    → Answers may o answer
    → answer ≡ done
done_answer may left answer o is h = subst (λ (x : Outcome). Answers may x answer) is h

no_part : (left : Terminal) (n : ℕ) (o : Outcome) → o ≡ gives done true left → TakesPart o n → ⊥
no_part left n o is h = subst (λ (x : Outcome). TakesPart x n) is h

no_wait : (left : Terminal) (o : Outcome) → o ≡ gives done true left → MustWait o → ⊥
no_wait left o is h = subst MustWait is h

module _ (old new : PortValue) (c h : ℕ) (rest : begun_at old c ≡ false)
    (live : IsTrue (is_live (handle_at old.terminal h))) (makes : MakesCall old new c (hangs_up h)) where
  abbrev next : ℕ
  next = (caller_at old.terminal c).next

  known : (v : PortValue)
      → new.kept ≡ v.kept
      → outcome_of old.terminal (caller_at old.terminal c) (call_in v.kept c next)
      ≡ gives done true (after_hangup old.terminal)
  known v kept =
      ap (λ (o : Option PlainCall). outcome_of old.terminal (caller_at old.terminal c) o)
      (ap (λ ks. call_in ks c next) (sym kept) ∙ makes.kept)
      ∙ hangup_is old.terminal (caller_at old.terminal c) h rest live

  pub is_done : (tried : PlainTried) → Attempts old new c next (hangs_up h) tried → tried ≡ done_by done
  is_done (done_by answer) a =
      ap (λ (x : PlainAnswer). done_by x)
      (done_answer (is_some (caller_at old.terminal c).waits && quiet old.counts old.terminal)
      (after_hangup old.terminal) answer _
      (known (with_call old c next (hangs_up h)) (ap (λ (v : PortValue). v.kept) a.appends.appended))
      a.appends.allowed.1.answer)
  is_done took_part a = absurd (no_part (after_hangup old.terminal) a.count _
      (known (with_call old c next (hangs_up h)) (ap (λ (v : PortValue). v.kept) a.appends.appended))
      a.appends.allowed.1.takes)
  is_done must_wait a = absurd
      (no_wait (after_hangup old.terminal) _ (hangup_is old.terminal (caller_at old.terminal c) h rest live) a.must)
