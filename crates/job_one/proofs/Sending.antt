-- The port's new signals are sent on, one after the other.
use Rattle.std.proofs.Common.{◌≡◌, ◌≤◌, inl, inr, ℕ, zero, suc, ◌+◌, List, [], ◌∷◌, ◌++◌, None}
use Rattle.std.proofs.Common.{Some, length, drop, get_or, refl, sym, ap, ◌∙◌, subst, arith, length-drop}
use Rattle.std.specs.Prelude.{slice_get}
use Rattle.std.proofs.lemmas.Bool.{cases_lt}
use Rattle.std.proofs.lemmas.List.{drop_more}
use Rattle.std.proofs.lemmas.Option.{get_or_from_slice_get, slice_get_within, slice_get-get_or}
use Rattle.tty_base.specs.declared.counters.Signal.{Signal}
use Rattle.tty_base.specs.declared.counters.Signal.TheVariants.{Int}
use Rattle.port_core.specs.Ports.{PortValue, IsPort}
use Rattle.play_base.specs.Roles.{Scene}
use Rattle.job_text.specs.Events.{sent}
use Rattle.job_text.specs.Sessions.{JobsSession}
use Rattle.passed_calls.specs.Derived.{Passing}
use Rattle.job_steps.specs.Derived.{passings_on}
use Rattle.job_steps.specs.Steps.{job_signal, foreground_target}
use Rattle.job_one.specs.Desk.{signals_of, IsDeskAt}
use Rattle.job_one.specs.Events.{DeskState, sent_on, all_sent_on, new_sent_on, IsSameDesk, HasRaised, StandsAt}
use Rattle.job_one.proofs.DeskEvents.{desk_raises}
use Rattle.job_one.proofs.Mine.{logged_more}

-- ---- the first that was not sent on, and the others

drop_some : (xs : List Signal) (n : ℕ) (s : Signal) → slice_get xs n ≡ Some s → drop n xs ≡ s ∷ drop (n + 1) xs
drop_some xs n s is =
    drop_more xs n s (slice_get_within xs n s is)
    ∙ ap (λ (x : Signal). x ∷ drop (n + 1) xs) (get_or_from_slice_get xs n s s is)

drop_none : (xs : List Signal) (n : ℕ) → slice_get xs n ≡ None → drop n xs ≡ []
drop_none xs n none = elim (cases_lt n (length xs)) [
  | inl lt ↦ let there = sym (slice_get-get_or xs n Int lt) ∙ none in absurd (cc)
  | inr le ↦ empty (drop n xs) (omega (arith, length-drop n xs))
]
  where
    empty : (ys : List Signal) → length ys ≡ 0 → ys ≡ []
    empty [] e = refl
    empty (y ∷ ys) e = absurd (omega (arith, e))

pub one_more : (v : PortValue) (s : Signal) (d : DeskState)
    → slice_get (signals_of v.terminal) d.sent ≡ Some s
    → new_sent_on v (sent_on v s d) ≡ new_sent_on v d
one_more v s d is = sym (ap (λ (ss : List Signal). all_sent_on v ss d) (drop_some (signals_of v.terminal) d.sent s is))

pub none_more : (v : PortValue) (d : DeskState) → slice_get (signals_of v.terminal) d.sent ≡ None → new_sent_on v d ≡ d
none_more v d none = ap (λ (ss : List Signal). all_sent_on v ss d) (drop_none (signals_of v.terminal) d.sent none)

-- ---- what all of them leave

-- what holds at a desk holds behind all, where it does behind each
past : (xs : List Signal) (i : ℕ) → length xs ≤ i → slice_get xs i ≡ None
past [] i le = refl
past (x ∷ xs) zero le = absurd (omega arith)
past (x ∷ xs) (suc i) le = past xs i (omega arith)

none_left : (v : PortValue) (d : DeskState) → length (signals_of v.terminal) ≤ d.sent → new_sent_on v d ≡ d
none_left v d le = none_more v d (past (signals_of v.terminal) d.sent le)

each_sent : (P : DeskState → Type 0) (v : PortValue) (n : ℕ)
    → ((s : Signal) (d : DeskState)
    → n ≤ d.sent
    → slice_get (signals_of v.terminal) d.sent ≡ Some s
    → P d
    → P (sent_on v s d))
    → (count : ℕ) (d : DeskState)
    → n ≤ d.sent
    → length (signals_of v.terminal) ≤ d.sent + count
    → P d
    → P (new_sent_on v d)
each_sent P v n each zero d low high h = subst P (sym (none_left v d (omega (arith, high)))) h
each_sent P v n each (suc count) d low high h = elim (cases_lt d.sent (length (signals_of v.terminal))) [
  | inl lt ↦
      let s : Signal = get_or (signals_of v.terminal) d.sent Int in
      let is : slice_get (signals_of v.terminal) d.sent ≡ Some s =
      slice_get-get_or (signals_of v.terminal) d.sent Int lt in
      subst P (one_more v s d is)
      (each_sent P v n each count (sent_on v s d) (omega (arith, low)) (omega (arith, high)) (each s d low is h))
  | inr le ↦ subst P (sym (none_left v d le)) h
]

pub all_sent : (P : DeskState → Type 0) (v : PortValue) (d : DeskState)
    → ((s : Signal) (x : DeskState)
    → d.sent ≤ x.sent
    → slice_get (signals_of v.terminal) x.sent ≡ Some s
    → P x
    → P (sent_on v s x))
    → P d
    → P (new_sent_on v d)
all_sent P v d each h = each_sent P v d.sent each (length (signals_of v.terminal)) d (omega arith) (omega arith) h

-- .. so all are sent on then
sent_all : (v : PortValue) (count : ℕ) (d : DeskState)
    → length (signals_of v.terminal) ≤ d.sent + count
    → length (signals_of v.terminal) ≤ (new_sent_on v d).sent
sent_all v zero d high = subst (λ (x : DeskState). length (signals_of v.terminal) ≤ x.sent)
    (sym (none_left v d (omega (arith, high)))) (omega (arith, high))
sent_all v (suc count) d high = elim (cases_lt d.sent (length (signals_of v.terminal))) [
  | inl lt ↦
      let s : Signal = get_or (signals_of v.terminal) d.sent Int in
      let is : slice_get (signals_of v.terminal) d.sent ≡ Some s =
      slice_get-get_or (signals_of v.terminal) d.sent Int lt in
      subst (λ (x : DeskState). length (signals_of v.terminal) ≤ x.sent) (one_more v s d is)
      (sent_all v count (sent_on v s d) (omega (arith, high)))
  | inr le ↦ subst (λ (x : DeskState). length (signals_of v.terminal) ≤ x.sent) (sym (none_left v d le)) le
]

pub sent_up : (v : PortValue) (d : DeskState) → length (signals_of v.terminal) ≤ (new_sent_on v d).sent
sent_up v d = sent_all v (length (signals_of v.terminal)) d (omega arith)

pub same_desk : (v : PortValue) (d : DeskState) → IsSameDesk d (new_sent_on v d)
same_desk v d =
    all_sent (IsSameDesk d) v d
    (λ s x low is h. record { number = h.number; callers = h.callers; jobs = h.jobs; next = h.next })
    (record { number = refl; callers = refl; jobs = refl; next = refl })

-- ---- the log

one_stands : (first : Scene) (session : JobsSession) (v : PortValue) (n : ℕ)
    → IsPort v
    → HasRaised v n
    → (s : Signal) (x : DeskState)
    → n ≤ x.sent
    → slice_get (signals_of v.terminal) x.sent ≡ Some s
    → StandsAt first session v x
    → StandsAt first session v (sent_on v s x)
one_stands first session v n port raised s x low is h = record {
  number = h.number;
  desk = subst (λ (p : ℕ). IsDeskAt first session
      (x.log ++ record { port = p; at = length v.journal; event = sent (job_signal s) (foreground_target x.jobs) } ∷ [])
      v x.jobs x.next (x.sent + 1) []) h.number
      (desk_raises first session x.log raised.old v raised.entry x.jobs x.next x.sent s raised.was port raised.by h.desk
      (omega (arith, raised.fresh, low)) is);
}

pub all_stand : (first : Scene) (session : JobsSession) (v : PortValue) (d : DeskState)
    → IsPort v
    → HasRaised v d.sent
    → StandsAt first session v d
    → StandsAt first session v (new_sent_on v d)
all_stand first session v d port raised h =
    all_sent (StandsAt first session v) v d (one_stands first session v d.sent port raised) h

-- and nothing is passed down
one_passes : (session : JobsSession) (p : ℕ) (ms : List Passing) (v : PortValue) (s : Signal) (x : DeskState)
    → p ≡ x.number
    → passings_on session x.log p ≡ ms
    → passings_on session (sent_on v s x).log p ≡ ms
one_passes session p ms v s x number h =
    subst (λ (q : ℕ).
    passings_on session
    (x.log ++ record { port = q; at = length v.journal; event = sent (job_signal s) (foreground_target x.jobs) } ∷ []) p
    ≡ passings_on session x.log p) number
    (logged_more session x.log p (length v.journal) (sent (job_signal s) (foreground_target x.jobs)) refl)
    ∙ h

-- the port of the desk, and what was passed down on it
record Passes (session : JobsSession) (p : ℕ) (ms : List Passing) (x : DeskState) : Type 0 where
  number : p ≡ x.number
  are : passings_on session x.log p ≡ ms

pub all_pass : (session : JobsSession) (v : PortValue) (d : DeskState)
    → passings_on session (new_sent_on v d).log d.number ≡ passings_on session d.log d.number
all_pass session v d =
    (all_sent (Passes session d.number (passings_on session d.log d.number)) v d
    (λ s x low is h. record {
      number = h.number;
      are = one_passes session d.number (passings_on session d.log d.number) v s x h.number h.are;
    })
    (record { number = refl; are = refl })).are
