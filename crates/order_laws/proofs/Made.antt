-- The calls that callers have made, as the port goes on.
use Rattle.std.proofs.Common.{◌≡◌, ◌⊎◌, inl, inr, ℕ, ◌+◌, Bool, true, false, List}
use Rattle.std.proofs.Common.{length, if◌then◌else◌, refl, sym, ap, ◌∙◌, subst}
use Rattle.std.proofs.lemmas.Bool.{cases_eq, false≢true, ne_eqb, eq-eqb}
use Rattle.tty_calls.specs.declared.sessions.Script.{Script}
use Rattle.tty_calls.specs.declared.journals.Who.{Who}
use Rattle.tty_calls.specs.declared.journals.Who.TheVariants.{Caller}
use Rattle.tty_calls.specs.Plain.{PlainCall, PlainEvent, answered, parted, waited, flushed, ticked, line_ended}
use Rattle.tty_calls.specs.Plain.{clock_ended, caller_ended, phase_ended, hung_up, PlainEntry, is_caller}
use Rattle.tty_calls.specs.Sessions.{PlainSession, call_at, counts_on}
use Rattle.tty_terminal.specs.Terminals.{Terminal, caller_at}
use Rattle.tty_terminal.specs.Standing.{Standing, standing_of, standing_after_own, standing_after_other, standing_after}
use Rattle.tty_terminal.specs.Runs.{is_of_call}
use Rattle.tty_terminal.proofs.StandingLaws.{step_stands}
use Rattle.passed_calls.specs.Derived.{Passing, BlockPhase, all_calls}
use Rattle.passed_calls.proofs.Ordered.{passed_in_order}
use Rattle.port_core.specs.Ports.{PortValue}
use Rattle.play_base.specs.Roles.{Scene}
use Rattle.play_base.specs.Scenes.{AreAtFirst}
use Rattle.one_thread.specs.Turns.{role_numbers, who_of, Adds, TakesTurn, standing_at}
use Rattle.play_base.specs.declared.roles.Role.{Role}
use Rattle.one_thread.specs.declared.after_line.Stand.{Stand}
use Rattle.one_thread.specs.declared.after_line.Turn.{Turn}
use Rattle.order_laws.specs.Passed.{begin_of, IsPassedBy, AreBefore, AreMade, made_of, made_by}
use Rattle.order_laws.proofs.Counted.{first_is}

-- ---- by one entry

other_keeps : (event : PlainEvent) (q : Standing) → made_of (standing_after_other event q) ≡ made_of q
other_keeps (answered a dropped) q = refl
other_keeps (parted n) q = refl
other_keeps waited q = refl
other_keeps (flushed chars) q = refl
other_keeps ticked q = refl
other_keeps (line_ended n) q = refl
other_keeps clock_ended q = refl
other_keeps caller_ended q = refl
other_keeps phase_ended q = refl
other_keeps (hung_up dropped) q = refl

own_keeps : (event : PlainEvent) (g : ℕ) (q : Standing)
    → is_of_call event ≡ false
    → made_of (standing_after_own event g q) ≡ made_of q
own_keeps (answered a dropped) g q e = absurd (false≢true (sym e))
own_keeps (parted n) g q e = absurd (false≢true (sym e))
own_keeps waited g q e = absurd (false≢true (sym e))
own_keeps (flushed chars) g q e = refl
own_keeps ticked g q e = refl
own_keeps (line_ended n) g q e = refl
own_keeps clock_ended g q e = refl
own_keeps caller_ended g q e = refl
own_keeps phase_ended g q e = refl
own_keeps (hung_up dropped) g q e = refl

own_makes : (event : PlainEvent) (g : ℕ) (q : Standing)
    → is_of_call event ≡ true
    → made_of (standing_after_own event g q) ≡ q.next + 1
own_makes (answered a dropped) g q e = refl
own_makes (parted n) g q e = refl
own_makes waited g q e = refl
own_makes (flushed chars) g q e = absurd (false≢true e)
own_makes ticked g q e = absurd (false≢true e)
own_makes (line_ended n) g q e = absurd (false≢true e)
own_makes clock_ended g q e = absurd (false≢true e)
own_makes caller_ended g q e = absurd (false≢true e)
own_makes phase_ended g q e = absurd (false≢true e)
own_makes (hung_up dropped) g q e = absurd (false≢true e)

-- where each caller stands after it
stands : (s : Scene) (v w : PortValue) (h : Adds s v w) (c : ℕ)
    → standing_at w c ≡ standing_after c h.entry (standing_at v c)
stands s v w h c =
    ap (λ (t : Terminal). standing_of (caller_at t c)) h.leads
    ∙ step_stands (call_at s.port s.session) (counts_on s.port s.session) v.terminal h.entry h.allowed c

after_other : (c : ℕ) (e : PlainEntry) (q : Standing)
    → is_caller e.who c ≡ false
    → made_of (standing_after c e q) ≡ made_of q
after_other c e q other =
    ap (λ (b : Bool). made_of (if b then standing_after_own e.event e.generation q else standing_after_other e.event q))
    other
    ∙ other_keeps e.event q

after_own : (c : ℕ) (e : PlainEntry) (q : Standing)
    → is_caller e.who c ≡ true
    → is_of_call e.event ≡ false
    → made_of (standing_after c e q) ≡ made_of q
after_own c e q own none =
    ap (λ (b : Bool). made_of (if b then standing_after_own e.event e.generation q else standing_after_other e.event q))
    own
    ∙ own_keeps e.event e.generation q none

after_call : (c : ℕ) (e : PlainEntry) (q : Standing)
    → is_caller e.who c ≡ true
    → is_of_call e.event ≡ true
    → made_of (standing_after c e q) ≡ q.next + 1
after_call c e q own call =
    ap (λ (b : Bool). made_of (if b then standing_after_own e.event e.generation q else standing_after_other e.event q))
    own
    ∙ own_makes e.event e.generation q call

test_cases : (b : Bool) → (b ≡ true) ⊎ (b ≡ false)
test_cases true = inl refl
test_cases false = inr refl

-- an entry that is of no call
pub made_same : (s : Scene) (v w : PortValue) (mine : ℕ → List Passing) (h : Adds s v w)
    → is_of_call h.entry.event ≡ false
    → AreMade mine v
    → AreMade mine w
made_same s v w mine h none made c =
    made c ∙ sym (ap made_of (stands s v w h c) ∙ elim (test_cases (is_caller h.entry.who c)) [
      | inl own ↦ after_own c h.entry (standing_at v c) own none
      | inr other ↦ after_other c h.entry (standing_at v c) other
    ])

-- an entry that is of no caller
pub made_by_none : (s : Scene) (v w : PortValue) (mine : ℕ → List Passing) (h : Adds s v w)
    → ((c : ℕ) → is_caller h.entry.who c ≡ false)
    → AreMade mine v
    → AreMade mine w
made_by_none s v w mine h none made c =
    made c ∙ sym (ap made_of (stands s v w h c) ∙ after_other c h.entry (standing_at v c) (none c))

-- an entry of a caller's call
pub made_by_call : (s : Scene) (v w : PortValue) (more : ℕ → List Passing) (h : Adds s v w) (c : ℕ)
    → h.entry.who ≡ Caller c
    → is_of_call h.entry.event ≡ true
    → length (all_calls (more c)) ≡ (standing_at v c).next + 1
    → ((d : ℕ) → (d ≡ c → ⊥) → length (all_calls (more d)) ≡ made_by v d)
    → AreMade more w
made_by_call s v w more h c who call own others d = elim (cases_eq d c) [
  | inl same ↦ subst (λ (x : ℕ). length (all_calls (more x)) ≡ made_by w x) (sym same)
      (own
      ∙ sym (ap made_of (stands s v w h c)
      ∙ after_call c h.entry (standing_at v c) (ap (λ (y : Who). is_caller y c) who ∙ eq-eqb c c refl) call))
  | inr other ↦
      others d other
      ∙ sym (ap made_of (stands s v w h d)
      ∙ after_other d h.entry (standing_at v d) (ap (λ (y : Who). is_caller y d) who ∙ ne_eqb c d (λ e. other (sym e))))
]

-- ---- by a turn

pub made_in_turn : (s : Scene) (scripts : List Script) (roles : List Role) (v w : PortValue) (stand now : Stand)
    (next : Turn) (mine : ℕ → List Passing)
    → ((c : ℕ) → is_caller (who_of (role_numbers roles) next) c ≡ false)
    → TakesTurn s scripts roles v w stand now next
    → AreMade mine v
    → AreMade mine w
made_in_turn s scripts roles v w stand now next mine none takes made =
    made_by_none s v w mine takes.on.adds (λ c. ap (λ (y : Who). is_caller y c) takes.who ∙ none c) made

-- ---- at the beginning of a phase

pub made_at_first : (p k : ℕ) (phases : List BlockPhase) (mine : ℕ → List Passing) (session : PlainSession)
    (v : PortValue)
    → IsPassedBy p phases mine session
    → AreBefore p phases k mine
    → AreAtFirst (record { port = p; session = session }) k v.terminal
    → AreMade mine v
made_at_first p k phases mine session v by before first c =
    sym (ap (λ s. made_of (standing_of s)) (first c)
    ∙ (first_is p phases mine session k c by
    ∙ ap (λ (cs : List PlainCall). length cs) (passed_in_order (mine c) (begin_of p phases k c) (before c))))
