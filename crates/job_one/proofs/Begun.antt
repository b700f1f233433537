-- Where a call of a caller first stands in the journal.
use Rattle.std.proofs.Common.{◌≡◌, ◌<◌, ℕ, suc, ◌+◌, Bool, true, false, not, ◌&&◌, ◌==◌, List}
use Rattle.std.proofs.Common.{[], ◌∷◌, ◌++◌, Option, None, Some, length, cond, if◌then◌else◌, refl}
use Rattle.std.proofs.Common.{sym, ap, ◌∙◌, arith, length-append, append_assoc}
use Rattle.std.specs.Prelude.{position, unwrap_or, nat_lt, sum}
use Rattle.std.specs.List.{position_or_len}
use Rattle.std.proofs.lemmas.Bool.{false≢true, and_parts, eqb-true, eq-eqb}
use Rattle.std.proofs.lemmas.Bool.Decides.{nat_tests}
use Rattle.tty_calls.specs.declared.journals.Who.{Who}
use Rattle.tty_calls.specs.Plain.{PlainCall, PlainEvent, answered, parted, waited, flushed, ticked, line_ended}
use Rattle.tty_calls.specs.Plain.{clock_ended, caller_ended, phase_ended, hung_up, PlainEntry, is_caller}
use Rattle.tty_terminal.specs.Terminals.{Terminal, caller_at, has_begun, opening}
use Rattle.tty_terminal.specs.Steps.{Allowed, after}
use Rattle.tty_terminal.specs.Makers.{IsOfCall, IsByItsMaker}
use Rattle.tty_terminal.specs.Runs.{Leads as Run, is_of_call}
use Rattle.tty_terminal.proofs.MarkLaws.{step_maker}
use Rattle.port_core.specs.Ports.{PortValue, IsPort, call_in}
use Rattle.passed_calls.specs.Journals.{Journal}
use Rattle.play_base.specs.Roles.{Scene}
use Rattle.one_thread.specs.Turns.{Adds}
use Rattle.one_thread.specs.Acts.{MakesCall}
use Rattle.order_laws.specs.Later.{IsLater, ComesBy}
use Rattle.order_laws.proofs.Begun.{not_kept}
use Rattle.order_laws.proofs.Attempted.{call_is, own_is, step_is}
use Rattle.job_steps.specs.Steps.{is_of_step, first_place}

three : (a b c : Bool) → a ≡ true → b ≡ true → c ≡ true → (a && b && c) ≡ true
three true true true h k l = refl
three true true false h k l = absurd (false≢true l)
three true false c h k l = absurd (false≢true k)
three false b c h k l = absurd (false≢true h)

-- the entry of an attempt is of its call
pub of_step_is : (old new : PortValue) (c : ℕ) (call : PlainCall) (makes : MakesCall old new c call) (s : Scene)
    (adds : Adds s old new)
    → is_of_step c (caller_at old.terminal c).next adds.entry ≡ true
of_step_is old new c call makes s adds =
    three (is_of_call adds.entry.event) (is_caller adds.entry.who c)
    (adds.entry.step == (caller_at old.terminal c).next) (call_is old new c call makes s adds)
    (own_is old new c call makes s adds)
    (eq-eqb adds.entry.step (caller_at old.terminal c).next (step_is old new c call makes s adds))

-- ---- no entry of a call that has not begun

not_true : (b : Bool) → (b ≡ true → ⊥) → b ≡ false
not_true true h = absurd (h refl)
not_true false h = refl

maker_of : (f : ℕ → ℕ → Option PlainCall) (n : ℕ) (who : Who) (step : ℕ) (event : PlainEvent)
    → IsByItsMaker f n who step event
    → is_of_call event ≡ true
    → IsOfCall f n who step
maker_of f n who step (answered a dropped) h e = h
maker_of f n who step (parted taken) h e = h
maker_of f n who step waited h e = h
maker_of f n who step (flushed chars) h e = absurd (false≢true e)
maker_of f n who step ticked h e = absurd (false≢true e)
maker_of f n who step (line_ended m) h e = absurd (false≢true e)
maker_of f n who step clock_ended h e = absurd (false≢true e)
maker_of f n who step caller_ended h e = absurd (false≢true e)
maker_of f n who step phase_ended h e = absurd (false≢true e)
maker_of f n who step (hung_up dropped) h e = absurd (false≢true e)

none_some : (call : PlainCall) → None ≡ Some call → ⊥
none_some call e = absurd (cc)

not_of_step : (f : ℕ → ℕ → Option PlainCall) (counts : List ℕ) (t : Terminal) (e : PlainEntry) (c step : ℕ)
    → Allowed f counts t e
    → f c step ≡ None
    → is_of_step c step e ≡ false
not_of_step f counts t e c step allowed none =
    not_true (is_of_step c step e) (λ is.
    let parts = and_parts (is_of_call e.event && is_caller e.who c) (e.step == step) is in
    let front = and_parts (is_of_call e.event) (is_caller e.who c) parts.0 in
    let made = maker_of f (length t.callers) e.who e.step e.event (step_maker f counts t e allowed) front.0 in
    let same : made.caller ≡ c =
    eqb-true made.caller c (ap (λ (w : Who). is_caller w c) (sym made.by_caller) ∙ front.1) in
    let there : f c step ≡ Some made.call =
    (λ i. f (sym same i) (sym (eqb-true e.step step parts.1) i)) ∙ made.called in
    none_some made.call (sym none ∙ there))

-- ---- the first of some

no_entry : (f : ℕ → ℕ → Option PlainCall) (counts : List ℕ) (t : Terminal) (es : List PlainEntry) (u : Terminal)
    (c step : ℕ)
    → Run f counts t es u
    → f c step ≡ None
    → (e : PlainEntry) (rest : List PlainEntry)
    → is_of_step c step e ≡ true
    → position_or_len (is_of_step c step) (es ++ e ∷ rest) ≡ length es
no_entry f counts t [] u c step run none e rest is =
    ap (λ (b : Bool). cond (not b) (1 + position_or_len (is_of_step c step) rest) 0) is
no_entry f counts t (x ∷ es) u c step run none e rest is =
    let one : 1 + length es ≡ suc (length es) = omega arith in
    ap (λ (b : Bool). cond (not b) (1 + position_or_len (is_of_step c step) (es ++ e ∷ rest)) 0)
    (not_of_step f counts t x c step run.0 none)
    ∙ (ap (λ (n : ℕ). 1 + n) (no_entry f counts (after f t x) es u c step run.1 none e rest is) ∙ one)

is_lt : (n len : ℕ) → n < len → nat_lt n len ≡ true
is_lt n len lt = grind (arith, nat_tests)

found_at : (n len : ℕ) → n < len → unwrap_or (cond (nat_lt n len) (Some n) None) len ≡ n
found_at n len lt = ap (λ (b : Bool). unwrap_or (cond b (Some n) None) len) (is_lt n len lt)

begun_none : (s : Bool) (n : ℕ) → s ≡ false → (if s then n + 1 else n) ≡ n
begun_none true n e = absurd (false≢true (sym e))
begun_none false n e = refl

-- the first entry of a call that has not begun is the next one
pub first_next : (v w : PortValue) (e : PlainEntry) (part : List PlainEntry) (c : ℕ) (j : Journal)
    → IsPort v
    → has_begun (caller_at v.terminal c) ≡ false
    → ComesBy v w (e ∷ part)
    → is_of_step c (caller_at v.terminal c).next e ≡ true
    → IsLater w j
    → first_place j c (caller_at v.terminal c).next ≡ length v.journal
first_next v w e part c j port rest by is later =
    let step = (caller_at v.terminal c).next in
    let none : call_in v.kept c step ≡ None =
    not_kept v.terminal v.kept c step port.begun
    (omega (arith, begun_none (has_begun (caller_at v.terminal c)) step rest)) in
    let entries : j.entries ≡ v.journal ++ e ∷ (part ++ later.rest) =
    later.entries
    ∙ (ap (λ (es : List PlainEntry). es ++ later.rest) by.added ∙ append_assoc v.journal (e ∷ part) later.rest) in
    let count = length-append v.journal (e ∷ (part ++ later.rest)) in
    ap (λ (es : List PlainEntry). unwrap_or (position (is_of_step c step) es) (length es)) entries
    ∙ (ap (λ (n : ℕ). unwrap_or (cond (nat_lt n (length (v.journal ++ e ∷ (part ++ later.rest)))) (Some n) None)
    (length (v.journal ++ e ∷ (part ++ later.rest))))
    (no_entry (call_in v.kept) v.counts (opening (sum v.counts) v.flip.capacity) v.journal v.terminal c step port.run
    none e (part ++ later.rest) is)
    ∙ found_at (length v.journal) (length (v.journal ++ e ∷ (part ++ later.rest))) (omega (arith, count)))
