-- Laws over runs of the terminal.
use Rattle.std.proofs.Common.{◌≡◌, ℕ, ◌+◌, ◌≤◌, List, [], ◌∷◌, ◌++◌, IsTrue, Option, length, sum}
use Rattle.std.proofs.Common.{append_assoc, append-nil, length-append, refl, sym, ◌∙◌, ap, subst, arith}
use Rattle.std.proofs.lemmas.Bool.{false≢true}
use Rattle.std.proofs.lemmas.List.{length-replicate}
use Rattle.tty_base.specs.declared.characters.Flagged.{Flagged}
use Rattle.tty_calls.specs.Plain.{PlainCall, PlainEntry, chars_in}
use Rattle.tty_terminal.specs.Terminals.{Terminal, opening, idle_caller, caller_at}
use Rattle.tty_terminal.specs.Steps.{Allowed, after}
use Rattle.tty_terminal.specs.Runs.{Leads, IsRun, chars_of}
use Rattle.tty_terminal.proofs.CallerLists.{all_idle}
use Rattle.tty_terminal.proofs.StepLaws.{step_does, InLine, Within}

-- a run goes on
pub leads_more : (f : ℕ → ℕ → Option PlainCall) (counts : List ℕ) (t : Terminal) (es : List PlainEntry) (u : Terminal)
    (e : PlainEntry)
    → Leads f counts t es u
    → Allowed f counts u e
    → Leads f counts t (es ++ e ∷ []) (after f u e)
leads_more f counts t [] u e h k =
    (subst (λ (v : Terminal). Allowed f counts v e) h k, ap (λ (v : Terminal). after f v e) h)
leads_more f counts t (x ∷ es) u e h k = (h.0, leads_more f counts (after f t x) es u e h.1 k)

pub chars_append : (es : List PlainEntry) (e : PlainEntry) → chars_of (es ++ e ∷ []) ≡ chars_of es ++ chars_in e.event
chars_append [] e = append-nil (chars_in e.event)
chars_append (x ∷ es) e =
    ap (λ (cs : List Flagged). chars_in x.event ++ cs) (chars_append es e)
    ∙ sym (append_assoc (chars_in x.event) (chars_of es) (chars_in e.event))

-- no number is larger than n
pub record Bounded (t : Terminal) (n : ℕ) : Type 0 where
  pub generation : t.generation ≤ n
  pub tick : t.tick ≤ n
  pub phase : t.phase ≤ n
  pub next : (c : ℕ) → (caller_at t c).next ≤ n

leads_bounded : (f : ℕ → ℕ → Option PlainCall) (counts : List ℕ) (t : Terminal) (es : List PlainEntry) (u : Terminal)
    (n m : ℕ)
    → Leads f counts t es u
    → Bounded t n
    → n + length es ≡ m
    → Bounded u m
leads_bounded f counts t [] u n m h b e = rw (h, ← e) (record {
  generation = omega (arith, b.generation);
  tick = omega (arith, b.tick);
  phase = omega (arith, b.phase);
  next = λ c. omega (arith, b.next c);
})
leads_bounded f counts t (x ∷ es) u n m h b e =
    let does = step_does f counts t x h.0 in
    leads_bounded f counts (after f t x) es u (n + 1) m h.1
    (record {
      generation = omega (arith, b.generation, does.generation);
      tick = omega (arith, b.tick, does.tick);
      phase = omega (arith, b.phase, does.phase);
      next = λ c. omega (arith, b.next c, (does.caller c).most);
    })
    (omega (arith, e))

pub run_bounded : (f : ℕ → ℕ → Option PlainCall) (counts : List ℕ) (capacity : ℕ) (es : List PlainEntry) (u : Terminal)
    → IsRun f counts capacity es u
    → Bounded u (length es)
run_bounded f counts capacity es u h =
    leads_bounded f counts (opening (sum counts) capacity) es u 0 (length es) h
    (record {
      generation = omega arith;
      tick = omega arith;
      phase = omega arith;
      next = λ c. rw (all_idle (sum counts) c) (omega arith);
    })
    (omega arith)

leads_callers : (f : ℕ → ℕ → Option PlainCall) (counts : List ℕ) (t : Terminal) (es : List PlainEntry) (u : Terminal)
    → Leads f counts t es u
    → length u.callers ≡ length t.callers
leads_callers f counts t [] u h = rw h refl
leads_callers f counts t (x ∷ es) u h =
    leads_callers f counts (after f t x) es u h.1 ∙ (step_does f counts t x h.0).callers

pub run_callers : (f : ℕ → ℕ → Option PlainCall) (counts : List ℕ) (capacity : ℕ) (es : List PlainEntry) (u : Terminal)
    → IsRun f counts capacity es u
    → length u.callers ≡ sum counts
run_callers f counts capacity es u h =
    leads_callers f counts (opening (sum counts) capacity) es u h ∙ length-replicate (sum counts) idle_caller

leads_capacity : (f : ℕ → ℕ → Option PlainCall) (counts : List ℕ) (t : Terminal) (es : List PlainEntry) (u : Terminal)
    → Leads f counts t es u
    → u.capacity ≡ t.capacity
leads_capacity f counts t [] u h = rw h refl
leads_capacity f counts t (x ∷ es) u h =
    leads_capacity f counts (after f t x) es u h.1 ∙ (step_does f counts t x h.0).capacity

-- the capacity never changes
pub run_capacity : (f : ℕ → ℕ → Option PlainCall) (counts : List ℕ) (capacity : ℕ) (es : List PlainEntry) (u : Terminal)
    → IsRun f counts capacity es u
    → u.capacity ≡ capacity
run_capacity f counts capacity es u h = leads_capacity f counts (opening (sum counts) capacity) es u h

leads_in_line : (f : ℕ → ℕ → Option PlainCall) (counts : List ℕ) (t : Terminal) (es : List PlainEntry) (u : Terminal)
    → Leads f counts t es u
    → InLine t
    → InLine u
leads_in_line f counts t [] u h k = subst InLine (sym h) k
leads_in_line f counts t (x ∷ es) u h k =
    leads_in_line f counts (after f t x) es u h.1 ((step_does f counts t x h.0).in_line k)

-- once the line is over, no more is taken than was sent
pub run_in_line : (f : ℕ → ℕ → Option PlainCall) (counts : List ℕ) (capacity : ℕ) (es : List PlainEntry) (u : Terminal)
    → IsRun f counts capacity es u
    → IsTrue u.line_over
    → u.taken ≤ u.sent
run_in_line f counts capacity es u h =
    leads_in_line f counts (opening (sum counts) capacity) es u h (λ over. absurd (false≢true over))

leads_within : (f : ℕ → ℕ → Option PlainCall) (counts : List ℕ) (t : Terminal) (es : List PlainEntry) (u : Terminal)
    → Leads f counts t es u
    → Within t
    → Within u
leads_within f counts t [] u h k = subst Within (sym h) k
leads_within f counts t (x ∷ es) u h k =
    leads_within f counts (after f t x) es u h.1 ((step_does f counts t x h.0).within k)

-- no more is sent than was taken and fits in the flip buffer
pub run_within : (f : ℕ → ℕ → Option PlainCall) (counts : List ℕ) (capacity : ℕ) (es : List PlainEntry) (u : Terminal)
    → IsRun f counts capacity es u
    → u.sent ≤ u.taken + u.capacity
run_within f counts capacity es u h = leads_within f counts (opening (sum counts) capacity) es u h (omega arith)

leads_taken : (f : ℕ → ℕ → Option PlainCall) (counts : List ℕ) (t : Terminal) (es : List PlainEntry) (u : Terminal)
    → Leads f counts t es u
    → u.taken ≡ t.taken + length (chars_of es)
leads_taken f counts t [] u h = rw h (omega arith)
leads_taken f counts t (x ∷ es) u h =
    omega (
      arith,
      leads_taken f counts (after f t x) es u h.1,
      (step_does f counts t x h.0).taken,
      length-append (chars_in x.event) (chars_of es),
    )

-- as many characters were taken or dropped as the journal has
pub run_taken : (f : ℕ → ℕ → Option PlainCall) (counts : List ℕ) (capacity : ℕ) (es : List PlainEntry) (u : Terminal)
    → IsRun f counts capacity es u
    → u.taken ≡ length (chars_of es)
run_taken f counts capacity es u h = omega (arith, leads_taken f counts (opening (sum counts) capacity) es u h)
