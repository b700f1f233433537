-- Journals to which a port can come, and logs that grow.
use Rattle.std.proofs.Common.{◌≡◌, ◌≤◌, ℕ, ◌+◌, Bool, List, [], ◌∷◌, ◌++◌, Option, length, map, cond, take}
use Rattle.std.proofs.Common.{refl, sym, ap, ◌∙◌, arith, length-append, append_assoc}
use Rattle.std.specs.Prelude.{sum, ◌==◌}
use Rattle.std.proofs.lemmas.Bool.{eq-eqb}
use Rattle.std.proofs.lemmas.List.{map-append}
use Rattle.std.proofs.lemmas.List.Elements.{filter-append}
use Rattle.tty_calls.specs.Plain.{PlainCall, PlainEntry}
use Rattle.tty_terminal.specs.Terminals.{Terminal, opening}
use Rattle.tty_terminal.specs.Steps.{after}
use Rattle.tty_terminal.specs.Runs.{KnowsMore, Leads as Run}
use Rattle.tty_terminal.proofs.Grown.{after_grown}
use Rattle.port_core.specs.Ports.{PortValue, IsPort, call_in}
use Rattle.passed_calls.specs.declared.logs.Logged.{Logged}
use Rattle.passed_calls.specs.Journals.{Journal, terminal_after, terminal_at}
use Rattle.passed_calls.specs.Logs.{logged_on}
use Rattle.order_laws.specs.Later.{IsLater, ComesBy}

pub later_before : (v w : PortValue) (part : List PlainEntry) (j : Journal)
    → ComesBy v w part
    → IsLater w j
    → IsLater v j
later_before v w part j by h =
    record {
      opens = h.opens ∙ (λ i. opening (sum (by.counts i)) (by.capacity i));
      calls = λ c step call is. h.calls c step call (by.grows c step call is);
      rest = part ++ h.rest;
      entries = h.entries ∙ (ap (λ (es : List PlainEntry). es ++ h.rest) by.added ∙ append_assoc v.journal part h.rest);
    }

pub run_after : (f g : ℕ → ℕ → Option PlainCall) (counts : List ℕ) (t : Terminal) (es : List PlainEntry) (u : Terminal)
    → KnowsMore f g
    → Run f counts t es u
    → terminal_after g t es ≡ u
run_after f g counts t [] u grows h = sym h
run_after f g counts t (e ∷ es) u grows h =
    ap (λ (s : Terminal). terminal_after g s es) (after_grown f g counts t e grows h.0).1
    ∙ run_after f g counts (after f t e) es u grows h.1

pub front : (xs ys : List PlainEntry) → take (length xs) (xs ++ ys) ≡ xs
front [] ys = refl
front (x ∷ xs) ys = ap (λ (es : List PlainEntry). x ∷ es) (front xs ys)

-- there its terminal is the port's
pub terminal_now : (v : PortValue) (j : Journal)
    → IsPort v
    → IsLater v j
    → terminal_at j (length v.journal) ≡ v.terminal
terminal_now v j port h =
    ap (λ (es : List PlainEntry). terminal_after j.calls j.opening (take (length v.journal) es)) h.entries
    ∙ (ap (λ (es : List PlainEntry). terminal_after j.calls j.opening es) (front v.journal h.rest)
    ∙ (ap (λ (t : Terminal). terminal_after j.calls t v.journal) h.opens
    ∙ run_after (call_in v.kept) j.calls v.counts (opening (sum v.counts) v.flip.capacity)
    v.journal v.terminal h.calls port.run))

pub long_enough : (v : PortValue) (j : Journal) → IsLater v j → length v.journal ≤ length j.entries
long_enough v j h = omega (arith, ap (λ (es : List PlainEntry). length es) h.entries, length-append v.journal h.rest)

one_on : {E : Type 0} (p n : ℕ) (event : E)
    → logged_on p (record { port = p; at = n; event = event } ∷ []) ≡ record { port = p; at = n; event = event } ∷ []
one_on p n event =
    ap (λ (b : Bool). cond b (record { port = p; at = n; event = event } ∷ []) []) (eq-eqb p p refl)

pub on_more : {E : Type 0} (p n : ℕ) (event : E) (log : List (Logged E))
    → logged_on p (log ++ record { port = p; at = n; event = event } ∷ [])
    ≡ logged_on p log ++ record { port = p; at = n; event = event } ∷ []
on_more {E} p n event log =
    filter-append (λ (l : Logged E). l.port == p) log (record { port = p; at = n; event = event } ∷ [])
    ∙ ap (λ (ls : List (Logged E)). logged_on p log ++ ls) (one_on p n event)

pub events_more : {E : Type 0} (p n : ℕ) (event : E) (log : List (Logged E))
    → map (λ (l : Logged E). l.event) (logged_on p (log ++ record { port = p; at = n; event = event } ∷ []))
    ≡ map (λ (l : Logged E). l.event) (logged_on p log) ++ event ∷ []
events_more {E} p n event log =
    ap (map (λ (l : Logged E). l.event)) (on_more p n event log)
    ∙ map-append (λ (l : Logged E). l.event) (logged_on p log) (record { port = p; at = n; event = event } ∷ [])
