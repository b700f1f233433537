-- The callers of a phase at its beginning and at its end.
use Rattle.std.proofs.Common.{◌≡◌, ℕ, List, [], ◌∷◌, ◌++◌, Bool, true, false, Option}
use Rattle.std.proofs.Common.{None, Some, is_some, if◌then◌else◌, length, refl, sym, ap}
use Rattle.std.specs.Str.{bytes_eq}
use Rattle.std.specs.List.{list_any}
use Rattle.std.proofs.lemmas.List.Concat.{flat_map-append}
use Rattle.std.proofs.lemmas.Bool.{false≢true, or_parts}
use Rattle.tty_calls.specs.Plain.{PlainCall}
use Rattle.tty_calls.specs.Sessions.{PlainScript, PlainSession, scripts_on, calls_under, calls_of}
use Rattle.tty_terminal.specs.declared.callers.Bound.{Bound}
use Rattle.tty_terminal.specs.declared.callers.CallerState.{CallerState}
use Rattle.tty_terminal.specs.Terminals.{is_bound}
use Rattle.tty_terminal.specs.Standing.{Standing, standing_of}
use Rattle.legal_runs.specs.Legal.{phase_at, name_at, has_script, steps_in}
use Rattle.play_base.specs.Scenes.{caller_at_rest}
use Rattle.one_thread.specs.Turns.{standing_at_rest}
use Rattle.legal_runs.proofs.ScriptLemmas.{no_calls}

-- ---- first steps

calls_over : (name : Option (List ℕ)) (xs ys : List PlainScript)
    → calls_of (xs ++ ys) name ≡ calls_of xs name ++ calls_of ys name
calls_over None xs ys = refl
calls_over (Some name) xs ys = flat_map-append (λ s. if bytes_eq s.name name then s.calls else []) xs ys

none_here : (b : Bool) (calls rest : List PlainCall) → b ≡ false → rest ≡ [] → (if b then calls else []) ++ rest ≡ []
none_here true calls rest e f = absurd (false≢true (sym e))
none_here false calls rest e f = f

none_under : (name : List ℕ) (scripts : List PlainScript)
    → list_any (λ s. bytes_eq s.name name) scripts ≡ false
    → calls_under name scripts ≡ []
none_under name [] e = refl
none_under name (s ∷ scripts) e =
    let both = or_parts (bytes_eq s.name name) (list_any (λ x. bytes_eq x.name name) scripts) e in
    none_here (bytes_eq s.name name) s.calls (calls_under name scripts) both.0 (none_under name scripts both.1)

-- one that is no caller of a phase has no step in it
pub no_steps : (p : ℕ) (session : PlainSession) (k c : ℕ)
    → has_script (scripts_on p (phase_at session k)) (name_at p session c) ≡ false
    → steps_in p session k c ≡ 0
no_steps p session k c e =
    ap (λ (cs : List PlainCall). length cs) (no_calls (scripts_on p (phase_at session k)) (name_at p session c) e)

-- ---- a caller at rest

waits_none : (o : Option ℕ) → is_some o ≡ false → o ≡ None
waits_none None e = refl
waits_none (Some n) e = absurd (false≢true (sym e))

bound_none : (o : Option Bound) → is_bound o ≡ false → o ≡ None
bound_none None e = refl
bound_none (Some b) e = absurd (false≢true (sym e))

pub at_rest : (s : CallerState) (next : ℕ) → standing_of s ≡ standing_at_rest next → s ≡ caller_at_rest next
at_rest s next e =
    let waits = waits_none s.waits (ap (λ (q : Standing). q.waits) e) in
    let bound = bound_none s.bound (ap (λ (q : Standing). q.begun) e) in
    λ i. record {
      next = (ap (λ (q : Standing). q.next) e) i;
      over = (ap (λ (q : Standing). q.over) e) i;
      waits = waits i;
      parts = (ap (λ (q : Standing). q.parts) e) i;
      taken = (ap (λ (q : Standing). q.taken) e) i;
      generation = (ap (λ (q : Standing). q.generation) e) i;
      bound = bound i;
    }
