-- The line's steps in the first phases, and what is received in none.
use Rattle.std.proofs.Common.{◌≡◌, ℕ, ◌+◌, ◌<◌, List, [], ◌∷◌, ◌++◌, length, take, map, refl, sym, ◌∙◌, ap}
use Rattle.std.proofs.Common.{append_assoc, append-nil}
use Rattle.std.proofs.lemmas.List.{map_more}
use Rattle.tty_base.specs.declared.lines.LineStep.{LineStep}
use Rattle.tty_calls.specs.Sessions.{PlainPhase, PlainSession, line_on}
use Rattle.uart_line.specs.Received.{received_list, received_list_after, closed_script, script}
use Rattle.legal_runs.specs.Legal.{phase_at, script_of_first}

abbrev pub no_phase : PlainPhase
no_phase = record { lines = []; ticks = []; callers = [] }

pub script_more : (lines : List (List LineStep)) (steps : List LineStep)
    → script (lines ++ steps ∷ []) ≡ script lines ++ closed_script steps
unfolding script
script_more [] steps = append-nil (closed_script steps)
script_more (line ∷ lines) steps =
    ap (λ (xs : List LineStep). closed_script line ++ xs) (script_more lines steps)
    ∙ sym (append_assoc (closed_script line) (script lines) (closed_script steps))

pub script_none : script [] ≡ []
unfolding script
script_none = refl

pub received_none : received_list [] ≡ []
unfolding received_list received_list_after
received_none = refl

pub first_more : (p : ℕ) (session : PlainSession) (k : ℕ)
    → k < length session.phases
    → script_of_first p session (k + 1) ≡ script_of_first p session k ++ closed_script (line_on p (phase_at session k))
first_more p session k lt =
    ap script (map_more (line_on p) session.phases k no_phase lt)
    ∙ script_more (map (line_on p) (take k session.phases)) (line_on p (phase_at session k))

-- nothing is received before the first phase
pub none_first : (p : ℕ) (session : PlainSession) → received_list (script_of_first p session 0) ≡ []
none_first p session = ap received_list script_none ∙ received_none
