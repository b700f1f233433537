-- A session that grew out of another: the same but for further calls of its callers.
use Rattle.std.specs.Prelude.{◌≡◌, ◌≤◌, ◌<◌, ℕ, List, [], ◌∷◌, ◌++◌, true, map, flat_map, length}
use Rattle.tty_calls.specs.Plain.{PlainCall}
use Rattle.tty_calls.specs.Sessions.{PlainScript, PlainPhase, PlainSession, line_on, scripts_on, calls_under, call_at}
use Rattle.tty_terminal.specs.Terminals.{Terminal, caller_at}
use Rattle.tty_terminal.specs.Runs.{KnowsMore}
use Rattle.legal_runs.specs.Legal.{first_step, steps_in, flip_on}
use Rattle.legal_runs.specs.Order.{is_of_consoles}

-- the names of a port's callers in a phase, in the text's order
abbrev pub names_in : ℕ → PlainPhase → List (List ℕ)
names_in p phase = map (λ s. s.name) (scripts_on p phase)

-- on a port, the same flip buffer, and in each phase the same line and the same callers; and both are of consoles, or
-- neither
pub record HasShape (p : ℕ) (session later : PlainSession) : Type 0 where
  pub consoles : is_of_consoles later ≡ is_of_consoles session
  pub flip : flip_on p later ≡ flip_on p session
  pub lines : map (line_on p) later.phases ≡ map (line_on p) session.phases
  pub names : map (names_in p) later.phases ≡ map (names_in p) session.phases

-- On a port, the later session has each call of the session at its caller and step. Before phase k it has no other;
-- in phase k a caller may have further ones.
pub record Grew (p k : ℕ) (session later : PlainSession) : Type 0 where
  pub shape : HasShape p session later
  pub calls : KnowsMore (call_at p session) (call_at p later)
  pub first : (j c : ℕ) → j ≤ k → first_step p later j c ≡ first_step p session j c
  pub before : (j c : ℕ) → j < k → steps_in p later j c ≡ steps_in p session j c
  pub now : (c : ℕ) → steps_in p session k c ≤ steps_in p later k c

-- a caller whose calls of phase k are over has no further ones in it
abbrev pub KeepsEnded : ℕ → ℕ → PlainSession → PlainSession → Terminal → Type 0
KeepsEnded p k session later t = (c : ℕ) → (caller_at t c).over ≡ true → steps_in p later k c ≡ steps_in p session k c

-- a script with a further call
abbrev pub with_call : PlainScript → PlainCall → PlainScript
with_call script call = record script { calls = script.calls ++ call ∷ [] }

-- the scripts of several phases
abbrev pub joined : List (List PlainScript) → List PlainScript
joined phases = flat_map (λ scripts. scripts) phases

-- On a port, the later session has one call more: in phase k, of the caller of this name, which has no call behind it.
pub record AddsCall (p k : ℕ) (session later : PlainSession) (name : List ℕ) : Type 0 where
  pub consoles : is_of_consoles later ≡ is_of_consoles session
  pub flip : flip_on p later ≡ flip_on p session
  pub lines : map (line_on p) later.phases ≡ map (line_on p) session.phases
  pub past : List (List PlainScript)
  pub before : List PlainScript
  pub script : PlainScript
  pub after : List PlainScript
  pub future : List (List PlainScript)
  pub call : PlainCall
  pub in_phase : length past ≡ k
  pub by_name : script.name ≡ name
  pub were : map (scripts_on p) session.phases ≡ past ++ (before ++ script ∷ after) ∷ future
  pub are : map (scripts_on p) later.phases ≡ past ++ (before ++ with_call script call ∷ after) ∷ future
  pub last : calls_under name (after ++ joined future) ≡ []
