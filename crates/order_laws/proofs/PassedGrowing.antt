-- A session in which one caller passes something more down grew out of the session before.
use Rattle.std.proofs.Common.{◌≡◌, ◌≤◌, ◌<◌, inl, inr, ℕ, ◌+◌, false, List, Some, length, sym, ap, ◌∙◌, subst, arith}
use Rattle.std.specs.Prelude.{slice_get, sum}
use Rattle.std.proofs.lemmas.Bool.{cases_eq, false≢true}
use Rattle.tty_calls.specs.Plain.{PlainCall, PlainEntry}
use Rattle.tty_calls.specs.Sessions.{PlainSession, call_at, counts_on}
use Rattle.tty_terminal.specs.Terminals.{Terminal, caller_at, opening}
use Rattle.tty_terminal.specs.Runs.{KnowsMore}
use Rattle.passed_calls.specs.Blocks.{names_on}
use Rattle.passed_calls.specs.Derived.{Passing, BlockPhase, blocks_of, all_calls, calls_for}
use Rattle.passed_calls.proofs.Ordered.{passed_in_order}
use Rattle.legal_runs.specs.Legal.{first_step, flip_on}
use Rattle.legal_runs.proofs.NameLemmas.{get_append, first_next}
use Rattle.port_core.specs.Ports.{PortValue}
use Rattle.tty_calls.specs.declared.sessions.Script.{Script}
use Rattle.play_base.specs.Roles.{Scene}
use Rattle.one_thread.specs.Turns.{PlaysIn}
use Rattle.play_base.specs.declared.roles.Role.{Role}
use Rattle.one_thread.specs.declared.after_line.Stand.{Stand}
use Rattle.order_laws.specs.Growth.{HasShape, Grew, KeepsEnded}
use Rattle.order_laws.specs.Agreed.{Agrees}
use Rattle.order_laws.proofs.Growing.{phases_grow}
use Rattle.order_laws.proofs.Shapes.{phases_same}
use Rattle.order_laws.specs.Passed.{steps_named, begin_of, IsPassedBy, AreUpTo, GrowsBy}
use Rattle.order_laws.proofs.Blocks.{of_blocks, same_shape}
use Rattle.order_laws.proofs.Counted.{first_is, call_is}
use Rattle.order_laws.proofs.Passings.{early_same, for_rises, all_more, in_more_steps, first_within, first_rises}

-- ---- a caller's calls are all that it has passed down

pub calls_all : (p k : ℕ) (phases : List BlockPhase) (mine : ℕ → List Passing) (session : PlainSession) (c step : ℕ)
    → IsPassedBy p phases mine session
    → AreUpTo p phases k mine
    → call_at p session c step ≡ slice_get (all_calls (mine c)) step
calls_all p k phases mine session c step h upto =
    let o = slice_get (names_on p (blocks_of phases)) c in
    let whole = in_more_steps 0 (begin_of p phases (k + 1) c) (steps_named p (blocks_of phases) o) (mine c)
    (first_within p (k + 1) phases o) (upto c) in
    call_is p phases mine session c step h
    ∙ ap (λ (cs : List PlainCall). slice_get cs step)
    (passed_in_order (mine c) (steps_named p (blocks_of phases) o) whole)

-- .. and before the next phase
pub first_all : (p k : ℕ) (phases : List BlockPhase) (mine : ℕ → List Passing) (session : PlainSession) (c : ℕ)
    → IsPassedBy p phases mine session
    → AreUpTo p phases k mine
    → first_step p session (k + 1) c ≡ length (all_calls (mine c))
first_all p k phases mine session c h upto =
    first_is p phases mine session (k + 1) c h
    ∙ ap (λ (cs : List PlainCall). length cs) (passed_in_order (mine c) (begin_of p phases (k + 1) c) (upto c))

-- ---- what a passing more leaves as it was

first_other : (p k : ℕ) (phases : List BlockPhase) (c : ℕ) (m : Passing) (mine more : ℕ → List Passing)
    (session later : PlainSession) (j d : ℕ)
    → GrowsBy p k phases c m mine more session later
    → (d ≡ c → ⊥)
    → first_step p later j d ≡ first_step p session j d
first_other p k phases c m mine more session later j d h other =
    first_is p phases more later j d h.then_by
    ∙ (ap (λ (ms : List Passing). length (calls_for ms 0 (begin_of p phases j d))) (h.passes.others d other)
    ∙ sym (first_is p phases mine session j d h.by))

first_own : (p k : ℕ) (phases : List BlockPhase) (c : ℕ) (m : Passing) (mine more : ℕ → List Passing)
    (session later : PlainSession) (j : ℕ)
    → GrowsBy p k phases c m mine more session later
    → j ≤ k
    → first_step p later j c ≡ first_step p session j c
first_own p k phases c m mine more session later j h le =
    let o = slice_get (names_on p (blocks_of phases)) c in
    let low : 0 + begin_of p phases j c ≤ m.step = omega (arith, first_rises p j k phases o le, h.from) in
    first_is p phases more later j c h.then_by
    ∙ (ap (λ (ms : List Passing). length (calls_for ms 0 (begin_of p phases j c))) h.passes.own
    ∙ (ap (λ (cs : List PlainCall). length cs) (early_same (mine c) m (begin_of p phases j c) 0 low)
    ∙ sym (first_is p phases mine session j c h.by)))

first_stays : (p k : ℕ) (phases : List BlockPhase) (c : ℕ) (m : Passing) (mine more : ℕ → List Passing)
    (session later : PlainSession) (j d : ℕ)
    → GrowsBy p k phases c m mine more session later
    → j ≤ k
    → first_step p later j d ≡ first_step p session j d
first_stays p k phases c m mine more session later j d h le = elim (cases_eq d c) [
  | inl same ↦ subst (λ (x : ℕ). first_step p later j x ≡ first_step p session j x) (sym same)
      (first_own p k phases c m mine more session later j h le)
  | inr other ↦ first_other p k phases c m mine more session later j d h other
]

first_rises_own : (p k : ℕ) (phases : List BlockPhase) (c : ℕ) (m : Passing) (mine more : ℕ → List Passing)
    (session later : PlainSession) (j : ℕ)
    → GrowsBy p k phases c m mine more session later
    → first_step p session j c ≤ first_step p later j c
first_rises_own p k phases c m mine more session later j h =
    let up = for_rises (mine c) m (begin_of p phases j c) 0 in
    let are = ap (λ (ms : List Passing). length (calls_for ms 0 (begin_of p phases j c))) h.passes.own in
    omega (arith, up, are, first_is p phases more later j c h.then_by, first_is p phases mine session j c h.by)

first_more : (p k : ℕ) (phases : List BlockPhase) (c : ℕ) (m : Passing) (mine more : ℕ → List Passing)
    (session later : PlainSession) (j d : ℕ)
    → GrowsBy p k phases c m mine more session later
    → first_step p session j d ≤ first_step p later j d
first_more p k phases c m mine more session later j d h = elim (cases_eq d c) [
  | inl same ↦ subst (λ (x : ℕ). first_step p session j x ≤ first_step p later j x) (sym same)
      (first_rises_own p k phases c m mine more session later j h)
  | inr other ↦ (let same = first_other p k phases c m mine more session later j d h other in omega (arith, same))
]

pub shape_of : (p k : ℕ) (phases : List BlockPhase) (c : ℕ) (m : Passing) (mine more : ℕ → List Passing)
    (session later : PlainSession)
    → GrowsBy p k phases c m mine more session later
    → HasShape p session later
shape_of p k phases c m mine more session later h =
    same_shape p phases session later h.consoles h.flip (of_blocks p phases mine session h.by)
    (of_blocks p phases more later h.then_by)

then_within : (p k : ℕ) (phases : List BlockPhase) (c : ℕ) (m : Passing) (mine more : ℕ → List Passing)
    (session later : PlainSession)
    → GrowsBy p k phases c m mine more session later
    → k < length later.phases
then_within p k phases c m mine more session later h =
    omega (arith, h.within, phases_same p session later (shape_of p k phases c m mine more session later h))

calls_more : (p k : ℕ) (phases : List BlockPhase) (c : ℕ) (m : Passing) (mine more : ℕ → List Passing)
    (session later : PlainSession)
    → GrowsBy p k phases c m mine more session later
    → KnowsMore (call_at p session) (call_at p later)
calls_more p k phases c m mine more session later h d step call is =
    let was : slice_get (all_calls (mine d)) step ≡ Some call =
    sym (calls_all p k phases mine session d step h.by h.up_to) ∙ is in
    calls_all p k phases more later d step h.then_by h.then_up_to
    ∙ elim (cases_eq d c) [
      | inl same ↦ subst
          (λ (x : ℕ). slice_get (all_calls (mine x)) step ≡ Some call → slice_get (all_calls (more x)) step ≡ Some call)
          (sym same)
          (λ at.
          ap (λ (ms : List Passing). slice_get (all_calls ms) step) h.passes.own
          ∙ (ap (λ (cs : List PlainCall). slice_get cs step) (all_more (mine c) m)
          ∙ get_append (all_calls (mine c)) m.calls step call at)) was
      | inr other ↦ ap (λ (ms : List Passing). slice_get (all_calls ms) step) (h.passes.others d other) ∙ was
    ]

-- ---- it grew

pub grew : (p k : ℕ) (phases : List BlockPhase) (c : ℕ) (m : Passing) (mine more : ℕ → List Passing)
    (session later : PlainSession)
    → GrowsBy p k phases c m mine more session later
    → Grew p k session later
grew p k phases c m mine more session later h =
    let then_in = then_within p k phases c m mine more session later h in
    let within = h.within in
    record {
      shape = shape_of p k phases c m mine more session later h;
      calls = calls_more p k phases c m mine more session later h;
      first = λ j d le. first_stays p k phases c m mine more session later j d h le;
      before = λ j d lt.
          let here = first_stays p k phases c m mine more session later j d h (omega (arith, lt)) in
          let next = first_stays p k phases c m mine more session later (j + 1) d h (omega (arith, lt)) in
          let a = first_next p session j d (omega (arith, lt, within)) in
          let b = first_next p later j d (omega (arith, lt, then_in)) in
          omega (arith, here, next, a, b);
      now = λ d.
          let here = first_stays p k phases c m mine more session later k d h (omega arith) in
          let next = first_more p k phases c m mine more session later (k + 1) d h in
          let a = first_next p session k d within in
          let b = first_next p later k d then_in in
          omega (arith, here, next, a, b);
    }

-- who has ended has passed nothing more down
pub keeps_ended : (p k : ℕ) (phases : List BlockPhase) (c : ℕ) (m : Passing) (mine more : ℕ → List Passing)
    (session later : PlainSession) (t : Terminal)
    → GrowsBy p k phases c m mine more session later
    → (caller_at t c).over ≡ false
    → KeepsEnded p k session later t
keeps_ended p k phases c m mine more session later t h on d over =
    let other : d ≡ c → ⊥ = λ e. false≢true (sym (ap (λ (x : ℕ). (caller_at t x).over) e ∙ on) ∙ over) in
    let here = first_other p k phases c m mine more session later k d h other in
    let next = first_other p k phases c m mine more session later (k + 1) d h other in
    let a = first_next p session k d h.within in
    let b = first_next p later k d (then_within p k phases c m mine more session later h) in
    omega (arith, here, next, a, b)

-- ---- and the port agrees with it

pub agrees_then : {HasOrder : Scene → List PlainEntry → Type 0} (p : ℕ) (phases : List BlockPhase) (c : ℕ)
    (m : Passing) (mine more : ℕ → List Passing)
    (session later : PlainSession) (scripts : List Script) (roles : List Role) (v : PortValue) (stand : Stand)
    → PlaysIn HasOrder (record { port = p; session = session }) scripts roles v stand
    → GrowsBy p v.terminal.phase phases c m mine more session later
    → (caller_at v.terminal c).over ≡ false
    → Agrees (record { port = p; session = later }) v
agrees_then p phases c m mine more session later scripts roles v stand plays h on =
    let k = v.terminal.phase in
    let grown = grew p k phases c m mine more session later h in
    record {
      known = λ d step call is. grown.calls d step call (plays.of_scene.known d step call is);
      in_phases = phases_grow p session later (opening (sum (counts_on p session)) (flip_on p session))
          v.journal v.terminal grown (keeps_ended p k phases c m mine more session later v.terminal h on)
          plays.run plays.of_scene.in_phases;
    }
