-- The beginning of a phase of a session that is kept.
use Rattle.std.proofs.Common.{◌≡◌, ◌≤◌, ◌<◌, ℕ, zero, suc, Bool, List, [], ◌∷◌}
use Rattle.std.proofs.Common.{length, map, sum, refl, sym, ap, ◌∙◌, subst, arith}
use Rattle.std.specs.Prelude.{All, IsTrue, slice_get, slice_index_or}
use Rattle.tty_base.specs.Lines.{is_step}
use Rattle.tty_base.specs.declared.lines.LineStep.{LineStep}
use Rattle.tty_calls.specs.declared.answers.Denied.{Denied}
use Rattle.tty_calls.specs.declared.answers.Denied.TheVariants.{NoMemory}
use Rattle.tty_calls.specs.declared.sessions.Script.{Script}
use Rattle.tty_calls.specs.declared.sessions.Phase.{Phase}
use Rattle.tty_calls.specs.Limits.{IsWithinLimits}
use Rattle.tty_calls.specs.Sessions.{PlainScript, PlainPhase, phase_of, session_of}
use Rattle.tty_calls.specs.Sessions.{script_of, scripts_on, line_on, ticks_on}
use Rattle.legal_runs.specs.Legal.{phase_at}
use Rattle.legal_runs.specs.Order.{is_of_consoles}
use Rattle.play_base.specs.Roles.{Scene, scene_of, names_in, role_in}
use Rattle.play_base.specs.Casting.{AreNumbered, HaveSameCallers, IsNumbered, own_scripts, scripts_in, scripts_at}
use Rattle.play_base.specs.Casting.{cast_of}
use Rattle.play_base.specs.declared.roles.Role.{Role}
use Rattle.play_base.proofs.RoleLemmas.{phase_numbered, few_names_in}
use Rattle.passed_calls.specs.declared.placed.PlacedCall.{PlacedCall}
use Rattle.job_text.specs.declared.calls.OwnCall.{OwnCall}
use Rattle.job_text.specs.declared.sessions.JobsSession.{JobsSession as KeptSession}
use Rattle.job_text.specs.Sessions.{JobCall, JobsSession, jobs_session_of, own_of}
use Rattle.job_text.specs.Within.{IsJobsSessionWithin}
use Rattle.order_laws.specs.Filled.{AreNextSteps}
use Rattle.calls_left.specs.Remaining.{calls_of_port}
use Rattle.job_one.specs.Remaining.{AreLeft}
use Rattle.job_ports.specs.declared.phases.JobStation.{JobStation}
use Rattle.job_ports.specs.Between.{IsBetween, IsStoppedBy, setting_of, BeginsPhase}
use Rattle.job_ports.proofs.Bounded.{plain_within}
use Rattle.job_ports.proofs.Casting.{scene_of_session, calls_left, callers_known}

pub base_within : (kept : KeptSession)
    → IsJobsSessionWithin (jobs_session_of kept)
    → IsWithinLimits (session_of kept.session)
base_within kept h = plain_within (session_of kept.session) kept.procs.items (map own_of kept.parts.items) h

callers_at : (phases : List Phase) (k : ℕ) (d : PlainPhase)
    → k < length (map phase_of phases)
    → map script_of (scripts_in (slice_get phases k)) ≡ (slice_index_or (map phase_of phases) k d).callers
callers_at [] k d lt = absurd (omega (arith, lt))
callers_at (phase ∷ phases) zero d lt = refl
callers_at (phase ∷ phases) (suc k) d lt = callers_at phases k d (omega (arith, lt))

scripts_are : (kept : KeptSession) (k : ℕ) (scripts : List Script)
    → k < length (session_of kept.session).phases
    → scripts ≡ scripts_at kept.session k
    → map script_of scripts ≡ (phase_at (session_of kept.session) k).callers
scripts_are kept k scripts lt is =
    ap (map script_of) is ∙ callers_at kept.session.phases.items k (record { lines = []; ticks = []; callers = [] }) lt

-- ---- what casting asks

pub numbered_in : (p k run : ℕ) (kept : KeptSession) (at : JobStation) (scripts : List Script)
    → k < length (session_of kept.session).phases
    → scripts ≡ scripts_at kept.session k
    → IsBetween (scene_of p kept.session) (jobs_session_of kept) k run at
    → AreNumbered at.names p (map script_of scripts)
numbered_in p k run kept at scripts lt is h =
    subst (λ (ss : List PlainScript). All (IsNumbered at.names) (own_scripts p ss))
    (sym (scripts_are kept k scripts lt is))
    (subst (λ (ns : List (List ℕ)). All (IsNumbered ns) (scripts_on p (phase_at (session_of kept.session) k)))
    (sym h.names) (phase_numbered (scene_of p kept.session) k lt))

pub names_few : (p k run : ℕ) (kept : KeptSession) (at : JobStation)
    → IsJobsSessionWithin (jobs_session_of kept)
    → IsBetween (scene_of p kept.session) (jobs_session_of kept) k run at
    → length at.names ≤ 1024
names_few p k run kept at within h = (let few = few_names_in (scene_of p kept.session) (base_within kept within) in
    let same = ap (λ (ns : List (List ℕ)). length ns) h.names in omega (arith, few, same))

pub steps_known : (p k run : ℕ) (kept : KeptSession) (at : JobStation)
    → IsBetween (scene_of p kept.session) (jobs_session_of kept) k run at
    → length at.station.steps.items ≤ sum at.station.port.counts
steps_known p k run kept at h = (let known =
    callers_known p k run (session_of kept.session) (jobs_session_of kept) at h in
    let same = h.steps in omega (arith, known, same))

-- ---- the phase begins

pub begins_phase : (p k run : ℕ) (kept : KeptSession) (at then_at : JobStation) (scripts : List Script)
    (placed : List (PlacedCall OwnCall)) (steps : List ℕ) (roles : List Role) (left : List (List JobCall))
    (line : List LineStep) (ticks : ℕ) (clock : Bool)
    → IsJobsSessionWithin (jobs_session_of kept)
    → k < length (session_of kept.session).phases
    → IsBetween (scene_of p kept.session) (jobs_session_of kept) k run at
    → scripts ≡ scripts_at kept.session k
    → placed ≡ slice_index_or (map own_of kept.parts.items) k []
    → AreNextSteps at.station.port.terminal (length at.station.steps.items) steps
    → ((others : List Script)
    → HaveSameCallers others scripts
    → map (role_in others) roles ≡ cast_of at.names steps p (map script_of others))
    → left ≡ calls_of_port p scripts placed
    → line ≡ line_on p (phase_at (session_of kept.session) k)
    → All (λ step. IsTrue (is_step step)) line
    → ticks ≡ ticks_on p (phase_at (session_of kept.session) k)
    → clock ≡ is_of_consoles (session_of kept.session)
    → IsBetween (scene_of p kept.session) (jobs_session_of kept) k run then_at
    → then_at.station.port ≡ at.station.port
    → then_at.desk ≡ at.desk
    → BeginsPhase (setting_of p kept k) roles then_at then_at.station.port.terminal.phase run left line ticks clock
begins_phase p k run kept at then_at scripts placed steps roles left line ticks clock within lt h is beside next cast
    left_is line_is good ticks_is clock_is then_h same_port same_desk =
    let base = session_of kept.session in
    let first = scene_of p kept.session in
    let callers = scripts_are kept k scripts lt is in
    let names : at.names ≡ names_in first = h.names in
    let many : length at.station.steps.items ≡ length (names_in first) =
    h.steps ∙ ap (λ (ns : List (List ℕ)). length ns) names in
    let its_cast : (others : List Script)
    → HaveSameCallers others scripts
    → map (role_in others) roles ≡ cast_of (names_in first) steps p (map script_of others) =
    subst (λ (ns : List (List ℕ)).
    (others : List Script)
    → HaveSameCallers others scripts
    → map (role_in others) roles ≡ cast_of ns steps p (map script_of others)) names cast in
    let its_left : AreLeft p k (jobs_session_of kept) roles at.desk.next (calls_of_port p scripts placed) =
    calls_left p k base kept.procs.items (map own_of kept.parts.items) scripts placed steps roles run at within lt
    callers beside h (its_cast scripts refl) in
    subst (λ (j : ℕ). BeginsPhase (setting_of p kept k) roles then_at j run left line ticks clock) (sym then_h.phase)
    (record {
      within = within;
      scene = scene_of_session p base kept.procs.items (map own_of kept.parts.items);
      phase = lt;
      own = ap (λ (ss : List PlainScript). own_scripts p ss) (ap (map script_of) (sym is) ∙ callers);
      between = then_h;
      roles_are = record {
        steps = steps;
        next = subst (λ t. AreNextSteps t.terminal (length (names_in first)) steps) (sym same_port)
            (subst (λ (n : ℕ). AreNextSteps at.station.port.terminal n steps) many next);
        cast = subst (λ (ss : List Script).
            (others : List Script)
            → HaveSameCallers others ss
            → map (role_in others) roles ≡ cast_of (names_in first) steps p (map script_of others)) is its_cast;
      };
      calls = subst (λ d. AreLeft p k (jobs_session_of kept) roles d.next left) (sym same_desk)
          (subst (λ (xs : List (List JobCall)). AreLeft p k (jobs_session_of kept) roles at.desk.next xs) (sym left_is)
          its_left);
      steps_are = line_is;
      good = good;
      ticks_are = ticks_is;
      clock = clock_is;
    })

pub memory_stops : (denied : Denied) (first : Scene) (session : JobsSession) (at : JobStation)
    → denied ≡ NoMemory
    → IsStoppedBy denied first session at
memory_stops denied first session at is = subst (λ (d : Denied). IsStoppedBy d first session at) (sym is) tt
