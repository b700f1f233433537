-- The beginning of a phase of a session that is kept. Of the session of its ports it is known that nothing was passed.
use Rattle.std.proofs.Common.{◌≡◌, ◌≤◌, ◌<◌, ℕ, zero, suc, ◌+◌, ◌==◌, List, [], ◌∷◌, ◌++◌}
use Rattle.std.proofs.Common.{Some, length, map, filter, sum, refl, sym, ap, ◌∙◌, subst, arith}
use Rattle.std.specs.Prelude.{All, IsTrue, slice_get, slice_index_or}
use Rattle.std.proofs.lemmas.List.{length-map}
use Rattle.std.proofs.lemmas.List.Elements.{All-nil}
use Rattle.tty_base.specs.Lines.{is_step}
use Rattle.tty_base.specs.declared.lines.LineStep.{LineStep}
use Rattle.tty_calls.specs.declared.answers.Denied.{Denied}
use Rattle.tty_calls.specs.declared.answers.Denied.TheVariants.{NoMemory}
use Rattle.tty_calls.specs.declared.sessions.Script.{Script}
use Rattle.tty_calls.specs.declared.sessions.Session.{Session}
use Rattle.tty_calls.specs.declared.sessions.Phase.{Phase}
use Rattle.tty_calls.specs.Limits.{IsWithinLimits, IsCallWithin}
use Rattle.tty_calls.specs.Sessions.{PlainScript, PlainPhase, PlainSession, phase_of, session_of}
use Rattle.tty_calls.specs.Sessions.{script_of, scripts_on, line_on, ticks_on}
use Rattle.legal_runs.specs.Legal.{phase_at}
use Rattle.play_base.specs.Roles.{Scene, scene_of, names_in, role_in}
use Rattle.play_base.specs.Casting.{AreNumbered, HaveSameCallers, IsNumbered, own_scripts, scripts_in, scripts_at}
use Rattle.play_base.specs.Casting.{cast_of}
use Rattle.play_base.specs.declared.roles.Role.{Role}
use Rattle.play_base.proofs.RoleLemmas.{phase_numbered, few_names_in}
use Rattle.passed_calls.specs.Blocks.{Block}
use Rattle.passed_calls.specs.Derived.{Passing, Passed, BlockPhase, blocks_of, passed_phases_after}
use Rattle.passed_calls.specs.Scripts.{CallerScript, mixed_scripts, phases_with}
use Rattle.passed_calls.specs.Within.{ArePassedWithin}
use Rattle.passed_calls.proofs.Limits.{within_limits}
use Rattle.order_laws.specs.Filled.{AreNextSteps}
use Rattle.calls_left.specs.Remaining.{calls_of_port}
use Rattle.modem_text.specs.declared.sessions.ModemPart.{ModemPart}
use Rattle.modem_text.specs.declared.sessions.ModemSession.{ModemSession as KeptSession}
use Rattle.modem_text.specs.declared.sessions.PinItem.{PinItem}
use Rattle.modem_text.specs.Sessions.{ModemCall, ModemPhase, ModemSession, PinStep, PlainPart, modem_session_of}
use Rattle.modem_text.specs.Sessions.{no_part}
use Rattle.modem_text.specs.Sessions.{part_of, phase_with, pins_on, step_of}
use Rattle.modem_text.specs.Within.{IsModemSessionWithin, block_phase_of}
use Rattle.modem_steps.specs.Derived.{block_phases}
use Rattle.modem_one.specs.Left.{AreCallsLeft, AreItemsLeft}
use Rattle.modem_ports.specs.declared.phases.ModemStation.{ModemStation}
use Rattle.modem_derived.specs.Blocks.{items_of_port, nothing_passed, own_of, pins_of}
use Rattle.modem_ports.specs.Between.{IsBetween, IsStoppedBy, BeginsPhase}
use Rattle.modem_ports.proofs.Pins.{pins_are}
use Rattle.modem_ports.proofs.Casting.{IsPhaseAt, scene_of_session, names_are, calls_left, pins_left, callers_known}
use Rattle.modem_ports.proofs.Casting.{role_numbers_are}

abbrev none_passed : Passed
none_passed q = []

abbrev scene_in : ℕ → PlainSession → Scene
scene_in p s = record { port = p; session = s }

none_within : ArePassedWithin none_passed
none_within = record {
  calls = λ q. All-nil (λ (m : Passing). All IsCallWithin m.calls);
  single = λ q c step. omega
      arith;
}

pub nothing_within : (session : ModemSession) → IsModemSessionWithin session → IsWithinLimits (nothing_passed session)
nothing_within session h =
    within_limits (block_phases session) none_passed (nothing_passed session) refl h.blocks none_within

pub base_within : (kept : KeptSession) (base : Session)
    → IsModemSessionWithin (modem_session_of kept)
    → session_of base ≡ nothing_passed (modem_session_of kept)
    → IsWithinLimits (session_of base)
base_within kept base h is = subst IsWithinLimits (sym is) (nothing_within (modem_session_of kept) h)

-- ---- phases

found_from : (ports : ℕ) (parts : List PlainPart) (n k : ℕ) (phases : List PlainPhase) (d : PlainPhase)
    → k < length phases
    → slice_get (phases_with (phase_with ports) no_part parts n phases) k
    ≡ Some (phase_with ports (slice_index_or phases k d) (slice_index_or parts (n + k) no_part))
found_from ports parts n k [] d lt = absurd (omega (arith, lt))
found_from ports parts n zero (phase ∷ phases) d lt =
    (let same : n ≡ n + 0 = omega arith in
    ap (λ (m : ℕ). Some (phase_with ports phase (slice_index_or parts m no_part))) same)
found_from ports parts n (suc k) (phase ∷ phases) d lt =
    let same : (n + 1) + k ≡ n + suc k = omega arith in
    found_from ports parts (n + 1) k phases d (omega (arith, lt))
    ∙ ap (λ (m : ℕ). Some (phase_with ports (slice_index_or phases k d) (slice_index_or parts m no_part))) same

many_with : (ports : ℕ) (parts : List PlainPart) (n : ℕ) (phases : List PlainPhase)
    → length (phases_with (phase_with ports) no_part parts n phases) ≡ length phases
many_with ports parts n [] = refl
many_with ports parts n (phase ∷ phases) = ap (λ (m : ℕ). suc m) (many_with ports parts (n + 1) phases)

abbrev phase_in : KeptSession → ℕ → ModemPhase
phase_in kept k = phase_with (session_of kept.session).ports (phase_at (session_of kept.session) k)
    (slice_index_or (map part_of kept.parts.items) k no_part)

phase_found : (kept : KeptSession) (k : ℕ)
    → k < length (session_of kept.session).phases
    → slice_get (modem_session_of kept).phases k ≡ Some (phase_in kept k)
phase_found kept k lt =
    let same : 0 + k ≡ k = omega arith in
    found_from (session_of kept.session).ports (map part_of kept.parts.items) 0 k (session_of kept.session).phases
    (record { lines = []; ticks = []; callers = [] }) lt
    ∙ ap (λ (m : ℕ). Some (phase_with (session_of kept.session).ports (phase_at (session_of kept.session) k)
    (slice_index_or (map part_of kept.parts.items) m no_part))) same

passed_many : (passed : Passed) (all before : List Block) (phases : List BlockPhase)
    → length (passed_phases_after passed all before phases) ≡ length phases
passed_many passed all before [] = refl
passed_many passed all before (phase ∷ phases) =
    ap (λ (m : ℕ). suc m) (passed_many passed all (before ++ phase.blocks) phases)

pub nothing_many : (session : ModemSession) → length (nothing_passed session).phases ≡ length session.phases
nothing_many session =
    passed_many none_passed (blocks_of (block_phases session)) [] (block_phases session)
    ∙ length-map session.phases (block_phase_of session.ports)

-- the session of the ports has the phases of the session that is kept
pub phases_many : (kept : KeptSession)
    → length (nothing_passed (modem_session_of kept)).phases ≡ length (session_of kept.session).phases
phases_many kept =
    let session = modem_session_of kept in
    passed_many none_passed (blocks_of (block_phases session)) [] (block_phases session)
    ∙ (length-map session.phases (block_phase_of session.ports)
    ∙ many_with (session_of kept.session).ports (map part_of kept.parts.items) 0 (session_of kept.session).phases)

own_at : (parts : List ModemPart) (k : ℕ)
    → (slice_index_or (map part_of parts) k no_part).own ≡ slice_index_or (map own_of parts) k []
own_at [] k = refl
own_at (part ∷ parts) zero = refl
own_at (part ∷ parts) (suc k) = own_at parts k

pins_at : (parts : List ModemPart) (k : ℕ)
    → (slice_index_or (map part_of parts) k no_part).pins ≡ slice_index_or (map pins_of parts) k []
pins_at [] k = refl
pins_at (part ∷ parts) zero = refl
pins_at (part ∷ parts) (suc k) = pins_at parts k

scripts_found : (phases : List Phase) (k : ℕ) (d : PlainPhase)
    → k < length (map phase_of phases)
    → map script_of (scripts_in (slice_get phases k)) ≡ (slice_index_or (map phase_of phases) k d).callers
scripts_found [] k d lt = absurd (omega (arith, lt))
scripts_found (phase ∷ phases) zero d lt = refl
scripts_found (phase ∷ phases) (suc k) d lt = scripts_found phases k d (omega (arith, lt))

pub scripts_are : (session : Session) (k : ℕ)
    → k < length (session_of session).phases
    → map script_of (scripts_at session k) ≡ (phase_at (session_of session) k).callers
scripts_are session k lt = scripts_found session.phases.items k (record { lines = []; ticks = []; callers = [] }) lt

-- ---- what casting asks

pub numbered_in : (p k : ℕ) (base : Session) (names : List (List ℕ))
    → k < length (session_of base).phases
    → names ≡ names_in (scene_of p base)
    → AreNumbered names p (map script_of (scripts_at base k))
numbered_in p k base names lt is =
    subst (λ (ss : List PlainScript). All (IsNumbered names) (own_scripts p ss)) (sym (scripts_are base k lt))
    (subst (λ (ns : List (List ℕ)). All (IsNumbered ns) (scripts_on p (phase_at (session_of base) k))) (sym is)
    (phase_numbered (scene_of p base) k lt))

pub names_few : (p : ℕ) (base : Session) (names : List (List ℕ))
    → IsWithinLimits (session_of base)
    → names ≡ names_in (scene_of p base)
    → length names ≤ 1024
names_few p base names within is = (let few = few_names_in (scene_of p base) within in
    let same = ap (λ (ns : List (List ℕ)). length ns) is in omega (arith, few, same))

pub steps_known : (p k run : ℕ) (base : PlainSession) (session : ModemSession) (at : ModemStation)
    → IsBetween (scene_in p base) session k run at
    → length at.station.steps.items ≤ sum at.station.port.counts
steps_known p k run base session at h = (let known = callers_known p k run base session at h in
    let same = h.steps in omega (arith, known, same))

-- ---- the phase begins

its_phase : (p k : ℕ) (kept : KeptSession)
    → p < (session_of kept.session).ports
    → IsModemSessionWithin (modem_session_of kept)
    → k < length (session_of kept.session).phases
    → IsPhaseAt p k (modem_session_of kept) (phase_in kept k)
its_phase p k kept port within lt = record { port = port; limits = within; at = phase_found kept k lt }

-- of the session in which nothing was passed
begins_there : (p k run : ℕ) (kept : KeptSession) (scripts : List Script) (at then_at : ModemStation)
    (steps : List ℕ) (roles : List Role) (left : List (List ModemCall)) (items : List PinStep) (line : List LineStep)
    (ticks : ℕ)
    → IsModemSessionWithin (modem_session_of kept)
    → p < (session_of kept.session).ports
    → k < length (nothing_passed (modem_session_of kept)).phases
    → map script_of scripts ≡ (phase_at (nothing_passed (modem_session_of kept)) k).callers
    → IsBetween (scene_in p (nothing_passed (modem_session_of kept))) (modem_session_of kept) k run at
    → AreNextSteps at.station.port.terminal (length at.station.steps.items) steps
    → ((others : List Script)
    → HaveSameCallers others scripts
    → map (role_in others) roles ≡ cast_of at.names steps p (map script_of others))
    → left ≡ calls_of_port p (scripts_at kept.session k) (slice_index_or (map own_of kept.parts.items) k [])
    → items ≡ map step_of (items_of_port p (slice_index_or (map pins_of kept.parts.items) k []))
    → line ≡ line_on p (phase_at (nothing_passed (modem_session_of kept)) k)
    → All (λ step. IsTrue (is_step step)) line
    → ticks ≡ ticks_on p (phase_at (nothing_passed (modem_session_of kept)) k)
    → IsBetween (scene_in p (nothing_passed (modem_session_of kept))) (modem_session_of kept) k run then_at
    → then_at.station.port ≡ at.station.port
    → then_at.desk ≡ at.desk
    → BeginsPhase
    (record {
      first = scene_in p (nothing_passed (modem_session_of kept));
      session = modem_session_of kept;
      callers = scripts;
    })
    roles then_at k run left items line ticks
begins_there p k run kept scripts at then_at steps roles left items line ticks within port lt callers h next cast
    left_is
    items_are line_is good ticks_is then_h same_port same_desk =
    let session = modem_session_of kept in
    let base = nothing_passed session in
    let first = scene_in p base in
    let phase = phase_in kept k in
    let here : k < length (session_of kept.session).phases = (let many = phases_many kept in omega (arith, lt, many)) in
    let of_phase = its_phase p k kept port within here in
    let names : at.names ≡ names_in first = h.names in
    let many : length at.station.steps.items ≡ length (names_in first) =
    h.steps ∙ ap (λ (ns : List (List ℕ)). length ns) names in
    let its_cast : (others : List Script)
    → HaveSameCallers others scripts
    → map (role_in others) roles ≡ cast_of (names_in first) steps p (map script_of others) =
    subst (λ (ns : List (List ℕ)).
    (others : List Script)
    → HaveSameCallers others scripts
    → map (role_in others) roles ≡ cast_of ns steps p (map script_of others)) names cast in
    let calls : AreCallsLeft p k session roles at.desk.next left =
    subst (λ (xs : List (List ModemCall)). AreCallsLeft p k session roles at.desk.next xs)
    (sym (left_is ∙ (λ i. map (λ (s : CallerScript ModemCall). s.calls)
    (filter (λ (s : CallerScript ModemCall). s.port == p)
    (mixed_scripts 0 (scripts_are kept.session k here i) (sym (own_at kept.parts.items k) i))))))
    (calls_left p k session phase scripts steps roles run at of_phase lt callers h (its_cast scripts refl)) in
    let pins : items ≡ pins_on p phase =
    items_are
    ∙ (ap (λ (pins : List PinItem). map step_of (items_of_port p pins)) (sym (pins_at kept.parts.items k))
    ∙ sym (pins_are p (session_of kept.session).ports
    (slice_index_or (map part_of kept.parts.items) k no_part).pins port)) in
    let left_items : AreItemsLeft p k session at.desk.items items =
    subst (λ (xs : List PinStep). AreItemsLeft p k session at.desk.items xs) (sym pins)
    (pins_left p k session phase run at of_phase lt h) in
    record {
      within = within;
      scene = scene_of_session p session;
      port = port;
      phase = lt;
      own = ap (λ (ss : List PlainScript). own_scripts p ss) callers;
      between = then_h;
      roles_are = record {
        steps = steps;
        next = subst (λ t. AreNextSteps t.terminal (length (names_in first)) steps) (sym same_port)
            (subst (λ (n : ℕ). AreNextSteps at.station.port.terminal n steps) many next);
        cast = its_cast;
      };
      numbers = role_numbers_are p k session phase scripts steps roles of_phase lt callers
          (its_cast scripts refl
          ∙ ap (λ (ns : List (List ℕ)). cast_of ns steps p (map script_of scripts)) (names_are p session));
      calls = subst (λ d. AreCallsLeft p k session roles d.next left) (sym same_desk) calls;
      items_are = subst (λ d. AreItemsLeft p k session d.items items) (sym same_desk) left_items;
      steps_are = line_is;
      good = good;
      ticks_are = ticks_is;
    }

pub begins_phase : (p k run : ℕ) (kept : KeptSession) (base : Session) (at then_at : ModemStation)
    (steps : List ℕ) (roles : List Role) (left : List (List ModemCall)) (items : List PinStep) (line : List LineStep)
    (ticks : ℕ)
    → IsModemSessionWithin (modem_session_of kept)
    → session_of base ≡ nothing_passed (modem_session_of kept)
    → p < (session_of base).ports
    → k < length (session_of base).phases
    → IsBetween (scene_of p base) (modem_session_of kept) k run at
    → AreNextSteps at.station.port.terminal (length at.station.steps.items) steps
    → ((others : List Script)
    → HaveSameCallers others (scripts_at base k)
    → map (role_in others) roles ≡ cast_of at.names steps p (map script_of others))
    → left ≡ calls_of_port p (scripts_at kept.session k) (slice_index_or (map own_of kept.parts.items) k [])
    → items ≡ map step_of (items_of_port p (slice_index_or (map pins_of kept.parts.items) k []))
    → line ≡ line_on p (phase_at (session_of base) k)
    → All (λ step. IsTrue (is_step step)) line
    → ticks ≡ ticks_on p (phase_at (session_of base) k)
    → IsBetween (scene_of p base) (modem_session_of kept) k run then_at
    → then_at.station.port ≡ at.station.port
    → then_at.desk ≡ at.desk
    → BeginsPhase
    (record { first = scene_of p base; session = modem_session_of kept; callers = scripts_at base k })
    roles then_at then_at.station.port.terminal.phase run left items line ticks
begins_phase p k run kept base at then_at steps roles left items line ticks within is port lt h next cast left_is
    items_are line_is good ticks_is then_h same_port same_desk =
    let session = modem_session_of kept in
    let scripts = scripts_at base k in
    let ports : (session_of base).ports ≡ (session_of kept.session).ports = ap (λ (s : PlainSession). s.ports) is in
    subst (λ (j : ℕ). BeginsPhase (record { first = scene_of p base; session = session; callers = scripts }) roles
    then_at j run left items line ticks) (sym then_h.phase)
    (subst (λ (s : PlainSession). BeginsPhase (record { first = scene_in p s; session = session; callers = scripts })
    roles then_at k run left items line ticks) (sym is)
    (begins_there p k run kept scripts at then_at steps roles left items line ticks within (omega (arith, port, ports))
    (subst (λ (s : PlainSession). k < length s.phases) is lt)
    (scripts_are base k lt ∙ ap (λ (s : PlainSession). (phase_at s k).callers) is)
    (subst (λ (s : PlainSession). IsBetween (scene_in p s) session k run at) is h) next cast left_is items_are
    (line_is ∙ ap (λ (s : PlainSession). line_on p (phase_at s k)) is) good
    (ticks_is ∙ ap (λ (s : PlainSession). ticks_on p (phase_at s k)) is)
    (subst (λ (s : PlainSession). IsBetween (scene_in p s) session k run then_at) is then_h) same_port same_desk))

pub memory_stops : (denied : Denied) (first : Scene) (session : ModemSession) (at : ModemStation)
    → denied ≡ NoMemory
    → IsStoppedBy denied first session at
memory_stops denied first session at is = subst (λ (d : Denied). IsStoppedBy d first session at) (sym is) tt
