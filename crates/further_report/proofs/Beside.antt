-- The scripts of phases, with the calls that these have beside.
use Rattle.std.proofs.Common.{◌≡◌, ℕ, suc, zero, ◌+◌, List, [], ◌∷◌, ◌++◌, map, flat_map, refl, sym, ◌∙◌, ap}
use Rattle.std.specs.Prelude.{slice_index_or}
use Rattle.tty_calls.specs.Sessions.{PlainPhase, PlainSession}
use Rattle.passed_calls.specs.declared.placed.PlacedCall.{PlacedCall}
use Rattle.passed_calls.specs.Scripts.{AnyCall, CallerScript, mixed_scripts, phases_with}
use Rattle.modem_text.specs.declared.items.OwnCall.{OwnCall as ModemOwn}
use Rattle.modem_text.specs.declared.sessions.ModemPart.{ModemPart}
use Rattle.modem_text.specs.Sessions.{no_part, part_of, phase_with, session_with}
use Rattle.job_text.specs.declared.calls.OwnCall.{OwnCall as JobOwn}
use Rattle.job_text.specs.declared.sessions.PortProc.{PortProc}
use Rattle.job_text.specs.Sessions.{phase_with as job_phase_with, session_with as job_session_with}
use Rattle.further_report.specs.Modem.{scripts_in}
use Rattle.further_report.specs.Jobs.{scripts_in as job_scripts_in}
use Rattle.further_report.specs.Printing.{own_in, scripts_beside}

own_at : (parts : List ModemPart) (n : ℕ)
    → (slice_index_or (map part_of parts) n no_part).own ≡ slice_index_or (map own_in parts) n []
own_at [] zero = refl
own_at [] (suc n) = refl
own_at (part ∷ parts) zero = refl
own_at (part ∷ parts) (suc n) = own_at parts n

beside : (ports n : ℕ) (parts : List ModemPart) (phases : List PlainPhase)
    → scripts_beside (map own_in parts) n phases
    ≡ flat_map (λ phase. phase.callers) (phases_with (phase_with ports) no_part (map part_of parts) n phases)
beside ports n parts [] = refl
beside ports n parts (phase ∷ phases) =
    ap (λ (own : List (PlacedCall ModemOwn)).
    mixed_scripts 0 phase.callers own ++ scripts_beside (map own_in parts) (n + 1) phases)
    (sym (own_at parts n))
    ∙ ap
    (λ (l : List (CallerScript (AnyCall ModemOwn))).
    mixed_scripts 0 phase.callers (slice_index_or (map part_of parts) n no_part).own ++ l)
    (beside ports (n + 1) parts phases)

pub modem_scripts : (session : PlainSession) (parts : List ModemPart)
    → scripts_beside (map own_in parts) 0 session.phases ≡ scripts_in (session_with session (map part_of parts))
modem_scripts session parts = beside session.ports 0 parts session.phases

job_beside : (n : ℕ) (parts : List (List (PlacedCall JobOwn))) (phases : List PlainPhase)
    → scripts_beside parts n phases ≡ flat_map (λ phase. phase.callers) (phases_with job_phase_with [] parts n phases)
job_beside n parts [] = refl
job_beside n parts (phase ∷ phases) =
    ap (λ (l : List (CallerScript (AnyCall JobOwn))). mixed_scripts 0 phase.callers (slice_index_or parts n []) ++ l)
    (job_beside (n + 1) parts phases)

pub job_scripts : (session : PlainSession) (procs : List PortProc) (parts : List (List (PlacedCall JobOwn)))
    → scripts_beside parts 0 session.phases ≡ job_scripts_in (job_session_with session procs parts)
job_scripts session procs parts = job_beside 0 parts session.phases
