-- At the beginning of its session a port has passed nothing down.
use Rattle.std.proofs.Common.{◌≡◌, inl, inr, ℕ, List, [], None, Some, refl, sym, ap, ◌∙◌, subst, arith}
use Rattle.std.specs.Prelude.{All}
use Rattle.std.proofs.lemmas.List.Elements.{All-nil}
use Rattle.tty_calls.specs.Plain.{PlainCall, PlainEntry}
use Rattle.tty_calls.specs.Limits.{IsCallWithin}
use Rattle.tty_calls.specs.Sessions.{PlainSession}
use Rattle.tty_terminal.specs.Terminals.{caller_at, begun_of}
use Rattle.passed_calls.specs.Derived.{Passing, Passed, BlockPhase, passed_phases}
use Rattle.legal_runs.specs.Legal.{AreInPhases}
use Rattle.port_core.specs.Ports.{IsPort}
use Rattle.play_base.specs.Roles.{Scene}
use Rattle.play_base.specs.Phases.{IsUpTo, IsBeforePhase}
use Rattle.play_base.specs.declared.stations.Station.{Station}
use Rattle.play_base.proofs.PortLemmas.{first_none}
use Rattle.order_laws.specs.Passed.{IsOfBlocks, IsPassedBy, AreBefore}
use Rattle.passed_calls.specs.Within.{AreBlocksWithin, ArePassedWithin}
use Rattle.order_laws.specs.Witness.{HasPassed}
use Rattle.order_laws.proofs.PassedAdding.{like_first}
use Rattle.order_laws.proofs.Begun.{not_kept}
use Rattle.passed_calls.proofs.Limits.{within_limits}

nothing_yet : (journal : List PlainEntry) → IsUpTo 0 journal → journal ≡ []
nothing_yet journal (inl h) = h.1
nothing_yet journal (inr h) = let count = h.2.count in absurd (omega arith)

abbrev none_passed : Passed
none_passed q = []

none_some : (call : PlainCall) → None ≡ Some call → ⊥
none_some call e = absurd (cc)

pub opens_with_none : (first : Scene) (phases : List BlockPhase) (station : Station)
    → IsBeforePhase first 0 station 0
    → IsPort station.port
    → IsOfBlocks first.port phases first.session
    → AreBlocksWithin first.session.ports first.session.flips phases
    → HasPassed first phases (λ c. []) station.port
opens_with_none first phases station h port blocks limits =
    let p = first.port in
    let v = station.port in
    let session : PlainSession = record first.session { phases = passed_phases none_passed phases } in
    let by : IsPassedBy p phases (λ c. []) session = record { passed = none_passed; are = refl; by = λ c. refl } in
    let within : ArePassedWithin none_passed =
    record { calls = λ q. All-nil (λ (m : Passing). All IsCallWithin m.calls); single = λ q c step. omega arith } in
    let empty = nothing_yet v.journal h.played.played.up_to in
    let nothing_begun : (c : ℕ) → begun_of (caller_at v.terminal c) ≡ 0 = λ c.
    ap begun_of (h.at_phase.callers c) ∙ first_none p first.session c in
    record {
      session = session;
      by = by;
      within = within;
      ports = refl;
      flips = refl;
      like = like_first first phases (λ c. []) session blocks by refl refl
          (within_limits phases none_passed session refl limits within);
      agrees = record {
        known = λ c step call is. absurd
            (none_some call (sym (not_kept v.terminal v.kept c step port.begun (omega (arith, nothing_begun c))) ∙ is));
        in_phases = subst (λ (es : List PlainEntry). AreInPhases p session 0 es) (sym empty) tt;
      };
    }

pub nothing_before : (p k : ℕ) (phases : List BlockPhase) → AreBefore p phases k (λ c. [])
nothing_before p k phases c = tt
