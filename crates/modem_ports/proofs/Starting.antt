-- A port with modem lines at the beginning of its session.
use Rattle.std.proofs.Common.{◌≡◌, ◌<◌, inl, inr, ℕ, List, [], Option, None, Some, length}
use Rattle.std.proofs.Common.{refl, sym, ap, ◌∙◌, subst, arith}
use Rattle.std.specs.Prelude.{replicate, slice_get}
use Rattle.std.proofs.lemmas.List.Elements.{All-nil}
use Rattle.tty_calls.specs.declared.sessions.Session.{Session}
use Rattle.tty_calls.specs.Plain.{PlainEntry}
use Rattle.tty_calls.specs.Sessions.{PlainSession, session_of}
use Rattle.port_core.specs.Ports.{PortValue, IsPort}
use Rattle.legal_runs.specs.Order.{first_place}
use Rattle.play_base.specs.Phases.{IsUpTo, IsBeforePhase}
use Rattle.play_base.specs.Roles.{Scene, scene_of, names_in}
use Rattle.play_base.specs.declared.stations.Station.{Station}
use Rattle.order_laws.proofs.InEach.{any_before_each}
use Rattle.order_laws.proofs.Opening.{opened_each}
use Rattle.passed_calls.specs.Blocks.{names_on}
use Rattle.passed_calls.specs.Derived.{Passing, BlockPhase, blocks_of}
use Rattle.order_laws.specs.Passed.{begin_of, steps_named}
use Rattle.order_laws.proofs.Opens.{opens_with_none, nothing_before}
use Rattle.passed_ports.proofs.Started.{zeros_at, zeros_long}
use Rattle.modem_lines.specs.Lines.{first_lines}
use Rattle.modem_text.specs.declared.sessions.ModemSession.{ModemSession as KeptSession}
use Rattle.modem_text.specs.Sessions.{ModemSession, blocks_in, modem_session_of}
use Rattle.modem_text.specs.Within.{IsModemSessionWithin}
use Rattle.modem_steps.specs.Derived.{block_phases, carrier_on}
use Rattle.modem_steps.specs.Order.{AreEntriesInTurn}
use Rattle.modem_one.specs.Desk.{DeskState, state_at}
use Rattle.modem_one.specs.Later.{port_with, IsDeskAt}
use Rattle.modem_one.specs.Playing.{step_next}
use Rattle.modem_derived.specs.Blocks.{nothing_passed}
use Rattle.modem_ports.specs.Between.{IsBetween}
use Rattle.modem_ports.proofs.Casting.{scene_of_session, names_are}

nothing_yet : (journal : List PlainEntry) → IsUpTo 0 journal → journal ≡ []
nothing_yet journal (inl h) = h.1
nothing_yet journal (inr h) = (let count = h.2.count in absurd (omega arith))

first_zero : (p : ℕ) (phases : List BlockPhase) (c : ℕ) → begin_of p phases 0 c ≡ 0
first_zero p phases c = by_option (slice_get (names_on p (blocks_of phases)) c)
  where
    by_option : (o : Option (List ℕ)) → steps_named p [] o ≡ 0
    by_option None = refl
    by_option (Some name) = refl

-- a desk for so many callers
abbrev pub desk_for : (p callers : ℕ) → DeskState
desk_for p n = record { number = p; lines = first_lines; next = replicate n 0; items = 0; log = [] }

desk_opened : (first : Scene) (session : ModemSession) (v : PortValue) (n : ℕ)
    → n ≡ length (names_on first.port (blocks_in session))
    → v.journal ≡ []
    → IsDeskAt first session v (desk_for first.port n) []
desk_opened first session v n many empty = record {
  number = refl;
  at_entry = 0;
  logged = record {
    leads = λ j later. ap (λ (m : ℕ). state_at (desk_for first.port m) 0 []) many;
    at = omega arith;
  };
  ordered = record {
    turns = λ played like agrees j later. record {
      entries_are = subst (λ (es : List PlainEntry).
          AreEntriesInTurn played (port_with first.port session j) [] (first_place first.port played) 0 es) (sym empty)
          tt;
      events_are = tt;
    };
  };
  late = λ h is. absurd (cc);
}

abbrev scene_in : ℕ → PlainSession → Scene
scene_in p s = record { port = p; session = s }

opened_there : (p : ℕ) (session : ModemSession) (names : List (List ℕ)) (station : Station)
    → IsModemSessionWithin session
    → names ≡ names_in (scene_in p (nothing_passed session))
    → IsBeforePhase (scene_in p (nothing_passed session)) 0 station 0
    → IsPort station.port
    → IsBetween (scene_in p (nothing_passed session)) session 0 0
    (record { names = names; station = station; desk = desk_for p (length names) })
opened_there p session names station within named before port =
    let first = scene_in p (nothing_passed session) in
    let phases = block_phases session in
    let v = station.port in
    let d = desk_for p (length names) in
    let empty : v.journal ≡ [] = nothing_yet v.journal before.played.played.up_to in
    let many : length names ≡ length (names_on p (blocks_in session)) =
    ap (λ (ns : List (List ℕ)). length ns) (named ∙ names_are p session) in
    let begins : (c : ℕ) → 0 ≡ begin_of p phases v.terminal.phase c = λ c.
    sym (first_zero p phases c) ∙ ap (λ (k : ℕ). begin_of p phases k c) (sym before.at_phase.phase) in
    record {
      before = record {
        each = any_before_each first v station.putter station.line 0 (opened_each first station before);
        has = opens_with_none first phases station before port (scene_of_session p session).of_blocks within.blocks;
        before = nothing_before p v.terminal.phase phases;
        desk = desk_opened first session v (length names) many empty;
        logged_before = λ c. All-nil (λ (m : Passing). m.step < step_next session p d [] c);
        next_of_all = zeros_long (length names) ∙ many;
        steps = λ c other. zeros_at (length names) c ∙ begins c;
        items = begins (carrier_on p session);
      };
      phase = before.at_phase.phase;
      port = port;
      names = named;
      steps = before.steps.count ∙ ap (λ (ns : List (List ℕ)). length ns) (sym named);
    }

pub opened_between : (p : ℕ) (kept : KeptSession) (base : Session) (names : List (List ℕ)) (station : Station)
    (desk : DeskState)
    → IsModemSessionWithin (modem_session_of kept)
    → session_of base ≡ nothing_passed (modem_session_of kept)
    → names ≡ names_in (scene_of p base)
    → IsBeforePhase (scene_of p base) 0 station 0
    → IsPort station.port
    → desk ≡ desk_for p (length names)
    → IsBetween (scene_of p base) (modem_session_of kept) 0 0 (record { names = names; station = station; desk = desk })
opened_between p kept base names station desk within is named before port desk_is =
    let session = modem_session_of kept in
    subst (λ (d : DeskState). IsBetween (scene_of p base) session 0 0
    (record { names = names; station = station; desk = d }))
    (sym desk_is)
    (subst (λ (s : PlainSession).
    IsBetween (scene_in p s) session 0 0 (record {
      names = names;
      station = station;
      desk = desk_for p (length names);
    }))
    (sym is)
    (opened_there p session names station within (named ∙ ap (λ (s : PlainSession). names_in (scene_in p s)) is)
    (subst (λ (s : PlainSession). IsBeforePhase (scene_in p s) 0 station 0) is before) port))
