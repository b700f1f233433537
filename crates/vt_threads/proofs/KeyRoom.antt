-- Room on a line for the keys of a phase, wherever they go.
use Rattle.std.proofs.Common.{◌≡◌, ℕ, ◌+◌, ◌<◌, ◌≤◌, Bool, List, [], ◌∷◌, ◌++◌, Some}
use Rattle.std.proofs.Common.{eq-eqb, if◌then◌else◌, length, take, refl, sym, subst, ap, ◌∙◌, arith}
use Rattle.std.specs.Prelude.{slice_get}
use Rattle.tty_base.specs.Lines.{arrival, arrival_count}
use Rattle.tty_base.specs.declared.lines.LineStep.TheVariants.{Trigger}
use Rattle.uart_line.specs.GoodSteps.{good_steps}
use Rattle.tty_calls.specs.Limits.{character_count}
use Rattle.tty_calls.specs.Sessions.{line_on}
use Rattle.legal_runs.specs.Legal.{phase_at, script_of_first}
use Rattle.play_base.specs.Roles.{Scene}
use Rattle.play_base.specs.Putting.{HasPut}
use Rattle.play_base.specs.declared.stations.Station.{Station}
use Rattle.play_base.proofs.ReceivedLemmas.{arrivals_fit}
use Rattle.many_threads.specs.declared.shared_phase.PhaseEnd.{PhaseEnd}
use Rattle.many_threads.specs.declared.shared_phase.PhaseEnd.TheVariants.{Over, Full}
use Rattle.vt_consoles.specs.declared.entries.VtEntry.{VtEntry}
use Rattle.vt_consoles.specs.declared.entries.VtEvent.TheVariants.{Key}
use Rattle.vt_text.specs.Sessions.{PlainVtPhase, PlainVtSession}
use Rattle.vt_account.specs.Keyed.{IsWithinKeys, all_keys, consoles_in, key_line, keyed, keys_to}
use Rattle.vt_account.proofs.Received.{good_arrive}
use Rattle.vt_keyboard.specs.Keying.{CanBegin}
use Rattle.vt_threads.specs.Between.{ConsoleStands, StandsKeyed}
use Rattle.vt_threads.proofs.KeyedPhases.{keyed_line}
use Rattle.vt_threads.proofs.KeyedPlay.{can_begin, rests_between}
use Rattle.vt_threads.proofs.SameCallers.{keyed_differs, same_length}

-- entries by which all keys go to a console
abbrev pub all_to : ℕ → List ℕ → List VtEntry
all_to p [] = []
all_to p (key ∷ keys) = record { seat = 0; event = Key 0 p } ∷ all_to p keys

all_come : (p : ℕ) (keys : List ℕ) → keys_to p keys (consoles_in (all_to p keys)) ≡ keys
all_come p [] = refl
all_come p (key ∷ keys) =
    ap (λ (b : Bool). (if b then key ∷ [] else []) ++ keys_to p keys (consoles_in (all_to p keys))) (eq-eqb p p refl)
    ∙ ap (λ (ks : List ℕ). key ∷ ks) (all_come p keys)

pub all_go : (p : ℕ) (keys : List ℕ) → length (consoles_in (all_to p keys)) ≡ length keys
all_go p [] = refl
all_go p (key ∷ keys) = let rest = all_go p keys in omega (arith, rest)

-- what a console has put, and how much may come, however it stands
pub standing_put : (s : Scene) (k : ℕ) (station : Station) (end : PhaseEnd)
    → ConsoleStands s k station end
    → HasPut station.port station.putter station.line (script_of_first s.port s.session k)
    × (character_count s.port s.session.phases ≤ station.line.most)
standing_put s k station (Over run) h = (h.at_phase.has_put, h.at_phase.most)
standing_put s k station Full h = (h.has_put, h.most)

pub keys_fit : (session : PlainVtSession) (p k : ℕ) (phase : PlainVtPhase) (entries : List VtEntry) (station : Station)
    (end : PhaseEnd)
    → IsWithinKeys session
    → p < session.calls.ports
    → slice_get session.phases k ≡ Some phase
    → k < length session.calls.phases
    → length (consoles_in entries) ≡ length (all_keys (take k session.phases))
    → StandsKeyed session p k entries station end
    → station.line.report.arrived + length phase.keys ≤ station.line.most
keys_fit session p k phase entries station end within known at below before stands =
    let part = all_to p phase.keys in
    let x = keyed session (entries ++ (part ++ [])) in
    let h = standing_put (record { port = p; session = x }) k station end (stands (part ++ [])) in
    let on : line_on p (phase_at x k) ≡ key_line phase.keys =
    keyed_line session p k phase entries part [] (consoles_in part) _ within.whole known at refl (all_go p phase.keys)
    before
    ∙ ap key_line (all_come p phase.keys) in
    let inside : k < length x.phases =
    subst (λ (n : ℕ). k < n)
    (sym (same_length x session.calls (keyed_differs session (entries ++ (part ++ [])) within.whole))) below in
    let fit = arrivals_fit p x k inside in
    let same = ap arrival_count on in
    let front : arrival_count (key_line phase.keys)
    ≡ length (arrival (Trigger 1)) + arrival_count (good_steps phase.keys) = refl in
    let none : length (arrival (Trigger 1)) ≡ 0 = refl in
    let good = good_arrive phase.keys in
    let keys : arrival_count (line_on p (phase_at x k)) ≡ length phase.keys = omega (arith, same, front, none, good) in
    let arrived = h.0.done.arrived in
    let most = h.1 in
    omega (arith, fit, keys, arrived, most)

-- the line of a console rests between two phases
pub begins_keyed : (session : PlainVtSession) (p k : ℕ) (entries : List VtEntry) (station : Station) (end : PhaseEnd)
    → StandsKeyed session p k entries station end
    → station.line.report.arrived ≤ station.line.most
    → CanBegin station.line station.putter
begins_keyed session p k entries station end stands few =
    let s : Scene = record { port = p; session = keyed session (entries ++ []) } in
    can_begin station.port station.putter station.line (script_of_first p s.session k) (rests_between p s.session k)
    (standing_put s k station end (stands [])).0 few
