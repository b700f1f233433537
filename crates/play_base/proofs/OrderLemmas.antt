-- A scene in another order, and entries in their turn that follow each other.
use Rattle.std.proofs.Common.{◌≡◌, ◌++◌, ℕ, List, [], ◌∷◌, sym, subst}
use Rattle.tty_calls.specs.Plain.{PlainEntry}
use Rattle.tty_calls.specs.Sessions.{PlainSession, call_at}
use Rattle.port_core.specs.Ports.{PortValue}
use Rattle.legal_runs.specs.Order.{Place, first_place, next_place, place_after, AreInTurn}
use Rattle.play_base.specs.Roles.{Scene}
use Rattle.play_base.specs.Scenes.{place_of, HasOneOrder, IsOfSceneIn}

pub scene_in : {A : Scene → List PlainEntry → Type 0} (B : Scene → List PlainEntry → Type 0) (s : Scene) (v : PortValue)
    → IsOfSceneIn A s v
    → B s v.journal
    → IsOfSceneIn B s v
scene_in B s v h turns = record {
  counts = h.counts;
  capacity = h.capacity;
  limit = h.limit;
  known = h.known;
  in_phases = h.in_phases;
  turns = turns;
}

turns_both : (p : ℕ) (session : PlainSession) (s : Place) (es part : List PlainEntry)
    → AreInTurn p session s es
    → AreInTurn p session (place_after (call_at p session) s es) part
    → AreInTurn p session s (es ++ part)
turns_both p session s [] part turns more = more
turns_both p session s (e ∷ es) part turns more =
    (turns.0, turns_both p session (next_place (call_at p session) s e) es part turns.1 more)

pub order_goes_on : (s : Scene) (old new part : List PlainEntry)
    → new ≡ old ++ part
    → HasOneOrder s old
    → AreInTurn s.port s.session (place_of s old) part
    → HasOneOrder s new
order_goes_on s old new part added turns more =
    subst (λ (es : List PlainEntry). AreInTurn s.port s.session (first_place s.port s.session) es) (sym added)
    (turns_both s.port s.session (first_place s.port s.session) old part turns more)
