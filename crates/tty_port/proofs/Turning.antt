-- What a turn adds to what a seat knows.
use Rattle.std.proofs.Common.{◌≡◌, ℕ, ◌+◌, List, [], ◌∷◌, ◌++◌, length}
use Rattle.std.proofs.Common.{refl, sym, ◌∙◌, ap, subst, arith, append-nil, length-append, Option, Some, sum}
use Rattle.port_cell.specs.declared.kept.Stamped.{Stamped}
use Rattle.port_cell.specs.Entries.{entries_by, Keeps, AddsBy}
use Rattle.port_cell.specs.Knowledge.{number_of, name_of, list_seen, own_entries}
use Rattle.port_cell.proofs.OwnEntries.{entries_by_kept, entries_by_added}
use Rattle.tty_port.specs.Inside.{Name, EntryWithCall}
use Rattle.tty_port.specs.Histories.{history_of, name_of as port_name, seat_of}
use Rattle.tty_port.specs.Placed.{IsHistoryOf, ArePlaced}
use Rattle.tty_port.specs.Adding.{Adds, IsEntry}
use Rattle.tty_port.specs.Calls.{PortSeat}
use Rattle.tty_port.specs.Lines.{MakesOne, MakesNone}
use Rattle.tty_port.specs.Shared.{IsFound}
use Rattle.tty_port.specs.PhaseEvents.{CanFollow, IsEventEntry, maker_of, plain_event}
use Rattle.tty_port.specs.declared.phase_events.PhaseEvent.{PhaseEvent}
use Rattle.tty_port.specs.declared.kept_port.KeptPort.{KeptPort}
use Rattle.tty_port.proofs.Keeping.{event_kept, event_step_kept}

pub adds_by : (n : ℕ) (P : Stamped EntryWithCall → Type 0) (old new : List (Stamped EntryWithCall))
    → ((x : Stamped EntryWithCall) → P x → x.seat ≡ n)
    → Adds P old new
    → AddsBy n old new
adds_by n P old new seat h = (h.entry ∷ [], h.added, (seat h.entry h.is, tt))

pub adds_nothing : (n : ℕ) (old new : List (Stamped EntryWithCall)) → new ≡ old → AddsBy n old new
adds_nothing n old new h = ([], h ∙ sym (append-nil old), tt)

own_now : (n : ℕ) (s : PortSeat) (xs : List (Stamped EntryWithCall))
    → number_of s ≡ n
    → list_seen s ≡ xs
    → own_entries s ≡ entries_by n xs
own_now n s xs number seen = ap (λ (k : ℕ). entries_by k (list_seen s)) number ∙ ap (entries_by n) seen

pub makes_one : (P : List (Stamped EntryWithCall) → Stamped EntryWithCall → Type 0) (n : ℕ) (old new : PortSeat)
    (before after : List (Stamped EntryWithCall))
    → ((x : Stamped EntryWithCall) → P before x → x.seat ≡ n)
    → number_of old ≡ n
    → number_of new ≡ n
    → Keeps n (list_seen old) before
    → Adds (P before) before after
    → list_seen new ≡ after
    → MakesOne P old new
makes_one P n old new before after seat was now keeps h seen =
    record {
      before = before;
      entry = h.entry;
      found = subst (λ (k : ℕ). Keeps k (list_seen old) before) (sym was) keeps;
      added = seen ∙ h.added;
      own =
          own_now n new after now seen
          ∙ entries_by_added n before after (h.entry ∷ [], h.added, (seat h.entry h.is, tt))
          ∙ ap (λ (xs : List (Stamped EntryWithCall)). xs ++ h.entry ∷ [])
          (entries_by_kept n (list_seen old) before keeps ∙ sym (own_now n old (list_seen old) was refl));
      generation = h.generation;
      is = h.is;
    }

pub makes_none : (n : ℕ) (old new : PortSeat) (before after : List (Stamped EntryWithCall))
    → number_of old ≡ n
    → number_of new ≡ n
    → Keeps n (list_seen old) before
    → after ≡ before
    → list_seen new ≡ after
    → MakesNone old new
makes_none n old new before after was now keeps same seen =
    record {
      found = subst (λ (k : ℕ). Keeps k (list_seen old) (list_seen new)) (sym was)
          (subst (Keeps n (list_seen old)) (sym (seen ∙ same)) keeps);
      own =
          own_now n new before now (seen ∙ same)
          ∙ entries_by_kept n (list_seen old) before keeps
          ∙ sym (own_now n old (list_seen old) was refl);
    }

-- where the list is no longer than it was, nothing was added
none_more : (old more : List (Stamped EntryWithCall)) → length (old ++ more) ≡ length old → old ++ more ≡ old
none_more old [] h = append-nil old
none_more old (x ∷ xs) h = let size = length-append old (x ∷ xs) in absurd (omega arith)

some_name : (x y : Name) (o : Option Name) → o ≡ Some x → o ≡ Some y → y ≡ x
some_name x y o h k = cc

-- what a turn found, by the port as it was looked at
pub found : (name : Name) (n : ℕ) (old : PortSeat) (v w : KeptPort)
    → name_of old ≡ Some name
    → name_of old ≡ Some (port_name v)
    → Keeps n (list_seen old) (history_of v)
    → w ≡ v
    → IsHistoryOf w.callers w.port.value (history_of w)
    → IsFound name n old v
found name n old v w named named_now keeps same history =
    let named_so : port_name v ≡ name = some_name name (port_name v) (name_of old) named named_now in
    let first : IsHistoryOf v.callers v.port.value (history_of v) =
    subst (λ (x : KeptPort). IsHistoryOf x.callers x.port.value (history_of x)) same history in
    record {
      named = named_so;
      keeps = keeps;
      history =
          subst (λ (k : ℕ). IsHistoryOf k v.port.value (history_of v)) (ap (λ (x : Name). x.callers) named_so) first;
    }

-- it found the port as it is looked at again
pub found_still : (name : Name) (n : ℕ) (old : PortSeat) (v w : KeptPort)
    → number_of old ≡ n
    → w ≡ v
    → IsFound name (number_of old) old v
    → IsFound name n old w
found_still name n old v w number same h =
    subst (IsFound name n old) (sym same) (subst (λ (k : ℕ). IsFound name k old v) number h)

-- The turn added an entry of no call, which its maker has made, with the seat so many places after the callers'.
pub enters_one : (P : ℕ → List (Stamped EntryWithCall) → Stamped EntryWithCall → Type 0) (place : ℕ)
    → ((m : ℕ) (before : List (Stamped EntryWithCall)) (x : Stamped EntryWithCall) → P m before x → x.seat ≡ m + place)
    → (name : Name) (old new : PortSeat) (v w : KeptPort)
    → IsFound name (name.callers + place) old v
    → number_of old ≡ name.callers + place
    → number_of new ≡ number_of old
    → list_seen new ≡ history_of w
    → Adds (P (port_name v).callers (history_of v)) (history_of v) (history_of w)
    → MakesOne (P name.callers) old new
enters_one P place seat name old new v w at was same seen h =
    makes_one (P name.callers) (name.callers + place) old new (history_of v) (history_of w)
    (seat name.callers (history_of v)) was (same ∙ was) at.keeps
    (subst (λ (m : ℕ). Adds (P m (history_of v)) (history_of v) (history_of w)) (ap (λ (x : Name). x.callers) at.named)
    h) seen

-- the history that the seat has seen is that of the port
pub placed_now : (name : Name) (w : KeptPort) (s : PortSeat)
    → port_name w ≡ name
    → IsHistoryOf w.callers w.port.value (history_of w)
    → list_seen s ≡ history_of w
    → ArePlaced name.callers (sum name.counts) (list_seen s)
placed_now name w s named h seen =
    subst (ArePlaced name.callers (sum name.counts)) (sym seen)
    (subst (λ (x : Name). ArePlaced x.callers (sum x.counts) (history_of w)) named h.placed)

-- what an event of the phase asks stands at the port that its turn found
pub event_follows : (name : Name) (event : PhaseEvent) (old : PortSeat) (v : KeptPort)
    → IsFound name (seat_of name.callers (maker_of event)) old v
    → CanFollow (sum name.counts) event (list_seen old)
    → CanFollow (sum (port_name v).counts) event (history_of v)
event_follows name event old v at can =
    subst (λ (x : Name). CanFollow (sum x.counts) event (history_of v)) (sym at.named)
    (event_kept name.callers (sum v.port.value.counts) (sum name.counts) event (list_seen old) (history_of v)
    at.history.placed at.keeps can)

-- the turn added its entry
pub event_entered : (name : Name) (event : PhaseEvent) (old new : PortSeat) (v w : KeptPort)
    → IsFound name (seat_of name.callers (maker_of event)) old v
    → number_of old ≡ seat_of name.callers (maker_of event)
    → number_of new ≡ number_of old
    → list_seen new ≡ history_of w
    → CanFollow (sum name.counts) event (list_seen old)
    → Adds (IsEventEntry (port_name v).callers event (history_of v) (history_of v)) (history_of v) (history_of w)
    → MakesOne (IsEventEntry name.callers event (list_seen old)) old new
event_entered name event old new v w at was same seen can h =
    let step = event_step_kept name.callers (sum v.port.value.counts) (sum name.counts) event (list_seen old)
    (history_of v) at.history.placed at.keeps can in
    makes_one (IsEventEntry name.callers event (list_seen old)) (seat_of name.callers (maker_of event)) old new
    (history_of v) (history_of w) (λ x is. is.seat) was (same ∙ was) at.keeps
    (subst (λ (m : ℕ). Adds (IsEventEntry m event (list_seen old) (history_of v)) (history_of v) (history_of w))
    (ap (λ (x : Name). x.callers) at.named)
    (subst (λ (k : ℕ). Adds (IsEntry (seat_of (port_name v).callers (maker_of event)) (maker_of event) k
    (plain_event event)) (history_of v) (history_of w)) step h)) seen
