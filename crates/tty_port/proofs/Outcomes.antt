-- What a turn adds, whether or not it is denied.
use Rattle.std.specs.Prelude.{IfOk, IfErr, OnOk, OnErr}
use Rattle.std.proofs.Common.{◌≡◌, inl, inr, ℕ, ◌<◌, ◌≤◌, length, List, Bool}
use Rattle.std.proofs.Common.{true, false, Result, Ok, Err, ap, subst}
use Rattle.tty_base.specs.Sizes.{PIECE}
use Rattle.tty_calls.specs.Plain.{PlainCall}
use Rattle.port_core.specs.declared.ports.flushing.Flushed.{Flushed}
use Rattle.port_core.specs.declared.ports.flushing.Flushed.TheVariants as outcome
use Rattle.port_core.specs.Ports.{PortValue, IsPort}
use Rattle.port_core.specs.Flushes.{Flushes}
use Rattle.port_core.specs.Attempts.{PlainTried, done_by, took_part, must_wait, Raises}
use Rattle.port_cell.specs.declared.kept.Stamped.{Stamped}
use Rattle.port_cell.specs.Entries.{generation_of, AddsBy}
use Rattle.tty_port.specs.Inside.{Name, EntryWithCall}
use Rattle.tty_port.specs.Histories.{history_in, name_in}
use Rattle.tty_port.specs.Adding.{TriesCall}
use Rattle.tty_port.specs.Flushing.{GoesOnAt, FlushesPiece}
use Rattle.tty_port.proofs.Turning.{adds_by, adds_nothing}
use Rattle.tty_port.proofs.Entering.{hands, hands_same, hands_none, none_history}

pub each_ok : {A E : Type 0} (r : Result A E) (P Q : A → Type 0) → ((x : A) → P x → Q x) → IfOk r P → IfOk r Q
each_ok (Ok x) P Q f h = f x h
each_ok (Err d) P Q f h = tt

pub each_err : {A E : Type 0} (r : Result A E) (P Q : E → Type 0) → ((x : E) → P x → Q x) → IfErr r P → IfErr r Q
each_err (Ok x) P Q f h = tt
each_err (Err d) P Q f h = f d h

pub on_ok : {A E : Type 0} (r : Result A E) (P Q : Type 0) → (P → Q) → OnOk r P → OnOk r Q
on_ok (Ok x) P Q f h = f h
on_ok (Err d) P Q f h = tt

-- what holds where it is done, and where it is denied
pub either_way : {A E : Type 0} (r : Result A E) (P : A → Type 0) (F : E → Type 0) (Q : Type 0)
    → ((x : A) → P x → Q)
    → ((d : E) → F d → Q)
    → IfOk r P
    → IfErr r F
    → Q
either_way (Ok x) P F Q f g h k = f x h
either_way (Err d) P F Q f g h k = g d k

pub either_on : {A E : Type 0} (r : Result A E) (P : Type 0) (F : E → Type 0) (Q : Type 0) → (P → Q)
    → ((d : E) → F d → Q)
    → OnOk r P
    → IfErr r F
    → Q
either_on (Ok x) P F Q f g h k = f h
either_on (Err d) P F Q f g h k = g d k

pub tries_by : (c step : ℕ) (call : PlainCall) (old new : List (Stamped EntryWithCall)) (x : PlainTried)
    → TriesCall c step call old new x
    → AddsBy c old new
tries_by c step call old new (done_by a) h = adds_by c _ old new (λ x is. is.1.seat) h.0
tries_by c step call old new took_part h = adds_by c _ old new (λ x is. is.1.seat) h.0
tries_by c step call old new must_wait h =
    elim (h.0) [ inl same ↦ adds_nothing c old new same.0 | inr adds ↦ adds_by c _ old new (λ x is. is.seat) adds ]

pub raises_none : (changes : Bool) (g h : ℕ) → h ≡ g → Raises changes g h
raises_none true g h e = inl e
raises_none false g h e = e

pub hands_by : (name : Name) (run part : ℕ) (old new : List (Stamped EntryWithCall)) (x : Flushed)
    → FlushesPiece name run part old new x
    → AddsBy name.callers old new
hands_by name run part old new (outcome.Took n) h = adds_by name.callers _ old new (λ x is. is.0.seat) h.0
hands_by name run part old new outcome.Nothing h = adds_nothing name.callers old new h.0

-- a piece, or none
pub flushes : (m : ℕ) (old new : PortValue) (run part most : ℕ) (x : Flushed)
    → IsPort old
    → IsPort new
    → length old.journal < old.limit
    → GoesOnAt run part (generation_of (history_in m old)) (history_in m old)
    → most ≤ PIECE
    → PIECE ≤ most
    → Flushes old new run part most x
    → FlushesPiece (name_in m old) run part (history_in m old) (history_in m new) x
flushes m old new run part most (outcome.Took n) p q few goes small large h =
    hands m old new run part most n p q few goes small large h
flushes m old new run part most outcome.Nothing p q few goes small large h = hands_none m old new run part p h

pub flushes_same : (m : ℕ) (old new : PortValue) (run part most : ℕ) (x : Flushed)
    → IsPort old
    → Flushes old new run part most x
    → generation_of (history_in m new) ≡ generation_of (history_in m old)
flushes_same m old new run part most (outcome.Took n) p h = hands_same m old new run part most n p h
flushes_same m old new run part most outcome.Nothing p h = ap generation_of (none_history m old new h)

pub both_ok : {A E : Type 0} (r : Result A E) (P : A → Type 0) (Q : Type 0) (Z : A → Type 0)
    → ((x : A) → P x → Q → Z x)
    → IfOk r P
    → OnOk r Q
    → IfOk r Z
both_ok (Ok x) P Q Z f h k = f x h k
both_ok (Err d) P Q Z f h k = tt

pub on_err_only : {A E : Type 0} (r : Result A E) (P Q : Type 0) → (P → Q) → OnErr r P → OnErr r Q
on_err_only (Ok x) P Q f h = tt
on_err_only (Err d) P Q f h = f h

pub both_err : {A E : Type 0} (r : Result A E) (P Q Z : Type 0) → (P → Q → Z) → OnErr r P → OnErr r Q → OnErr r Z
both_err (Ok x) P Q Z f h k = tt
both_err (Err d) P Q Z f h k = f h k

pub at_ok : {A E : Type 0} (r : Result A E) (x y : A) (P : A → Type 0) → r ≡ Ok x → x ≡ y → IfOk r P → P y
at_ok r x y P e f h = subst P f (subst (λ s. IfOk s P) e h)
