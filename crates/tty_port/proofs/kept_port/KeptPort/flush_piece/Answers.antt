use Rattle.std.specs.Prelude.{IfOk, IfErr, OnOk}
use Rattle.std.proofs.Common.{◌≡◌, ℕ, ◌≤◌, Result, Ok, Err, ap, arith}
use Rattle.tty_base.specs.Sizes.{PIECE}
use Rattle.tty_calls.specs.declared.answers.Denied.{Denied}
use Rattle.port_core.specs.declared.ports.flushing.Flushed.{Flushed}
use Rattle.port_core.specs.Ports.{PortValue, IsPort, IsOpen, Denies}
use Rattle.port_core.specs.Flushes.{Flushes}
use Rattle.port_cell.specs.Entries.{generation_of, AddsBy}
use Rattle.tty_port.specs.Histories.{history_in, name_in}
use Rattle.tty_port.specs.Flushing.{GoesOnAt, FlushesPiece}
use Rattle.tty_port.proofs.Histories.{port_runs}
use Rattle.tty_port.proofs.Attempting.{denied_same, denied_full}
use Rattle.tty_port.proofs.Turning.{adds_nothing}
use Rattle.tty_port.proofs.Entering.{is_piece_of}
use Rattle.tty_port.proofs.Outcomes.{each_err, either_way, flushes, flushes_same, hands_by}
use Rattle.tty_port.proofs.kept_port.KeptPort.flush_piece.Goals as goal

-- what a piece came to, where as many characters at most were asked for as a piece may have
flushes_ok : (m : ℕ) (old new : PortValue) (run part most : ℕ) (r : Result Flushed Denied)
    → IsPort old
    → IsPort new
    → OnOk r (IsOpen old)
    → GoesOnAt run part (generation_of (history_in m old)) (history_in m old)
    → IfOk r (Flushes old new run part most)
    → most ≤ PIECE
    → PIECE ≤ most
    → IfOk r (FlushesPiece (name_in m old) run part (history_in m old) (history_in m new))
flushes_ok m old new run part most (Ok x) p q is_open goes h small large =
    flushes m old new run part most x p q is_open.0 goes small large h
flushes_ok m old new run part most (Err d) p q is_open goes h small large = tt

flushes_kept : (m : ℕ) (old new : PortValue) (run part most : ℕ) (r : Result Flushed Denied)
    → IsPort old
    → IfOk r (Flushes old new run part most)
    → IfErr r (λ d. Denies d old new)
    → generation_of (history_in m new) ≡ generation_of (history_in m old)
flushes_kept m old new run part most (Ok x) p h k = flushes_same m old new run part most x p h
flushes_kept m old new run part most (Err d) p h k = ap generation_of (denied_same m d old new k)

pub flush_piece-flushed-requires : goal.flush_piece-flushed-requires
flush_piece-flushed-requires c = rw c.deref_mut-port.ensures.value (is_piece_of c.args.self.now.callers
    c.args.self.now.port.value c.args.run c.args.part _ (omega arith) (omega arith)
    (rw (← c.deref_mut-port.ensures.value) c.known.ensures.port) c.requires)

pub returns-clause-flushed : goal.returns-clause-flushed
returns-clause-flushed c =
    let v = c.args.self.now.port.value in
    let p : IsPort v = rw (← c.deref_mut-port.ensures.value) c.known.ensures.port in
    flushes_ok c.args.self.now.callers v c.flush_piece-flushed.new.self c.args.run c.args.part _
    c.flush_piece-flushed.result p c.known-2.ensures.port
    (rw c.deref_mut-port.ensures.value at c.flush_piece-flushed.ensures.open) c.requires
    (rw c.deref_mut-port.ensures.value at c.flush_piece-flushed.ensures.flushed) (omega arith) (omega arith)

pub returns-clause-full : goal.returns-clause-full
returns-clause-full c =
    each_err c.flush_piece-flushed.result _ _
    (λ d h. denied_full c.args.self.now.callers d c.args.self.now.port.value c.flush_piece-flushed.new.self h)
    (rw (← c.deref_mut-port.ensures.value) c.flush_piece-flushed.ensures.err)

pub returns-clause-by : goal.returns-clause-by
returns-clause-by c =
    let m = c.args.self.now.callers in
    let v = c.args.self.now.port.value in
    let w = c.flush_piece-flushed.new.self in
    let p : IsPort v = rw (← c.deref_mut-port.ensures.value) c.known.ensures.port in
    either_way c.flush_piece-flushed.result _ _ (AddsBy m (history_in m v) (history_in m w))
    (λ x h. hands_by (name_in m v) c.args.run c.args.part (history_in m v) (history_in m w) x h)
    (λ d h. adds_nothing m (history_in m v) (history_in m w) (denied_same m d v w h))
    (flushes_ok m v w c.args.run c.args.part _ c.flush_piece-flushed.result p c.known-2.ensures.port
    (rw c.deref_mut-port.ensures.value at c.flush_piece-flushed.ensures.open) c.requires
    (rw c.deref_mut-port.ensures.value at c.flush_piece-flushed.ensures.flushed) (omega arith) (omega arith))
    (rw (← c.deref_mut-port.ensures.value) c.flush_piece-flushed.ensures.err)

pub returns-clause-generation : goal.returns-clause-generation
returns-clause-generation c =
    let v = c.args.self.now.port.value in
    let p : IsPort v = rw (← c.deref_mut-port.ensures.value) c.known.ensures.port in
    flushes_kept c.args.self.now.callers v c.flush_piece-flushed.new.self
    c.args.run c.args.part _ c.flush_piece-flushed.result p
    (rw c.deref_mut-port.ensures.value at c.flush_piece-flushed.ensures.flushed)
    (rw (← c.deref_mut-port.ensures.value) c.flush_piece-flushed.ensures.err)

pub returns-clause-few : goal.returns-clause-few
returns-clause-few c = port_runs c.args.self.now.callers c.flush_piece-flushed.new.self c.known-2.ensures.port
