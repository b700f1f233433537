-- Reserved room makes no difference to what becomes of output and of a tally.
use Rattle.std.proofs.Common.{◌≡◌, ℕ, ◌-◌, Bool, true, false, if◌then◌else◌, List, [], ◌++◌, length, refl, ap, arith}
use Rattle.flow_control.specs.Output.{Output, IgnoresRoom, without_room, is_halted, has_room}
use Rattle.flow_control.specs.Output.{on_wire, after_send, after_try, with_held_sent, after_start}

-- where it makes none to either branch
pub without_room-if : (b : Bool) (x y x' y' : Output) → without_room x ≡ x' → without_room y ≡ y'
    → without_room (if b then x else y) ≡ (if b then x' else y')
without_room-if true x y x' y' h k = h
without_room-if false x y x' y' h k = k

pub on_wire-room : (bytes : List ℕ) → IgnoresRoom (λ (output : Output). on_wire output bytes)
on_wire-room bytes output =
    let none : 0 ≡ 0 - length bytes = omega arith in
    ap (λ (spare : ℕ). record output { wire = output.wire ++ bytes; spare = spare }) none

pub after_send-room : (bytes : List ℕ) → IgnoresRoom (λ (output : Output). after_send output bytes)
after_send-room bytes output = without_room-if (is_halted output) _ _ _ _ refl (on_wire-room bytes output)

pub after_try-room : (bytes : List ℕ) → IgnoresRoom (λ (output : Output). after_try output bytes)
after_try-room bytes output = without_room-if (has_room output bytes) _ _ _ _ (after_send-room bytes output) refl

with_held_sent-room : IgnoresRoom with_held_sent
with_held_sent-room output = ap (λ (o : Output). record o { held = [] }) (on_wire-room output.held output)

pub after_start-room : IgnoresRoom after_start
after_start-room output =
    let resumed : Output = record output { stopped = false } in
    without_room-if (is_halted resumed) _ _ _ _ refl (with_held_sent-room resumed)
