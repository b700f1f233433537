-- Reserved room makes no difference: what the fields do is what the terminal does.
use Rattle.std.proofs.Common.{◌≡◌, ℕ, List, Bool, true, false, not, ◌&&◌, ◌==◌, nat_lt}
use Rattle.std.proofs.Common.{if◌then◌else◌, refl, sym, ◌∙◌, ap, arith}
use Rattle.std.proofs.lemmas.Bool.{false≢true}
use Rattle.std.proofs.lemmas.Bool.Decides.{nat_tests}
use Rattle.tty_modes.specs.Settings.{Settings}
use Rattle.flow_control.specs.Output.{Output, without_room, after_send}
use Rattle.flow_control.proofs.RoomLemmas.{after_send-room}
use Rattle.n_tty.specs.States.{NTtyState}
use Rattle.n_tty.specs.Writing.{piece_text}
use Rattle.n_tty.proofs.WithoutRoom.{piece_text-room}
use Rattle.ldisc_switch.specs.declared.discipline.Disc.{Disc}
use Rattle.ldisc_switch.specs.declared.discipline.Disc.TheVariants as disc
use Rattle.tty_terminal.specs.Outcomes.{Outcome}

-- ---- a write

pub through : (b : Bool) (x y : Outcome) → b ≡ false → (if b then x else y) ≡ y
through true x y e = absurd (false≢true (sym e))
through false x y e = refl

pub none_of_some : (left fit : ℕ) → (left == 0) ≡ false → nat_lt 0 fit ≡ false → (fit == left) ≡ false
none_of_some left fit some none = grind (arith, nat_tests)

pub and_not : (a b : Bool) → a ≡ false → (not a && b) ≡ b
and_not true b e = absurd (false≢true (sym e))
and_not false b e = refl

-- what is posted of a write is the same without room
pub posted_made : (modes : Settings) (tty : NTtyState) (wire : Output) (rest : List ℕ)
    → without_room (after_send wire (piece_text modes tty wire rest))
    ≡ after_send (without_room wire) (piece_text modes tty (without_room wire) rest)
posted_made modes tty wire rest =
    after_send-room (piece_text modes tty wire rest) wire
    ∙ ap (λ (text : List ℕ). after_send (without_room wire) text) (sym (piece_text-room modes tty wire rest))
