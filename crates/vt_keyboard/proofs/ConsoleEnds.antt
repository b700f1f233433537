-- The ends of all consoles' lines and clocks, one console after the other, and what the keyboard's thread comes to.
use Rattle.std.proofs.Common.{◌≡◌, ℕ, ◌<◌, List, Some, length, arith}
use Rattle.std.specs.Prelude.{Option, slice_get, slice_index_or}
use Rattle.tty_base.specs.declared.characters.Flagged.{Flagged}
use Rattle.word_ring.specs.Ends.{PutterState}
use Rattle.tty_port.specs.declared.shared.SharedPort.{SharedPort}
use Rattle.vt_keyboard.specs.declared.console_ends.KeySeats.{KeySeats}
use Rattle.vt_keyboard.specs.Consoles.{CanEndIf, EndsAt, PairsUpTo}
use Rattle.vt_keyboard.proofs.AllLines.{stands_at}
use Rattle.vt_keyboard.proofs.Pairs.{next_pair}

pub next_can : (ports : List (Option SharedPort)) (i : ℕ) (seats seated : List (Option KeySeats))
    (ends now : List (PutterState Flagged))
    → i < length ports
    → length ports ≡ length seats
    → length ends ≡ length seats
    → ((p : ℕ) (port : Option SharedPort) (s : Option KeySeats) (e : PutterState Flagged)
    → slice_get ports p ≡ Some port
    → slice_get seats p ≡ Some s
    → slice_get ends p ≡ Some e
    → CanEndIf port s e)
    → PairsUpTo (EndsAt ports) i seats seated ends now
    → (port : Option SharedPort) (s : Option KeySeats) (e : PutterState Flagged)
    → port ≡ slice_index_or ports i port
    → s ≡ slice_index_or seated i s
    → e ≡ slice_index_or now i e
    → CanEndIf port s e
next_can ports i seats seated ends now lt all each can h port s e is_port is_s is_e =
    next_pair (EndsAt ports) (λ q t f. (r : Option SharedPort) → slice_get ports q ≡ Some r → CanEndIf r t f) i seats
    seated ends now (omega (arith, lt, all)) each
    (λ q t f at_t at_f r at_r. can q r t f at_r at_t at_f) h s e is_s is_e port (stands_at ports i port lt is_port)
