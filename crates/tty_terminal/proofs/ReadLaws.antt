-- What a read through a live handle comes to under N_TTY.
use Rattle.std.proofs.Common.{◌≡◌, ℕ, ◌<◌, Bool, true, false, not, Option, None, Some}
use Rattle.std.proofs.Common.{unwrap_or, if◌then◌else◌, refl, sym, ◌∙◌, ap, subst, ltb-true}
use Rattle.std.proofs.lemmas.Bool.{false≢true}
use Rattle.tty_modes.specs.Settings.{Settings, has_flag}
use Rattle.tty_modes.specs.declared.places.TheConstants.{ICANON}
use Rattle.line_store.specs.Unread.{end_count}
use Rattle.n_tty.specs.States.{NTtyState, has_piece}
use Rattle.n_tty.specs.Reading.{bytes_read, after_read, is_readable}
use Rattle.tty_base.specs.declared.counters.Errno.TheVariants.{EAGAIN}
use Rattle.tty_calls.specs.Plain.{got}
use Rattle.handle_table.specs.declared.HandleState.{HandleState}
use Rattle.ldisc_switch.specs.declared.discipline.Disc.TheVariants as disc
use Rattle.tty_terminal.specs.declared.callers.CallerState.{CallerState}
use Rattle.tty_terminal.specs.declared.terminals.Terminal.TheInside.{Inside}
use Rattle.tty_terminal.specs.Inside.{terminal_of, value_of}
use Rattle.tty_terminal.specs.Terminals.{Terminal}
use Rattle.tty_terminal.specs.Meeting.{InRoom}
use Rattle.tty_terminal.specs.Outcomes.{Outcome, waits, gives, refuses, may_read}
use Rattle.tty_terminal.specs.Transfers.{since_or, read_outcome, reading_outcome}
use Rattle.tty_terminal.proofs.RoomLaws.{through}

pub since_is : (waits : Option ℕ) (now : ℕ) → unwrap_or waits now ≡ since_or waits now
since_is None now = refl
since_is (Some tick) now = refl

pub taken : (b : Bool) (x y : Outcome) → b ≡ true → (if b then x else y) ≡ x
taken true x y e = refl
taken false x y e = absurd (false≢true e)

pub ready_read : (t : Terminal) (s : CallerState) (n : ℕ) (handle : HandleState) (tty : NTtyState)
    → may_read handle.access ≡ true
    → not handle.live ≡ false
    → t.disc ≡ disc.Tty tty
    → is_readable t.modes handle.nonblock n (since_or s.waits t.tick) t.tick tty ≡ true
    → reading_outcome t s n (Some handle)
    ≡ gives (got (bytes_read t.modes n tty)) false (record t { disc = disc.Tty (after_read t.modes n tty) })
ready_read t s n handle tty may live is ready =
    through (not (may_read handle.access)) _ _ (ap not may)
    ∙ (through (not handle.live) _ _ live
    ∙ (ap (read_outcome t s handle.nonblock n) is
    ∙ taken (is_readable t.modes handle.nonblock n (since_or s.waits t.tick) t.tick tty) _ _ ready))

whole : (canonical has other : Bool) → (if canonical then has else other) ≡ true → canonical ≡ true → has ≡ true
whole true has other e h = e
whole false has other e h = absurd (false≢true h)

-- in canonical mode a piece is there
pub whole_piece : (modes : Settings) (nonblock : Bool) (n since now : ℕ) (tty : NTtyState)
    → is_readable modes nonblock n since now tty ≡ true
    → has_flag modes ICANON ≡ true
    → 0 < end_count tty.items
whole_piece modes nonblock n since now tty ready canonical =
    ltb-true 0 (end_count tty.items) (whole (has_flag modes ICANON) (has_piece tty) _ ready canonical)

unready_read : (t : Terminal) (s : CallerState) (n : ℕ) (handle : HandleState) (tty : NTtyState)
    → may_read handle.access ≡ true
    → not handle.live ≡ false
    → t.disc ≡ disc.Tty tty
    → is_readable t.modes handle.nonblock n (since_or s.waits t.tick) t.tick tty ≡ false
    → reading_outcome t s n (Some handle) ≡ (if handle.nonblock then refuses EAGAIN t else waits)
unready_read t s n handle tty may live is unready =
    through (not (may_read handle.access)) _ _ (ap not may)
    ∙ (through (not handle.live) _ _ live
    ∙ (ap (read_outcome t s handle.nonblock n) is
    ∙ through (is_readable t.modes handle.nonblock n (since_or s.waits t.tick) t.tick tty) _ _ unready))

-- the same of a terminal with its room, by what its fields told
pub told_unready : (a : Inside) (v : InRoom) (s : CallerState) (n : ℕ) (asked : Option HandleState)
    (handle : HandleState) (tty : NTtyState) (since : ℕ) (may ready : Bool)
    → value_of a ≡ v
    → asked ≡ Some handle
    → may ≡ may_read handle.access
    → may ≡ true
    → not handle.live ≡ false
    → a.disc ≡ disc.Tty tty
    → since ≡ unwrap_or s.waits a.tick
    → ready ≡ is_readable a.modes handle.nonblock n since a.tick tty
    → ready ≡ false
    → reading_outcome v.terminal s n asked ≡ (if handle.nonblock then refuses EAGAIN v.terminal else waits)
told_unready a v s n asked handle tty since may ready view some access may_be live is began asks none =
    let t = terminal_of a in
    let from : since ≡ since_or s.waits a.tick = began ∙ since_is s.waits a.tick in
    let unready : is_readable a.modes handle.nonblock n (since_or s.waits a.tick) a.tick tty ≡ false =
    ap (λ (w : ℕ). is_readable a.modes handle.nonblock n w a.tick tty) (sym from) ∙ (sym asks ∙ none) in
    subst (λ (u : InRoom).
    reading_outcome u.terminal s n asked ≡ (if handle.nonblock then refuses EAGAIN u.terminal else waits)) view
    (ap (λ (h : Option HandleState). reading_outcome t s n h) some
    ∙ unready_read t s n handle tty (sym access ∙ may_be) live is unready)
