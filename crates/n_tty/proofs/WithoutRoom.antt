-- Reserved room makes no difference to N_TTY on a port.
use Rattle.std.proofs.Common.{◌≡◌, ℕ, suc, ◌+◌, Bool, true, false, if◌then◌else◌, not, ◌&&◌, ◌==◌, nat_le}
use Rattle.std.proofs.Common.{Option, None, Some, List, [], ◌∷◌, length, take, ap, sym, ◌∙◌, refl}
use Rattle.tty_base.specs.Sizes.{MOST_LINE}
use Rattle.tty_base.specs.declared.characters.Flag.{Flag}
use Rattle.tty_base.specs.declared.characters.Flag.TheVariants as flag
use Rattle.tty_base.specs.declared.characters.Flagged.{Flagged}
use Rattle.tty_base.specs.declared.counters.Signal.{Signal}
use Rattle.tty_base.specs.declared.counters.Signal.TheVariants.{Int}
use Rattle.tty_modes.specs.Settings.{Settings, has_flag, character}
use Rattle.tty_modes.specs.declared.places.TheConstants.{ICANON, NOFLSH, PARMRK, IUTF8, IXANY, IXON}
use Rattle.tty_modes.specs.declared.places.TheConstants.{VSTART, VSTOP, IGNBRK, BRKINT, INPCK, IGNPAR}
use Rattle.n_tty_edit.specs.Line.{EraseLast, EraseWord, Clear, after_change}
use Rattle.n_tty_edit.specs.Width.{gone_of}
use Rattle.echo_out.specs.Echo.{echo_of}
use Rattle.echo_out.specs.declared.EchoEvent.TheVariants as event
use Rattle.opost_out.specs.Posted.{posted_bytes}
use Rattle.flow_control.specs.Output.{Output, IgnoresRoom, without_room, has_room, after_send}
use Rattle.flow_control.specs.Counting.{without_signal_room}
use Rattle.flow_control.specs.declared.tally.Counter.TheVariants as counter
use Rattle.flow_control.specs.declared.tally.Tally.{Tally}
use Rattle.flow_control.proofs.RoomLemmas.{without_room-if, on_wire-room, after_send-room}
use Rattle.flow_control.proofs.RoomLemmas.{after_try-room, after_start-room}
use Rattle.n_tty.specs.declared.roles.Role.{Role}
use Rattle.n_tty.specs.declared.roles.Role.TheVariants as role
use Rattle.n_tty.specs.States.{NTtyState, OnPort, unread_count, has_piece}
use Rattle.n_tty.specs.Room.{port_without_room, PortIgnoresRoom}
use Rattle.n_tty.specs.Storing.{after_store, with_piece}
use Rattle.n_tty.specs.Roles.{is_character, signal_of, mapped_byte, role_of}
use Rattle.n_tty.specs.Posting.{column_past_text, all_posted_bytes, posted_echo, tally_after_try, after_echo}
use Rattle.n_tty.specs.Editing.{with_line, echo_of_word_erase, echo_of_kill, echo_of_erase}
use Rattle.n_tty.specs.Flow.{after_signal, must_stop, may_start, with_stop_sent, with_start_sent, after_ixoff_rule}
use Rattle.n_tty.specs.Writing.{fitting_count, piece_size, piece_text, after_write}
use Rattle.n_tty.specs.Receiving.{with_one_more, with_quoted, stripped_byte, ordinary_bytes, after_resume}
use Rattle.n_tty.specs.Receiving.{after_resume_where, after_ordinary, after_role, after_mapped, after_unsteered}
use Rattle.n_tty.specs.Receiving.{after_unquoted, after_good, after_break, after_bad, after_flagged, with_ixoff_rule}
use Rattle.n_tty.specs.Receiving.{after_character}

-- where it makes none to either branch
port_if : (b : Bool) (x y x' y' : OnPort) → port_without_room x ≡ x' → port_without_room y ≡ y'
    → port_without_room (if b then x else y) ≡ (if b then x' else y')
port_if true x y x' y' h k = h
port_if false x y x' y' h k = k

tally_if : (b : Bool) (x y x' y' : Tally) → without_signal_room x ≡ x' → without_signal_room y ≡ y'
    → without_signal_room (if b then x else y) ≡ (if b then x' else y')
tally_if true x y x' y' h k = h
tally_if false x y x' y' h k = k

tally_after_try-room : (output : Output) (text : List ℕ) (tally : Tally)
    → without_signal_room (tally_after_try output text tally)
    ≡ tally_after_try (without_room output) text (without_signal_room tally)
tally_after_try-room output text tally = tally_if (has_room output text) _ _ _ _ refl refl

after_echo-room : (modes : Settings) (echo : List ℕ) → PortIgnoresRoom (λ (port : OnPort). after_echo modes echo port)
after_echo-room modes echo port =
    let text = posted_echo modes port echo in
    λ i. record (after_echo modes echo (port_without_room port)) {
      output = after_try-room text port.output i;
      tally = tally_after_try-room port.output text port.tally i;
    }

after_store-room : (modes : Settings) (now : ℕ) (bytes : List ℕ)
    → PortIgnoresRoom (λ (port : OnPort). after_store modes now bytes port)
after_store-room modes now bytes port =
    port_if (has_flag modes ICANON) _ _ _ _
    (port_if (nat_le (length port.tty.edit + length bytes) MOST_LINE) _ _ _ _ refl refl) refl

after_signal-room : (modes : Settings) (signal : Signal)
    → PortIgnoresRoom (λ (port : OnPort). after_signal modes signal port)
after_signal-room modes signal port = port_if (has_flag modes NOFLSH) _ _ _ _ refl refl

after_resume-room : PortIgnoresRoom after_resume
after_resume-room port = λ i. record (port_without_room port) { output = after_start-room port.output i }

after_resume_where-room : (applies : Bool) → PortIgnoresRoom (λ (port : OnPort). after_resume_where applies port)
after_resume_where-room true port = after_resume-room port
after_resume_where-room false port = refl

-- each way to take a character, in the order in which one is built on another
after_ordinary-room : (modes : Settings) (now byte : ℕ)
    → PortIgnoresRoom (λ (port : OnPort). after_ordinary modes now byte port)
after_ordinary-room modes now byte port =
    let echo = echo_of modes (event.Plain byte) in
    let bytes = ordinary_bytes modes byte in
    after_echo-room modes echo (after_store modes now bytes port)
    ∙ ap (after_echo modes echo) (after_store-room modes now bytes port)

after_role-room : (modes : Settings) (now : ℕ) (r : Role) (byte : ℕ)
    → PortIgnoresRoom (λ (port : OnPort). after_role modes now r byte port)
after_role-room modes now role.Erase byte port =
    after_echo-room modes (echo_of_erase modes (gone_of modes port.tty.start port.tty.edit))
    (with_line (after_change port.tty.edit (EraseLast (has_flag modes IUTF8))) port)
after_role-room modes now role.Kill byte port = after_echo-room modes (echo_of_kill modes port.tty.start port.tty.edit)
    (with_line (after_change port.tty.edit Clear) port)
after_role-room modes now role.WordErase byte port =
    after_echo-room modes (echo_of_word_erase modes port.tty) (with_line (after_change port.tty.edit EraseWord) port)
after_role-room modes now role.Quote byte port =
    after_echo-room modes (echo_of modes event.Quoted) (with_quoted true port)
after_role-room modes now role.Newline byte port =
    after_echo-room modes (echo_of modes event.Newline) (record port { tty = with_piece now byte port.tty })
after_role-room modes now role.Eof byte port = refl
after_role-room modes now role.Delimiter byte port =
    after_echo-room modes (echo_of modes (event.Plain byte)) (record port { tty = with_piece now byte port.tty })
after_role-room modes now role.Ordinary byte port = after_ordinary-room modes now byte port

after_mapped-room : (modes : Settings) (now : ℕ) (mapped : Option ℕ)
    → PortIgnoresRoom (λ (port : OnPort). after_mapped modes now mapped port)
after_mapped-room modes now None port = refl
after_mapped-room modes now (Some byte) port =
    port_if (has_flag modes ICANON) _ _ _ _ (after_role-room modes now (role_of modes byte) byte port)
    (after_ordinary-room modes now byte port)

after_unsteered-room : (modes : Settings) (now byte : ℕ) (signal : Option Signal)
    → PortIgnoresRoom (λ (port : OnPort). after_unsteered modes now byte signal port)
after_unsteered-room modes now byte (Some signal) port =
    let echo = echo_of modes (event.Plain byte) in
    let applies = has_flag modes IXON in
    let raised = after_signal modes signal port in
    after_echo-room modes echo (after_resume_where applies raised)
    ∙ ap (after_echo modes echo)
    (after_resume_where-room applies raised ∙ ap (after_resume_where applies) (after_signal-room modes signal port))
after_unsteered-room modes now byte None port = after_mapped-room modes now (mapped_byte modes byte) port

after_unquoted-room : (modes : Settings) (now byte : ℕ)
    → PortIgnoresRoom (λ (port : OnPort). after_unquoted modes now byte port)
after_unquoted-room modes now byte port =
    let applies = has_flag modes IXON && has_flag modes IXANY in
    let signal = signal_of modes byte in
    port_if (has_flag modes IXON && is_character modes VSTART byte) _ _ _ _ (after_resume-room port)
    (port_if (has_flag modes IXON && is_character modes VSTOP byte) _ _ _ _ refl
    (after_unsteered-room modes now byte signal (after_resume_where applies port)
    ∙ ap (after_unsteered modes now byte signal) (after_resume_where-room applies port)))

after_good-room : (modes : Settings) (now byte : ℕ)
    → PortIgnoresRoom (λ (port : OnPort). after_good modes now byte port)
after_good-room modes now byte port =
    port_if port.tty.quoted _ _ _ _ (after_ordinary-room modes now (stripped_byte modes byte) (with_quoted false port))
    (after_unquoted-room modes now (stripped_byte modes byte) port)

after_break-room : (modes : Settings) (now : ℕ) → PortIgnoresRoom (λ (port : OnPort). after_break modes now port)
after_break-room modes now port =
    port_if (has_flag modes IGNBRK) _ _ _ _ refl
    (port_if (has_flag modes BRKINT) _ _ _ _ (after_signal-room modes Int port)
    (after_store-room modes now (if has_flag modes PARMRK then 255 ∷ 0 ∷ 0 ∷ [] else 0 ∷ []) port))

after_bad-room : (modes : Settings) (now byte : ℕ) → PortIgnoresRoom (λ (port : OnPort). after_bad modes now byte port)
after_bad-room modes now byte port =
    port_if (not (has_flag modes INPCK)) _ _ _ _ (after_good-room modes now byte port)
    (port_if (has_flag modes IGNPAR) _ _ _ _ refl
    (after_store-room modes now (if has_flag modes PARMRK then 255 ∷ 0 ∷ byte ∷ [] else 0 ∷ []) port))

after_flagged-room : (modes : Settings) (now : ℕ) (f : Flag) (byte : ℕ)
    → PortIgnoresRoom (λ (port : OnPort). after_flagged modes now f byte port)
after_flagged-room modes now flag.Normal byte port = after_good-room modes now byte port
after_flagged-room modes now flag.Break byte port = after_break-room modes now (with_one_more counter.Break port)
after_flagged-room modes now flag.Parity byte port = after_bad-room modes now byte (with_one_more counter.Parity port)
after_flagged-room modes now flag.Frame byte port = after_bad-room modes now byte (with_one_more counter.Frame port)
after_flagged-room modes now flag.Overrun byte port = refl

-- the rule for ixoff
with_stop_sent-room : (modes : Settings) → IgnoresRoom (with_stop_sent modes)
with_stop_sent-room modes output =
    without_room-if (character modes VSTOP == 0) _ _ _ _ refl
    (ap (λ (o : Output). record o { noted = true }) (on_wire-room (character modes VSTOP ∷ []) output))

with_start_sent-room : (modes : Settings) → IgnoresRoom (with_start_sent modes)
with_start_sent-room modes output =
    without_room-if (character modes VSTART == 0) _ _ _ _ refl
    (ap (λ (o : Output). record o { noted = false }) (on_wire-room (character modes VSTART ∷ []) output))

pub after_ixoff_rule-room : (modes : Settings) (unread : ℕ) (complete : Bool)
    → IgnoresRoom (λ (output : Output). after_ixoff_rule modes unread complete output)
after_ixoff_rule-room modes unread complete output =
    without_room-if (must_stop modes unread complete output) _ _ _ _ (with_stop_sent-room modes output)
    (without_room-if (may_start modes unread output) _ _ _ _ (with_start_sent-room modes output) refl)

with_ixoff_rule-room : (modes : Settings) → PortIgnoresRoom (λ (port : OnPort). with_ixoff_rule modes port)
with_ixoff_rule-room modes port =
    λ i. record (port_without_room port) {
      output = after_ixoff_rule-room modes (unread_count port.tty) (has_piece port.tty) port.output i;
    }

pub after_character-room : (modes : Settings) (now : ℕ) (c : Flagged)
    → PortIgnoresRoom (λ (port : OnPort). after_character modes now c port)
after_character-room modes now c port =
    with_ixoff_rule-room modes (after_flagged modes now c.flag c.byte port)
    ∙ ap (with_ixoff_rule modes) (after_flagged-room modes now c.flag c.byte port)

-- a piece of a write
fitting_count-room : (modes : Settings) (column : ℕ) (output : Output) (bytes : List ℕ)
    → fitting_count modes column (without_room output) bytes ≡ fitting_count modes column output bytes
fitting_count-room modes column output [] = refl
fitting_count-room modes column output (byte ∷ bytes) =
    let text = posted_bytes modes column byte in
    let next = column_past_text modes column text in
    ap (λ (n : ℕ). if has_room output text then suc n else 0) (
    ap (λ (o : Output). fitting_count modes next o bytes) (sym (after_send-room text output))
    ∙ fitting_count-room modes next (after_send output text) bytes
    )

pub piece_size-room : (modes : Settings) (tty : NTtyState) (output : Output) (bytes : List ℕ)
    → piece_size modes tty (without_room output) bytes ≡ piece_size modes tty output bytes
piece_size-room modes tty output bytes = fitting_count-room modes tty.column output (take 64 bytes)

pub piece_text-room : (modes : Settings) (tty : NTtyState) (output : Output) (bytes : List ℕ)
    → piece_text modes tty (without_room output) bytes ≡ piece_text modes tty output bytes
piece_text-room modes tty output bytes =
    ap (λ (n : ℕ). all_posted_bytes modes tty.column (take n bytes)) (piece_size-room modes tty output bytes)

pub after_write-room : (modes : Settings) (output : Output) (bytes : List ℕ) (tty : NTtyState)
    → after_write modes (without_room output) bytes tty ≡ after_write modes output bytes tty
after_write-room modes output bytes tty =
    ap (λ (text : List ℕ). record tty { column = column_past_text modes tty.column text })
    (piece_text-room modes tty output bytes)
