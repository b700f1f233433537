-- The echo of a byte that is shown.
use Rattle.std.proofs.Common.{◌≡◌, ℕ, ◌+◌, ◌≤◌, Bool, true, false, cond, not, ◌&&◌, ◌||◌, ◌==◌, nat_le, nat_lt}
use Rattle.std.proofs.Common.{bit_xor, List, [], ◌∷◌, ap, sym, ◌∙◌, refl, inl, inr, arith, append-nil, ne_eqb, le-ltb}
use Rattle.std.proofs.Common.{le-leb}
use Rattle.std.proofs.lemmas.Bool.{cases_Bool}
use Rattle.tty_modes.specs.Settings.{Settings, has_flag}
use Rattle.tty_modes.specs.declared.places.TheConstants.{ECHO, ECHOCTL, IUTF8}
use Rattle.echo_out.specs.Echo.{shown_bytes}
use Rattle.echo_out.specs.declared.EchoEvent.TheVariants as event
use Rattle.opost_out.proofs.Columns.{plain_posted, plain_column}
use Rattle.opost_out.specs.Posted.{posted_bytes}
use Rattle.flow_control.specs.Output.{Output, is_halted, has_room, room_of, after_try}
use Rattle.flow_control.specs.Counting.{with_count}
use Rattle.flow_control.specs.declared.tally.Counter.TheVariants.{Echo}
use Rattle.flow_control.specs.declared.tally.Tally.{Tally}
use Rattle.n_tty.specs.States.{NTtyState, OnPort, on_port}
use Rattle.n_tty.specs.Posting.{column_after_try, all_posted_bytes, tally_after_try, after_echo}
use Rattle.n_tty.specs.Receiving.{with_echo}
use Rattle.n_tty.proofs.PostingLemmas.{after_send-nil}

pub either_way : {X : Type 0} (b : Bool) (x : X) → cond b x x ≡ x
either_way true x = refl
either_way false x = refl

pub never_both : (b : Bool) → (b && false) ≡ false
never_both true = refl
never_both false = refl

-- no bytes always fit
has_room-nil : (output : Output) → has_room output [] ≡ true
has_room-nil output = elim (cases_Bool (is_halted output)) [
  | inl halted ↦ ap (λ b. not b || nat_le 0 (room_of output)) halted ∙ le-leb 0 (room_of output) (omega arith)
  | inr runs ↦ ap (λ b. not b || nat_le 0 (room_of output)) runs
]

-- an echo of no bytes changes nothing
after_echo-nil : (modes : Settings) (port : OnPort) → port ≡ after_echo modes [] port
after_echo-nil modes port =
    let output = port.output in
    let column : port.tty.column ≡ column_after_try modes output port.tty.column [] =
    sym (either_way (has_room output []) port.tty.column) in
    let sent : output ≡ after_try output [] =
    sym
    (ap (λ o. cond (has_room output []) o output) (after_send-nil output) ∙ either_way (has_room output []) output) in
    let tally : port.tally ≡ tally_after_try output [] port.tally =
    sym (ap (λ b. cond b port.tally (record port.tally { counts = with_count port.tally.counts Echo 0 }))
    (has_room-nil output)) in
    λ i. on_port (record port.tty { column = column i }) (sent i) (tally i)

pub unechoed : (modes : Settings) (b : ℕ) (port : OnPort)
    → has_flag modes ECHO ≡ false
    → port ≡ with_echo modes (event.Plain b) port
unechoed modes b port silent =
    after_echo-nil modes port ∙ sym (ap (λ e. after_echo modes (cond e (shown_bytes modes b) []) port) silent)

-- a byte from blank to tilde is shown as itself
shown_plainly : (modes : Settings) (b : ℕ) → 32 ≤ b → b ≤ 126 → shown_bytes modes b ≡ b ∷ []
shown_plainly modes b low high =
    let control : ((nat_lt b 32 && not (b == 9 || b == 10)) || b == 127) ≡ false =
    ap (λ t. (t && not (b == 9 || b == 10)) || b == 127) (le-ltb b 32 low) ∙ ne_eqb b 127 (λ e. omega arith) in
    ap (λ t. cond (has_flag modes ECHOCTL && t) (94 ∷ bit_xor b 64 ∷ []) (b ∷ [])) control
    ∙ ap (λ t. cond t (94 ∷ bit_xor b 64 ∷ []) (b ∷ [])) (never_both (has_flag modes ECHOCTL))

echoed_as_posted : (modes : Settings) (b : ℕ) (tty : NTtyState) (output : Output) (tally : Tally)
    → has_flag modes ECHO ≡ true
    → 32 ≤ b
    → b ≤ 126
    → on_port (record tty { column = column_after_try modes output tty.column (posted_bytes modes tty.column b) })
    (after_try output (posted_bytes modes tty.column b))
    (tally_after_try output (posted_bytes modes tty.column b) tally)
    ≡ with_echo modes (event.Plain b) (on_port tty output tally)
echoed_as_posted modes b tty output tally echoes low high =
    let port : OnPort = on_port tty output tally in
    let text : posted_bytes modes tty.column b ≡ all_posted_bytes modes tty.column (b ∷ []) =
    sym (append-nil (posted_bytes modes tty.column b)) in
    ap (λ (text : List ℕ). on_port (record tty { column = column_after_try modes output tty.column text })
    (after_try output text) (tally_after_try output text tally)) text
    ∙ ap (λ bytes. after_echo modes bytes port) (sym (shown_plainly modes b low high))
    ∙ ap (λ e. after_echo modes (cond e (shown_bytes modes b) []) port) (sym echoes)

-- what the echo of a printed byte leaves
pub echoed_plainly : (modes : Settings) (b : ℕ) (tty : NTtyState) (output : Output) (tally : Tally)
    → has_flag modes ECHO ≡ true
    → 32 ≤ b
    → b ≤ 126
    → on_port (record tty { column = cond (has_room output (b ∷ [])) (tty.column + 1) tty.column })
    (after_try output (b ∷ [])) (tally_after_try output (b ∷ []) tally)
    ≡ with_echo modes (event.Plain b) (on_port tty output tally)
echoed_plainly modes b tty output tally echoes low high =
    ap (λ (column : ℕ). on_port (record tty { column = cond (has_room output (b ∷ [])) column tty.column })
    (after_try output (b ∷ [])) (tally_after_try output (b ∷ []) tally))
    (plain_column tty.column b (has_flag modes IUTF8) low high)
    ∙ ap
    (λ (text : List ℕ). on_port (record tty { column = column_after_try modes output tty.column text })
    (after_try output text) (tally_after_try output text tally))
    (plain_posted modes tty.column b low high)
    ∙ echoed_as_posted modes b tty output tally echoes low high
