-- Texts that are posted one after the other.
use Rattle.std.proofs.Common.{◌≡◌, ℕ, ◌+◌, ◌-◌, ◌*◌, ◌≤◌, true, false, cond, List, [], ◌∷◌, ◌++◌, length, ap}
use Rattle.std.proofs.Common.{sym, ◌∙◌, refl, inl, inr, arith, length-append, append-nil, append_assoc, not, ◌||◌}
use Rattle.std.proofs.Common.{nat_le, ◌<◌, get_or, drop}
use Rattle.std.proofs.lemmas.Bool.{cases_Bool, cond-true, cond-false, leb-true, le-leb}
use Rattle.flow_control.specs.Counting.{with_count}
use Rattle.flow_control.specs.declared.tally.Counter.TheVariants.{Echo}
use Rattle.flow_control.specs.declared.tally.Tally.{Tally}
use Rattle.std.proofs.lemmas.Bool.Decides.{nat_tests}
use Rattle.std.proofs.lemmas.List.{drop_more}
use Rattle.tty_modes.specs.Settings.{Settings}
use Rattle.opost_out.specs.Column.{PostedByte, column_after_byte, column_after, posted_text_under}
use Rattle.opost_out.specs.Posted.{posted_bytes}
use Rattle.flow_control.specs.Output.{Output, is_halted, has_room, after_send, after_try, on_wire, room_of}
use Rattle.n_tty.specs.Posting.{column_past_text, column_after_try, all_posted_bytes, tally_after_try}

abbrev held_by : Output → List ℕ → Output
held_by output bytes = record output { held = output.held ++ bytes }

-- what is sent, once it is known whether output is halted
after_send-halted : (output : Output) (bytes : List ℕ)
    → is_halted output ≡ true
    → after_send output bytes ≡ held_by output bytes
after_send-halted output bytes halted = ap (λ b. cond b (held_by output bytes) (on_wire output bytes)) halted

after_send-running : (output : Output) (bytes : List ℕ)
    → is_halted output ≡ false
    → after_send output bytes ≡ on_wire output bytes
after_send-running output bytes runs = ap (λ b. cond b (held_by output bytes) (on_wire output bytes)) runs

-- a text of no bytes changes nothing
pub after_send-nil : (output : Output) → after_send output [] ≡ output
after_send-nil output = elim (cases_Bool (is_halted output)) [
  | inl halted ↦ after_send-halted output [] halted ∙ (λ i. record output { held = append-nil output.held i })
  | inr runs ↦
      after_send-running output [] runs
      ∙ (λ i. record output {
        wire = append-nil output.wire i;
        spare = (let same : output.spare - 0 ≡ output.spare = omega arith in same) i;
      })
]

-- one text after another is both together
pub after_send-append : (output : Output) (a b : List ℕ)
    → after_send output (a ++ b) ≡ after_send (after_send output a) b
after_send-append output a b = elim (cases_Bool (is_halted output)) [
  | inl halted ↦
      after_send-halted output (a ++ b) halted
      ∙ (λ i. record output { held = sym (append_assoc output.held a b) i })
      ∙ sym (after_send-halted (held_by output a) b halted)
      ∙ sym (ap (λ o. after_send o b) (after_send-halted output a halted))
  | inr runs ↦
      let len = length-append a b in
      after_send-running output (a ++ b) runs
      ∙ (λ i. record output {
        wire = sym (append_assoc output.wire a b) i;
        spare = (let same : output.spare - length (a ++ b) ≡ output.spare - length a - length b = omega (arith, len) in
            same) i;
      })
      ∙ sym (after_send-running (on_wire output a) b runs)
      ∙ sym (ap (λ o. after_send o b) (after_send-running output a runs))
]

-- what is sent takes at most its length of the room on the wire
pub after_send-spare : (output : Output) (bytes : List ℕ)
    → output.spare ≤ (after_send output bytes).spare + length bytes
after_send-spare output bytes = elim (cases_Bool (is_halted output)) [
  | inl halted ↦ omega (arith, ap (λ o. o.spare) (after_send-halted output bytes halted))
  | inr runs ↦ omega (arith, ap (λ o. o.spare) (after_send-running output bytes runs))
]

-- without a halt everything fits, and with one what is within the room
has_room-running : (output : Output) (bytes : List ℕ) → is_halted output ≡ false → has_room output bytes ≡ true
has_room-running output bytes runs = ap (λ b. not b || nat_le (length bytes) (room_of output)) runs

has_room-halted : (output : Output) (bytes : List ℕ)
    → is_halted output ≡ true
    → has_room output bytes ≡ nat_le (length bytes) (room_of output)
has_room-halted output bytes halted = ap (λ b. not b || nat_le (length bytes) (room_of output)) halted

-- where a text fits, its front fits, and then its rest
pub has_room-front : (output : Output) (a b : List ℕ) → has_room output (a ++ b) ≡ true → has_room output a ≡ true
has_room-front output a b fits = elim (cases_Bool (is_halted output)) [
  | inl halted ↦
      let within = leb-true (length (a ++ b)) (room_of output) (sym (has_room-halted output (a ++ b) halted) ∙ fits) in
      has_room-halted output a halted ∙ le-leb _ _ (omega (arith, length-append a b))
  | inr runs ↦ has_room-running output a runs
]

pub has_room-rest : (output : Output) (a b : List ℕ)
    → has_room output (a ++ b) ≡ true
    → has_room (after_send output a) b ≡ true
has_room-rest output a b fits = elim (cases_Bool (is_halted output)) [
  | inl halted ↦
      let within = leb-true (length (a ++ b)) (room_of output) (sym (has_room-halted output (a ++ b) halted) ∙ fits) in
      ap (λ o. has_room o b) (after_send-halted output a halted)
      ∙ has_room-halted (held_by output a) b halted
      ∙ le-leb _ _ (omega (arith, length-append a b, length-append output.held a))
  | inr runs ↦ ap (λ o. has_room o b) (after_send-running output a runs) ∙ has_room-running (on_wire output a) b runs
]

-- a byte moves the column by at most 8
column_after_byte-le : (column : ℕ) (s : PostedByte) → column_after_byte column s ≤ column + 8
column_after_byte-le column s = grind (arith, nat_tests)

pub column_after-le : (column : ℕ) (text : List PostedByte) → column_after column text ≤ column + 8 * length text
column_after-le column [] = omega arith
column_after-le column (s ∷ text) =
    omega (arith, column_after_byte-le column s, column_after-le (column_after_byte column s) text)

pub column_past_text-append : (modes : Settings) (column : ℕ) (a b : List ℕ)
    → column_past_text modes column (a ++ b) ≡ column_past_text modes (column_past_text modes column a) b
column_past_text-append modes column [] b = refl
column_past_text-append modes column (x ∷ a) b =
    column_past_text-append modes (column_past_text modes column (x ∷ [])) a b

pub column_past_text-le : (modes : Settings) (column : ℕ) (text : List ℕ)
    → column_past_text modes column text ≤ column + 8 * length text
column_past_text-le modes column [] = omega arith
column_past_text-le modes column (x ∷ text) =
    omega (
      arith,
      column_past_text-le modes (column_past_text modes column (x ∷ [])) text,
      column_after-le column (posted_text_under modes (x ∷ [])),
    )

-- the text of the bytes from a place on is the piece of the first of them, and the text of the rest
pub all_posted_bytes-more : (modes : Settings) (column column' : ℕ) (bytes piece : List ℕ) (i : ℕ) → i < length bytes
    → piece ≡ posted_bytes modes column (get_or bytes i 0) → column' ≡ column_past_text modes column piece
    → all_posted_bytes modes column (drop i bytes) ≡ piece ++ all_posted_bytes modes column' (drop (i + 1) bytes)
all_posted_bytes-more modes column column' bytes piece i within is_piece is_column =
    let rest = drop (i + 1) bytes in
    ap (all_posted_bytes modes column) (drop_more bytes i 0 within)
    ∙ ap (λ p. p ++ all_posted_bytes modes (column_past_text modes column p) rest) (sym is_piece)
    ∙ ap (λ k. piece ++ all_posted_bytes modes k rest) (sym is_column)

-- what fits is sent
pub after_try-fits : (output : Output) (text : List ℕ)
    → has_room output text ≡ true
    → after_try output text ≡ after_send output text
after_try-fits output text fits = ap (λ b. cond b (after_send output text) output) fits

-- an echo that fits is posted, and one that does not is counted
pub column_after_try-fits : (modes : Settings) (output : Output) (column : ℕ) (text : List ℕ)
    → has_room output text ≡ true
    → column_after_try modes output column text ≡ column_past_text modes column text
column_after_try-fits modes output column text =
    cond-true (has_room output text) (column_past_text modes column text) column

pub column_after_try-full : (modes : Settings) (output : Output) (column : ℕ) (text : List ℕ)
    → has_room output text ≡ false
    → column_after_try modes output column text ≡ column
column_after_try-full modes output column text =
    cond-false (has_room output text) (column_past_text modes column text) column

pub after_try-full : (output : Output) (text : List ℕ) → has_room output text ≡ false → after_try output text ≡ output
after_try-full output text = cond-false (has_room output text) (after_send output text) output

abbrev pub with_echo_counted : Tally → ℕ → Tally
with_echo_counted tally count = record tally { counts = with_count tally.counts Echo count }

pub tally_after_try-fits : (output : Output) (text : List ℕ) (tally : Tally)
    → has_room output text ≡ true
    → tally_after_try output text tally ≡ tally
tally_after_try-fits output text tally = cond-true (has_room output text) tally (with_echo_counted tally (length text))

pub tally_after_try-full : (output : Output) (text : List ℕ) (tally : Tally) → has_room output text ≡ false
    → tally_after_try output text tally ≡ with_echo_counted tally (length text)
tally_after_try-full output text tally = cond-false (has_room output text) tally (with_echo_counted tally (length text))
