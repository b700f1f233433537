-- Bytes that are posted one after the other, up to the first that does not fit.
use Rattle.std.proofs.Common.{◌≡◌, ℕ, suc, ◌+◌, ◌≤◌, ◌<◌, true, false, not, ◌||◌, nat_le, nat_lt, cond, List, [], ◌∷◌}
use Rattle.std.proofs.Common.{◌++◌, length, take, drop, get_or, ap, sym, ◌∙◌, refl, arith, append-nil, append_assoc}
use Rattle.std.proofs.Common.{length-take}
use Rattle.std.proofs.lemmas.Bool.{cond_both, cond-true, lt-ltb}
use Rattle.std.proofs.lemmas.List.{take_more, drop_more, take-take}
use Rattle.tty_modes.specs.Settings.{Settings}
use Rattle.opost_out.specs.Posted.{posted_bytes}
use Rattle.flow_control.specs.Output.{Output, is_halted, room_of, has_room, after_send}
use Rattle.n_tty.specs.Posting.{column_past_text, all_posted_bytes}
use Rattle.n_tty.specs.States.{NTtyState}
use Rattle.n_tty.specs.Writing.{fitting_count, piece_size, piece_text}
use Rattle.n_tty.proofs.PostingLemmas.{column_past_text-append}

-- what is posted for bytes after others, at the column that those left
pub all_posted_bytes-append : (modes : Settings) (column : ℕ) (a b : List ℕ)
    → all_posted_bytes modes column (a ++ b)
    ≡ all_posted_bytes modes column a
    ++ all_posted_bytes modes (column_past_text modes column (all_posted_bytes modes column a)) b
all_posted_bytes-append modes column [] b = refl
all_posted_bytes-append modes column (x ∷ a) b =
    let piece = posted_bytes modes column x in
    let next = column_past_text modes column piece in
    let text = all_posted_bytes modes next a in
    ap (λ t. piece ++ t) (all_posted_bytes-append modes next a b)
    ∙ sym (append_assoc piece text (all_posted_bytes modes (column_past_text modes next text) b))
    ∙ ap (λ k. (piece ++ text) ++ all_posted_bytes modes k b) (sym (column_past_text-append modes column piece text))

-- the text of one byte more
pub all_posted_bytes-next : (modes : Settings) (column column' : ℕ) (bytes piece : List ℕ) (i : ℕ)
    → i < length bytes
    → column' ≡ column_past_text modes column (all_posted_bytes modes column (take i bytes))
    → piece ≡ posted_bytes modes column' (get_or bytes i 0)
    → all_posted_bytes modes column (take (i + 1) bytes) ≡ all_posted_bytes modes column (take i bytes) ++ piece
all_posted_bytes-next modes column column' bytes piece i within is_column is_piece =
    let text = all_posted_bytes modes column (take i bytes) in
    let b = get_or bytes i 0 in
    ap (all_posted_bytes modes column) (take_more bytes i 0 within)
    ∙ all_posted_bytes-append modes column (take i bytes) (b ∷ [])
    ∙ ap (λ k. text ++ (posted_bytes modes k b ++ [])) (sym is_column)
    ∙ ap (λ t. text ++ t) (append-nil (posted_bytes modes column' b) ∙ sym is_piece)

-- where the first byte fits, one more than of the rest fits
pub fitting_count-more : (modes : Settings) (column column' : ℕ) (output output' : Output) (bytes piece : List ℕ)
    (i : ℕ)
    → i < length bytes
    → piece ≡ posted_bytes modes column (get_or bytes i 0)
    → has_room output piece ≡ true
    → column' ≡ column_past_text modes column piece
    → output' ≡ after_send output piece
    → fitting_count modes column output (drop i bytes) ≡ suc (fitting_count modes column' output' (drop (i + 1) bytes))
fitting_count-more modes column column' output output' bytes piece i within is_piece fits is_column is_output =
    let rest = drop (i + 1) bytes in
    ap (fitting_count modes column output) (drop_more bytes i 0 within)
    ∙ ap
    (λ p.
    cond (has_room output p) (suc (fitting_count modes (column_past_text modes column p) (after_send output p) rest)) 0)
    (sym is_piece)
    ∙ cond-true (has_room output piece)
    (suc (fitting_count modes (column_past_text modes column piece) (after_send output piece) rest)) 0 fits
    ∙ ap (λ k. suc (fitting_count modes k (after_send output piece) rest)) (sym is_column)
    ∙ ap (λ o. suc (fitting_count modes column' o rest)) (sym is_output)

-- no more fit than there are
pub fitting_count-le : (modes : Settings) (column : ℕ) (output : Output) (bytes : List ℕ)
    → fitting_count modes column output bytes ≤ length bytes
fitting_count-le modes column output [] = omega arith
fitting_count-le modes column output (b ∷ bytes) =
    let text = posted_bytes modes column b in
    cond_both (has_room output text)
    (suc (fitting_count modes (column_past_text modes column text) (after_send output text) bytes)) 0
    (λ n. n ≤ suc (length bytes))
    (λ _. omega (arith, fitting_count-le modes (column_past_text modes column text) (after_send output text) bytes))
    (λ _. omega arith)

-- the text of the bytes that a piece of a write takes
pub piece_text-is : (modes : Settings) (tty : NTtyState) (output : Output) (bytes piece : List ℕ) (column count : ℕ)
    → column ≡ tty.column → piece ≡ take 64 bytes → count ≡ fitting_count modes column output piece
    → all_posted_bytes modes column (take count piece) ≡ piece_text modes tty output bytes
piece_text-is modes tty output bytes piece column count is_column is_piece is_count =
    let size : count ≡ piece_size modes tty output bytes =
    is_count
    ∙ ap (fitting_count modes column output) is_piece
    ∙ ap (λ k. fitting_count modes k output (take 64 bytes)) is_column in
    let within = fitting_count-le modes tty.column output (take 64 bytes) in
    let front : take count piece ≡ take (piece_size modes tty output bytes) bytes =
    ap (take count) is_piece
    ∙ take-take count 64 bytes (omega (arith, size, within, length-take 64 bytes))
    ∙ ap (λ n. take n bytes) size in
    ap (all_posted_bytes modes column) front
    ∙ ap (λ k. all_posted_bytes modes k (take (piece_size modes tty output bytes) bytes)) is_column

-- where output is not halted the first byte fits
pub flowing_fits : (modes : Settings) (column : ℕ) (output : Output) (bytes : List ℕ)
    → 0 < length bytes
    → is_halted output ≡ false
    → true ≡ nat_lt 0 (fitting_count modes column output bytes)
flowing_fits modes column output [] some flows = absurd (omega (arith, some))
flowing_fits modes column output (b ∷ bytes) some flows =
    let text : List ℕ = posted_bytes modes column b in
    let rest : ℕ = fitting_count modes (column_past_text modes column text) (after_send output text) bytes in
    sym (lt-ltb 0 (suc rest) (omega arith))
    ∙ ap (λ h. nat_lt 0 (cond (not h || nat_le (length text) (room_of output)) (suc rest) 0)) (sym flows)
