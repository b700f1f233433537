-- Runs of bytes from blank to tilde, which are posted as themselves and take one column each.
use Rattle.std.proofs.Common.{◌≡◌, ℕ, zero, suc, ◌+◌, ◌≤◌, ◌<◌, true, cond, List, [], ◌∷◌}
use Rattle.std.proofs.Common.{◌++◌, length, take, drop, get_or, ap, sym, ◌∙◌, refl, arith}
use Rattle.std.proofs.lemmas.Bool.{cond-true}
use Rattle.tty_modes.specs.Settings.{Settings, has_flag}
use Rattle.tty_modes.specs.declared.places.TheConstants.{IUTF8}
use Rattle.opost_out.proofs.Columns.{plain_posted, plain_column}
use Rattle.flow_control.specs.Output.{Output, has_room, after_send}
use Rattle.n_tty.specs.Posting.{column_past_text, all_posted_bytes}
use Rattle.n_tty.specs.Writing.{fitting_count}
use Rattle.n_tty.proofs.PostingLemmas.{after_send-nil, after_send-append, has_room-front, has_room-rest}

-- the first n bytes are from blank to tilde
abbrev pub IsRun : List ℕ → ℕ → Type 0
IsRun bytes n = (k : ℕ) → k < n → (32 ≤ get_or bytes k 0) × (get_or bytes k 0 ≤ 126)

pub run_text : (modes : Settings) (column : ℕ) (bytes : List ℕ) (n : ℕ)
    → n ≤ length bytes
    → IsRun bytes n
    → all_posted_bytes modes column (take n bytes) ≡ take n bytes
run_text modes column [] zero le run = refl
run_text modes column [] (suc n) le run = absurd (omega arith)
run_text modes column (b ∷ bytes) zero le run = refl
run_text modes column (b ∷ bytes) (suc n) le run =
    let one = run 0 (omega arith) in
    ap (λ text. text ++ all_posted_bytes modes (column_past_text modes column text) (take n bytes))
    (sym (plain_posted modes column b one.0 one.1))
    ∙ ap (λ text. b ∷ text)
    (run_text modes (column_past_text modes column (b ∷ [])) bytes n (omega arith) (λ k h. run (suc k) (omega arith)))

pub run_column : (modes : Settings) (column : ℕ) (bytes : List ℕ) (n : ℕ)
    → n ≤ length bytes
    → IsRun bytes n
    → column_past_text modes column (take n bytes) ≡ column + n
run_column modes column [] zero le run = omega arith
run_column modes column [] (suc n) le run = absurd (omega arith)
run_column modes column (b ∷ bytes) zero le run = omega arith
run_column modes column (b ∷ bytes) (suc n) le run =
    let one = run 0 (omega arith) in
    let sum : column + 1 + n ≡ column + suc n = omega arith in
    ap (λ k. column_past_text modes k (take n bytes)) (sym (plain_column column b (has_flag modes IUTF8) one.0 one.1))
    ∙ run_column modes (column + 1) bytes n (omega arith) (λ k h. run (suc k) (omega arith))
    ∙ sum

none_fits : (modes : Settings) (column : ℕ) (output : Output) (bytes : List ℕ)
    → fitting_count modes column output bytes ≡ 0 + fitting_count modes (column + 0) (after_send output []) bytes
none_fits modes column output bytes =
    let same : column ≡ column + 0 = omega arith in
    let count : ℕ = fitting_count modes (column + 0) (after_send output []) bytes in
    let sum : count ≡ 0 + count = omega arith in
    (λ i. fitting_count modes (same i) (sym (after_send-nil output) i) bytes) ∙ sum

pub run_fits : (modes : Settings) (column : ℕ) (output : Output) (bytes : List ℕ) (n : ℕ)
    → n ≤ length bytes
    → IsRun bytes n
    → has_room output (take n bytes) ≡ true
    → fitting_count modes column output bytes
    ≡ n + fitting_count modes (column + n) (after_send output (take n bytes)) (drop n bytes)
run_fits modes column output [] zero le run fits = none_fits modes column output []
run_fits modes column output [] (suc n) le run fits = absurd (omega arith)
run_fits modes column output (b ∷ bytes) zero le run fits = none_fits modes column output (b ∷ bytes)
run_fits modes column output (b ∷ bytes) (suc n) le run fits =
    let one = run 0 (omega arith) in
    let sent : Output = after_send output (b ∷ []) in
    let front : has_room output (b ∷ []) ≡ true = has_room-front output (b ∷ []) (take n bytes) fits in
    let rest : ℕ = fitting_count modes (column + 1 + n) (after_send sent (take n bytes)) (drop n bytes) in
    let sum : suc (n + rest) ≡ suc n + rest = omega arith in
    let past : column + 1 + n ≡ column + suc n = omega arith in
    ap (λ text. cond (has_room output text)
    (suc (fitting_count modes (column_past_text modes column text) (after_send output text) bytes)) 0)
    (sym (plain_posted modes column b one.0 one.1))
    ∙ cond-true (has_room output (b ∷ []))
    (suc (fitting_count modes (column_past_text modes column (b ∷ [])) sent bytes)) 0 front
    ∙ ap (λ k. suc (fitting_count modes k sent bytes)) (sym (plain_column column b (has_flag modes IUTF8) one.0 one.1))
    ∙ ap suc
    (run_fits modes (column + 1) sent bytes n (omega arith) (λ k h. run (suc k) (omega arith))
    (has_room-rest output (b ∷ []) (take n bytes) fits))
    ∙ sum
    ∙ (λ i.
    suc n + fitting_count modes (past i) (sym (after_send-append output (b ∷ []) (take n bytes)) i) (drop n bytes))
