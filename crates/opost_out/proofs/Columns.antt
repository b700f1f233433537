-- The column of a text that goes on.
use Rattle.std.proofs.Common.{◌≡◌, ℕ, ◌≤◌, ◌+◌, ◌-◌, ◌*◌, ◌/◌, Bool, true, false, cond, not, ◌==◌, ◌||◌, ◌&&◌}
use Rattle.std.proofs.Common.{nat_le, nat_lt, List, [], ◌∷◌, ◌++◌, refl, ap, sym, ◌∙◌, arith, ne_eqb, le-ltb}
use Rattle.tty_modes.specs.Settings.{Settings, has_flag}
use Rattle.tty_modes.specs.Utf8.{is_continuation}
use Rattle.tty_modes.specs.declared.places.TheConstants.{OPOST}
use Rattle.opost_out.specs.Column.{PostedByte, column_after_byte, column_after}
use Rattle.opost_out.specs.Posted.{posted_bytes, newline_bytes, return_bytes, tab_bytes}

pub column_after-append : (column : ℕ) (front rest : List PostedByte)
    → column_after column (front ++ rest) ≡ column_after (column_after column front) rest
column_after-append column [] rest = refl
column_after-append column (sent ∷ front) rest = column_after-append (column_after_byte column sent) front rest

-- ---- plain bytes, from blank to tilde

either_way : {X : Type 0} (b : Bool) (x : X) → cond b x x ≡ x
either_way true x = refl
either_way false x = refl

never_both : (b : Bool) → (b && false) ≡ false
never_both true = refl
never_both false = refl

-- they are posted as themselves
pub plain_posted : (modes : Settings) (column b : ℕ) → 32 ≤ b → b ≤ 126 → b ∷ [] ≡ posted_bytes modes column b
plain_posted modes column b low high =
    let raw : Bool = not (has_flag modes OPOST) in
    let ten : (b == 10) ≡ false = ne_eqb b 10 (λ e. omega arith) in
    let thirteen : (b == 13) ≡ false = ne_eqb b 13 (λ e. omega arith) in
    let nine : (b == 9) ≡ false = ne_eqb b 9 (λ e. omega arith) in
    sym (ap (λ t. cond raw (b ∷ [])
    (cond t (newline_bytes modes)
    (cond (b == 13) (return_bytes modes column) (cond (b == 9) (tab_bytes modes column) (b ∷ []))))) ten
    ∙ ap (λ t. cond raw (b ∷ []) (cond t (return_bytes modes column) (cond (b == 9) (tab_bytes modes column) (b ∷ []))))
    thirteen
    ∙ ap (λ t. cond raw (b ∷ []) (cond t (tab_bytes modes column) (b ∷ []))) nine
    ∙ either_way raw (b ∷ []))

-- .. and take one column
pub plain_column : (column b : ℕ) (utf8 : Bool)
    → 32 ≤ b
    → b ≤ 126
    → column + 1 ≡ column_after_byte column (record { byte = b; utf8 = utf8 })
plain_column column b utf8 low high =
    let continues : is_continuation b ≡ false = ap (λ t. t && nat_le b 191) (le-ltb 127 b (omega arith)) in
    let thirteen : (b == 13) ≡ false = ne_eqb b 13 (λ e. omega arith) in
    let nine : (b == 9) ≡ false = ne_eqb b 9 (λ e. omega arith) in
    let eight : (b == 8) ≡ false = ne_eqb b 8 (λ e. omega arith) in
    let control : (nat_lt b 32 || b == 127) ≡ false =
    ap (λ t. t || b == 127) (le-ltb b 32 low) ∙ ne_eqb b 127 (λ e. omega arith) in
    sym (ap (λ t. cond (utf8 && t) column
    (cond (b == 13) 0
    (cond (b == 9) (8 * (column / 8 + 1))
    (cond (b == 8) (column - 1) (cond (nat_lt b 32 || b == 127) column (column + 1)))))) continues
    ∙ ap
    (λ t. cond t column
    (cond (b == 13) 0
    (cond (b == 9) (8 * (column / 8 + 1))
    (cond (b == 8) (column - 1) (cond (nat_lt b 32 || b == 127) column (column + 1))))))
    (never_both utf8)
    ∙ ap
    (λ t. cond t 0
    (cond (b == 9) (8 * (column / 8 + 1))
    (cond (b == 8) (column - 1) (cond (nat_lt b 32 || b == 127) column (column + 1))))) thirteen
    ∙ ap
    (λ t.
    cond t (8 * (column / 8 + 1)) (cond (b == 8) (column - 1) (cond (nat_lt b 32 || b == 127) column (column + 1))))
    nine
    ∙ ap (λ t. cond t (column - 1) (cond (nat_lt b 32 || b == 127) column (column + 1))) eight
    ∙ ap (λ t. cond t column (column + 1)) control)
