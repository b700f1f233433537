-- A circle of rows after one row more.
use Rattle.std.proofs.Common.{◌≡◌, ℕ, ◌+◌, ◌≤◌, false, nat_lt, if◌then◌else◌, List, []}
use Rattle.std.proofs.Common.{◌∷◌, ◌++◌, length, set, take, drop, ap, sym, ◌∙◌, arith}
use Rattle.std.proofs.Math.Seq.{set-append_seam}
use Rattle.std.proofs.lemmas.Bool.{le-ltb}
use Rattle.vt_screen.specs.Paper.{Shown, blank_row}
use Rattle.vt_screen.specs.Scrolling.{scrolled}

-- the rows go one up, and the last is another one
pub set-rotated : {X : Type 0} → (rows : List X) (y : X)
    → length rows ≡ 25
    → set (drop 1 rows ++ take 1 rows) 24 y ≡ drop 1 rows ++ y ∷ []
set-rotated [] y e = absurd (omega arith)
set-rotated (x ∷ rows) y e =
    let n : 24 ≡ length rows = omega arith in
    ap (λ k. set (rows ++ x ∷ []) k y) n ∙ set-append_seam rows x [] y

-- the lowest row was the cursor's
pub at_lowest : (rows rotated : List (List ℕ)) (row column : ℕ) (s : Shown)
    → record { rows = rows; row = row; column = column } ≡ s
    → length rows ≡ 25
    → 24 ≤ row
    → rotated ≡ drop 1 rows ++ take 1 rows
    → record { rows = set rotated 24 blank_row; row = row; column = column } ≡ scrolled s
at_lowest rows rotated row column s is long low turned =
    let t : nat_lt row 24 ≡ false = le-ltb row 24 low in
    let e : set rotated 24 blank_row ≡ drop 1 rows ++ blank_row ∷ [] =
    ap (λ l. set l 24 blank_row) turned ∙ set-rotated rows blank_row long in
    let f : drop 1 rows ++ blank_row ∷ [] ≡ (if nat_lt row 24 then rows else drop 1 rows ++ blank_row ∷ []) =
    ap (λ b. if b then rows else drop 1 rows ++ blank_row ∷ []) (sym t) in
    let g : row ≡ (if nat_lt row 24 then row + 1 else row) = ap (λ b. if b then row + 1 else row) (sym t) in
    let at : record { rows = set rotated 24 blank_row; row = row; column = column }
    ≡ scrolled (record { rows = rows; row = row; column = column }) =
    λ i. record { rows = (e ∙ f) i; row = g i; column = column } in
    at ∙ ap scrolled is
