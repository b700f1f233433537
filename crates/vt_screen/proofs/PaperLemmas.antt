-- What a byte does to the paper, it does to the rows that are shown.
use Rattle.std.proofs.Common.{◌≡◌, ℕ, ◌+◌, ◌-◌, ◌≤◌, ◌<◌, min, suc, Bool, true, false, List, [], ◌∷◌}
use Rattle.std.proofs.Common.{◌++◌, length, set, get_or, drop, replicate, ap, sym, refl, ◌∙◌, arith}
use Rattle.std.proofs.Common.{length-append, append_assoc, nat_lt, ◌==◌, if◌then◌else◌, inl, inr}
use Rattle.std.proofs.Math.Seq.{set-append_seam, get_or-append_seam}
use Rattle.std.proofs.lemmas.List.{drop-append-le, drop-drop, length-drop}
use Rattle.std.proofs.lemmas.List.Sums.{fold-append}
use Rattle.std.proofs.lemmas.Bool.{cases_lt, lt-ltb, le-ltb}
use Rattle.vt_screen.specs.Paper.{Paper, Shown, blank_row, blank_paper, is_shown, one_down, one_on}
use Rattle.vt_screen.specs.Paper.{after_byte, paper_of, rows_of, shown_rows, shown, screen_of}
use Rattle.vt_screen.specs.Scrolling.{scrolled, moved_on, written, after_shown_byte}

-- 25 rows, by what stands above the cursor's row and below it
abbrev around : {X : Type 0} → (blank : X) → (above : List X) → (line : X) → List X
around blank above line = drop (length above - 24) above ++ line ∷ replicate (24 - length above) blank

last_rows-parts : {X : Type 0} → (blank : X) (above : List X) (line : X)
    → drop (length (above ++ line ∷ []) - 25) (above ++ line ∷ []) ++ replicate (25 - length (above ++ line ∷ [])) blank
    ≡ around blank above line
last_rows-parts blank above line =
    let n : length (above ++ line ∷ []) ≡ length above + 1 = length-append above (line ∷ []) in
    let a : length (above ++ line ∷ []) - 25 ≡ length above - 24 = omega arith in
    let b : 25 - length (above ++ line ∷ []) ≡ 24 - length above = omega arith in
    let within : length above - 24 ≤ length above = omega arith in
    ap (λ k. drop k (above ++ line ∷ []) ++ replicate (25 - length (above ++ line ∷ [])) blank) a
    ∙ ap (λ k. drop (length above - 24) (above ++ line ∷ []) ++ replicate k blank) b
    ∙ ap (λ l. l ++ replicate (24 - length above) blank) (drop-append-le (length above - 24) above (line ∷ []) within)
    ∙ append_assoc (drop (length above - 24) above) (line ∷ []) (replicate (24 - length above) blank)

-- a cell of the cursor's row is written
write-parts : (front behind : List (List ℕ)) (line : List ℕ) (row column b : ℕ)
    → length front ≡ row
    → set (front ++ line ∷ behind) row (set (get_or (front ++ line ∷ behind) row []) column b)
    ≡ front ++ set line column b ∷ behind
write-parts front behind line row column b e =
    ap (λ r. set (front ++ line ∷ behind) r (set (get_or (front ++ line ∷ behind) r []) column b)) (sym e)
    ∙ ap (λ l. set (front ++ line ∷ behind) (length front) (set l column b)) (get_or-append_seam front line behind [])
    ∙ set-append_seam front line behind (set line column b)

-- one row down where there is a row below
down-parts : {X : Type 0} → (blank : X) (above : List X) (line : X) → length above < 24 →
    around blank above line ≡ around blank (above ++ line ∷ []) blank
down-parts blank above line lt =
    let n : length (above ++ line ∷ []) ≡ length above + 1 = length-append above (line ∷ []) in
    let z : length above - 24 ≡ 0 = omega arith in
    let z' : 0 ≡ length (above ++ line ∷ []) - 24 = omega arith in
    let r : 24 - length above ≡ suc (24 - length (above ++ line ∷ [])) = omega arith in
    let below = replicate (24 - length (above ++ line ∷ [])) blank in
    ap (λ k. drop k above ++ line ∷ replicate (24 - length above) blank) z
    ∙ ap (λ k. above ++ line ∷ replicate k blank) r
    ∙ sym (append_assoc above (line ∷ []) (blank ∷ below))
    ∙ ap (λ k. drop k (above ++ line ∷ []) ++ blank ∷ below) z'

-- one row down from the lowest
scroll-parts : {X : Type 0} → (blank : X) (above : List X) (line : X) → 24 ≤ length above →
    drop 1 (around blank above line) ++ blank ∷ [] ≡ around blank (above ++ line ∷ []) blank
scroll-parts blank above line le =
    let n : length (above ++ line ∷ []) ≡ length above + 1 = length-append above (line ∷ []) in
    let r : 24 - length above ≡ 0 = omega arith in
    let r' : 0 ≡ 24 - length (above ++ line ∷ []) = omega arith in
    let k : (length above - 24) + 1 ≡ length (above ++ line ∷ []) - 24 = omega arith in
    let front = drop (length above - 24) above in
    let some : 1 ≤ length front = omega (arith, length-drop (length above - 24) above) in
    let within : (length above - 24) + 1 ≤ length above = omega arith in
    ap (λ m. drop 1 (front ++ line ∷ replicate m blank) ++ blank ∷ []) r
    ∙ ap (λ l. l ++ blank ∷ []) (drop-append-le 1 front (line ∷ []) some)
    ∙ ap (λ l. (l ++ line ∷ []) ++ blank ∷ []) (drop-drop 1 (length above - 24) above)
    ∙ ap (λ l. l ++ blank ∷ []) (sym (drop-append-le ((length above - 24) + 1) above (line ∷ []) within))
    ∙ ap (λ m. drop m (above ++ line ∷ []) ++ blank ∷ []) k
    ∙ ap (λ m. drop (length (above ++ line ∷ []) - 24) (above ++ line ∷ []) ++ blank ∷ replicate m blank) r'

shown_rows-parts : (above : List (List ℕ)) (line : List ℕ)
    → shown_rows (above ++ line ∷ []) ≡ around blank_row above line
shown_rows-parts above line = last_rows-parts blank_row above line

written-shown : (p : Paper) (b : ℕ) → written (shown p) b ≡ shown (record p { line = set p.line p.column b })
written-shown p b =
    let front = drop (length p.above - 24) p.above in
    let row : length front ≡ min (length p.above) 24 = omega (arith, length-drop (length p.above - 24) p.above) in
    let behind = replicate (24 - length p.above) blank_row in
    let rows : set (shown_rows (rows_of p)) (min (length p.above) 24)
    (set (get_or (shown_rows (rows_of p)) (min (length p.above) 24) []) p.column b)
    ≡ shown_rows (p.above ++ set p.line p.column b ∷ [])
    = ap (λ rows. set rows (min (length p.above) 24) (set (get_or rows (min (length p.above) 24) []) p.column b))
    (shown_rows-parts p.above p.line)
    ∙ write-parts front behind p.line (min (length p.above) 24) p.column b row
    ∙ sym (shown_rows-parts p.above (set p.line p.column b)) in
    λ i. record (shown p) { rows = rows i }

scrolled_rows : (above : List (List ℕ)) (line : List ℕ)
    → (if nat_lt (min (length above) 24) 24
    then shown_rows (above ++ line ∷ [])
    else drop 1 (shown_rows (above ++ line ∷ [])) ++ blank_row ∷ [])
    ≡ shown_rows ((above ++ line ∷ []) ++ blank_row ∷ [])
scrolled_rows above line =
    let was = shown_rows-parts above line in
    let is = sym (shown_rows-parts (above ++ line ∷ []) blank_row) in
    let rows = shown_rows (above ++ line ∷ []) in
    elim (cases_lt (length above) 24) [
      | inl lt ↦
          let small : min (length above) 24 < 24 = omega arith in
          ap (λ t. if t then rows else drop 1 rows ++ blank_row ∷ []) (lt-ltb _ _ small)
          ∙ was
          ∙ down-parts blank_row above line lt
          ∙ is
      | inr le ↦
          let large : 24 ≤ min (length above) 24 = omega arith in
          ap (λ t. if t then rows else drop 1 rows ++ blank_row ∷ []) (le-ltb _ _ large)
          ∙ ap (λ l. drop 1 l ++ blank_row ∷ []) was ∙ scroll-parts blank_row above line le ∙ is
    ]

scrolled_row : (above : List (List ℕ)) (line : List ℕ)
    → (if nat_lt (min (length above) 24) 24 then min (length above) 24 + 1 else min (length above) 24)
    ≡ min (length (above ++ line ∷ [])) 24
scrolled_row above line =
    let n : length (above ++ line ∷ []) ≡ length above + 1 = length-append above (line ∷ []) in
    let row = min (length above) 24 in
    elim (cases_lt (length above) 24) [
      | inl lt ↦
          let small : min (length above) 24 < 24 = omega arith in
          let e : min (length above) 24 + 1 ≡ min (length (above ++ line ∷ [])) 24 = omega arith in
          ap (λ t. if t then row + 1 else row) (lt-ltb _ _ small) ∙ e
      | inr le ↦
          let large : 24 ≤ min (length above) 24 = omega arith in
          let e : min (length above) 24 ≡ min (length (above ++ line ∷ [])) 24 = omega arith in
          ap (λ t. if t then row + 1 else row) (le-ltb _ _ large) ∙ e
    ]

scrolled-shown : (p : Paper) → scrolled (shown p) ≡ shown (one_down p p.column)
scrolled-shown p = λ i.
    record { rows = scrolled_rows p.above p.line i; row = scrolled_row p.above p.line i; column = p.column }

-- by one test
by_if : (t : Bool) (s s' : Shown) (p p' : Paper)
    → s ≡ shown p
    → s' ≡ shown p'
    → (if t then s else s') ≡ shown (if t then p else p')
by_if true s s' p p' e e' = e
by_if false s s' p p' e e' = e'

moved_on-shown : (p : Paper) → moved_on (shown p) ≡ shown (one_on p)
moved_on-shown p =
    by_if (p.column == 79) _ _ _ _
    (let to_start : Shown → Shown = λ s. record s { column = 0 } in ap to_start (scrolled-shown p)) refl

after_shown_byte-shown : (p : Paper) (b : ℕ) → after_shown_byte (shown p) b ≡ shown (after_byte p b)
after_shown_byte-shown p b =
    by_if (is_shown b) _ _ _ _
    (ap moved_on (written-shown p b) ∙ moved_on-shown (record p { line = set p.line p.column b }))
    (by_if (b == 13) _ _ _ _ refl
    (by_if (b == 10) _ _ _ _ (scrolled-shown p)
    (by_if (b == 8) _ _ _ _ refl
    (by_if (b == 9) _ _ _ _ refl refl))))

-- a screen of a text after one byte more
pub fed : (text : List ℕ) (b : ℕ) (old new : Shown)
    → old ≡ screen_of text
    → new ≡ after_shown_byte old b
    → new ≡ screen_of (text ++ b ∷ [])
fed text b old new was now =
    now ∙ ap (λ s. after_shown_byte s b) was ∙ after_shown_byte-shown (paper_of text) b
    ∙ ap shown (sym (fold-append after_byte blank_paper text (b ∷ [])))
