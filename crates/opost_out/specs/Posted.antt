-- Output processing of one byte (termios(3), OPOST).
use Rattle.std.specs.Prelude.{ℕ, ◌-◌, ◌%◌, not, ◌&&◌, ◌==◌, List, [], ◌∷◌, if◌then◌else◌, replicate}
use Rattle.tty_modes.specs.declared.places.TheConstants.{OPOST, ONLCR, OCRNL, ONOCR, TAB3}
use Rattle.tty_modes.specs.Settings.{Settings, has_flag}

abbrev pub newline_bytes : Settings → List ℕ
newline_bytes modes = if has_flag modes ONLCR then 13 ∷ 10 ∷ [] else 10 ∷ []

abbrev pub return_bytes : Settings → ℕ → List ℕ
return_bytes modes column =
    if has_flag modes ONOCR && column == 0 then []
    else if has_flag modes OCRNL then 10 ∷ []
    else 13 ∷ []

abbrev pub tab_bytes : Settings → ℕ → List ℕ
tab_bytes modes column = if has_flag modes TAB3 then replicate (8 - column % 8) 32 else 9 ∷ []

-- what is posted for a byte at a column
abbrev pub posted_bytes : Settings → ℕ → ℕ → List ℕ
posted_bytes modes column byte =
    if not (has_flag modes OPOST) then byte ∷ []
    else if byte == 10 then newline_bytes modes
    else if byte == 13 then return_bytes modes column
    else if byte == 9 then tab_bytes modes column
    else byte ∷ []
