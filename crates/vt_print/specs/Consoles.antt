-- What a report says of consoles.
use Rattle.std.specs.Prelude.{ℕ, ◌+◌, ◌==◌, Bool, false, List, [], ◌∷◌, ◌++◌, codes, decimal, count_by, if◌then◌else◌}
use Rattle.hex.specs.Hex.{encode_lower}
use Rattle.vt_screen.specs.Paper.{screen_of}
use Rattle.vt_consoles.specs.declared.entries.VtEntry.{VtEntry}
use Rattle.vt_consoles.specs.declared.entries.VtEvent.{VtEvent}
use Rattle.vt_consoles.specs.declared.entries.VtEvent.TheVariants.{Activate, State, Key}
use Rattle.vt_consoles.specs.Runs.{active_of}
use Rattle.vt_print.specs.declared.consoles.Tally.{Tally}

-- the end of a line
abbrev pub newline : List ℕ
newline = 10 ∷ []

-- how many keys went to a console
abbrev pub is_key_to : ℕ → VtEvent → Bool
is_key_to p (Activate n) = false
is_key_to p (State n) = false
is_key_to p (Key index n) = n == p

abbrev pub keys_to : ℕ → List VtEntry → ℕ
keys_to p entries = count_by (λ (e : VtEntry). is_key_to p e.event) entries

abbrev pub tally_line : ℕ → ℕ → Tally → List ℕ
tally_line p keys t =
    codes "console "
    ++ (decimal p
    ++ (codes " keys="
    ++ (decimal keys ++ (codes " overrun=" ++ (decimal t.overrun ++ (codes " taken=" ++ (decimal t.taken
    ++ (codes " dropped=" ++ (decimal t.dropped ++ (codes " generation=" ++ (decimal t.generation ++ newline)))))))))))

-- a row without the blanks at its end
abbrev pub in_front_of : ℕ → List ℕ → List ℕ
in_front_of b [] = if b == 32 then [] else b ∷ []
in_front_of b (c ∷ row) = b ∷ c ∷ row

abbrev pub trimmed : List ℕ → List ℕ
trimmed [] = []
trimmed (b ∷ row) = in_front_of b (trimmed row)

-- the line of a row that has more than blanks
abbrev pub row_line : ℕ → ℕ → List ℕ → List ℕ
row_line p r [] = []
row_line p r (b ∷ row) =
    codes "console "
    ++ (decimal p ++ (codes " row " ++ (decimal r ++ (codes " " ++ (encode_lower (b ∷ row) ++ newline)))))

-- the lines of rows, from this one on
abbrev pub row_lines : ℕ → ℕ → List (List ℕ) → List ℕ
row_lines p r [] = []
row_lines p r (row ∷ rows) = row_line p r (trimmed row) ++ row_lines p (r + 1) rows

-- what a report says of a console, by the entries of the board and the console's wire
abbrev pub console_text : ℕ → List VtEntry → Tally → List ℕ → List ℕ
console_text p entries t wire = tally_line p (keys_to p entries) t ++ row_lines p 0 (screen_of wire).rows

abbrev pub active_line : List VtEntry → List ℕ
active_line entries = codes "active " ++ (decimal (active_of entries) ++ newline)
