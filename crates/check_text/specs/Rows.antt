-- Worked texts that are refused.
use Rattle.std.specs.Prelude.{ℕ, List, [], ◌∷◌, ◌++◌, codes}
use Rattle.session_text.specs.declared.faults.Reason.{Reason}
use Rattle.session_text.specs.declared.faults.Reason.TheVariants.{Word, Number, Hex, Order, Limit}
use Rattle.session_text.specs.Rows.{RefusedRow}

-- one caller, which opens and reads
abbrev pub row_session : List ℕ
row_session = codes "tty-session 1\nports 1\nphase\ncaller a 0\nopen 0 rw\nread 0 5\nend\n"

abbrev pub refused_behind : ℕ → Reason → List ℕ → RefusedRow
refused_behind line reason rest = record { text = row_session ++ rest; line = record { line = line; reason = reason } }

abbrev pub entry_refused : Reason → List ℕ → RefusedRow
entry_refused reason entry = refused_behind 10 reason (codes "journals\njournal 0 1\n" ++ entry)

abbrev pub refused_rows : List RefusedRow
refused_rows =
    -- a fixed word is due
    refused_behind 8 Order (codes "") ∷
    refused_behind 9 Order (codes "# nothing") ∷
    refused_behind 8 Order (codes "journal 0 0\n") ∷
    refused_behind 8 Order (codes "end\n") ∷
    refused_behind 8 Word (codes "journals 0\n") ∷
    refused_behind 9 Order (codes "journals\n") ∷
    refused_behind 9 Order (codes "journals\njournals\n") ∷
    refused_behind 10 Order (codes "journals\njournal 0 0\nline 0 0 0 0\n") ∷
    refused_behind 11 Order (codes "journals\njournal 0 0\noverruns 0 0\ndone\n") ∷
    refused_behind 12 Order (codes "journals\njournal 0 0\noverruns 0 0\nline 0 0 0 0\njournal 1 0\n") ∷
    refused_behind 12 Order (codes "journals\njournal 0 0\noverruns 0 0\nline 0 0 0 0\n") ∷
    refused_behind 12 Word (codes "journals\njournal 0 0\noverruns 0 0\nline 0 0 0 0\ndone 0\n") ∷
    refused_behind 14 Order (codes "journals\njournal 0 0\noverruns 0 0\nline 0 0 0 0\ndone\n\ndone\n") ∷
    -- the words of a heading, from the left
    refused_behind 9 Number (codes "journals\njournal x\n") ∷
    refused_behind 9 Limit (codes "journals\njournal 1 x\n") ∷
    refused_behind 9 Word (codes "journals\njournal 0\n") ∷
    refused_behind 9 Number (codes "journals\njournal 0 01\n") ∷
    refused_behind 9 Limit (codes "journals\njournal 0 4294967296\n") ∷
    refused_behind 9 Word (codes "journals\njournal 0 0 0\n") ∷
    refused_behind 10 Order (codes "journals\njournal 0 4294967295\n") ∷
    -- overruns, and the numbers of the line
    refused_behind 11 Word (codes "journals\njournal 0 0\noverruns 0 1\n1 2\n") ∷
    refused_behind 11 Number (codes "journals\njournal 0 0\noverruns 0 1\n1 x 3\n") ∷
    refused_behind 11 Limit (codes "journals\njournal 0 0\noverruns 0 1\n1 2 4294967296\n") ∷
    refused_behind 11 Word (codes "journals\njournal 0 0\noverruns 0 1\n1 2 3 4\n") ∷
    refused_behind 11 Word (codes "journals\njournal 0 0\noverruns 0 0\nline 0 1 2\n") ∷
    refused_behind 11 Limit (codes "journals\njournal 0 0\noverruns 0 0\nline 1 1 2 3\n") ∷
    -- WHO and the numbers of an entry
    entry_refused Word (codes "b 0 0 0 wait\n") ∷
    entry_refused Word (codes "A 0 0 0 wait\n") ∷
    entry_refused Word (codes "*Flush 0 0 0 wait\n") ∷
    entry_refused Word (codes "overruns 0 0\n") ∷
    entry_refused Number (codes "a x 0 0 wait\n") ∷
    entry_refused Limit (codes "a 0 4294967296 0 wait\n") ∷
    entry_refused Word (codes "a 0 0\n") ∷
    entry_refused Word (codes "a 0 0 0\n") ∷
    -- the event, and whose it may be
    entry_refused Word (codes "a 0 0 0 sleep\n") ∷
    entry_refused Word (codes "*line 0 0 0 wait\n") ∷
    entry_refused Word (codes "*flush 2 0 0 part 1\n") ∷
    entry_refused Order (codes "a 2 0 0 wait\n") ∷
    entry_refused Order (codes "a 2 0 0 part x\n") ∷
    entry_refused Order (codes "a 2 0 0 answer\n") ∷
    entry_refused Word (codes "a 0 0 0 wait 0\n") ∷
    entry_refused Number (codes "a 0 0 0 part x\n") ∷
    entry_refused Word (codes "a 0 0 0 part\n") ∷
    entry_refused Limit (codes "*line 0 0 0 line_end 4294967296\n") ∷
    -- answers
    entry_refused Word (codes "a 0 0 0 answer\n") ∷
    entry_refused Word (codes "a 0 0 0 answer OK\n") ∷
    entry_refused Word (codes "a 0 0 0 answer 0\n") ∷
    entry_refused Word (codes "a 0 0 0 answer ok x\n") ∷
    entry_refused Word (codes "a 0 0 0 answer drop n41\n") ∷
    entry_refused Word (codes "a 0 0 0 answer ok drop\n") ∷
    entry_refused Word (codes "a 0 0 0 answer ok drop - -\n") ∷
    entry_refused Hex (codes "a 0 0 0 answer idle drop n4\n") ∷
    entry_refused Hex (codes "a 0 0 0 answer EIO drop zz x\n") ∷
    -- characters
    entry_refused Hex (codes "*flush 0 0 0 flush x41\n") ∷
    entry_refused Hex (codes "*flush 0 0 0 flush n41n4g\n") ∷
    entry_refused Hex (codes "*flush 0 0 0 flush n41-\n") ∷
    entry_refused Word (codes "*flush 0 0 0 flush\n") ∷
    entry_refused Word (codes "*session 1 0 1 hangup - -\n") ∷ []
