-- How tables and numbers are made: for private functions alone.
use Rattle.std.specs.Prelude.{ℕ, ◌+◌, ◌*◌, ◌-◌, ◌^◌, ◌&&◌, nat_lt, if◌then◌else◌, List, [], ◌++◌}
use Rattle.std.specs.Prelude.{Option, None, Some, ◌==◌, map, filter, fold, slice_set, slice_index_or}
use Rattle.tty_calls.specs.declared.sessions.Script.{Script}
use Rattle.tty_calls.specs.Sessions.{PlainScript, script_of, number_in}
use Rattle.text_lines.specs.Values.{is_digit}
use Rattle.check_text.specs.declared.kinds.AnswerKind.{AnswerKind}
use Rattle.check_text.specs.Callers.{answer_kind}

-- the rows after the calls of a caller, where it has a number
abbrev pub rows_with : List (List AnswerKind) → PlainScript → Option ℕ → List (List AnswerKind)
rows_with rows script None = rows
rows_with rows script (Some caller) =
    slice_set rows caller (slice_index_or rows caller [] ++ map answer_kind script.calls)

abbrev pub rows_then : List (List ℕ) → List (List AnswerKind) → PlainScript → List (List AnswerKind)
rows_then names rows script = rows_with rows script (number_in names script.name)

abbrev pub rows_after : List (List ℕ) → List (List AnswerKind) → List PlainScript → List (List AnswerKind)
rows_after names rows scripts = fold (rows_then names) rows scripts

-- those of these scripts that are on a port
abbrev pub scripts_for : ℕ → List Script → List PlainScript
scripts_for port scripts = filter (λ s. s.port == port) (map script_of scripts)

-- a number of 64 bits with a further digit
abbrev pub count_with : ℕ → ℕ → Option ℕ
count_with value digit =
    if is_digit digit && nat_lt (value * 10 + (digit - 48)) (2 ^ 64) then Some (value * 10 + (digit - 48)) else None
