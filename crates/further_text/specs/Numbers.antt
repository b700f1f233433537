-- Arguments that are numbers.
use Rattle.std.specs.Prelude.{ℕ, List, ◌&&◌, nat_le, nat_lt, Ok, Err, if◌then◌else◌}
use Rattle.tty_base.specs.Sizes.{LAST_HANDLE}
use Rattle.text_lines.specs.Values.{is_number, number_of}
use Rattle.session_text.specs.declared.faults.Reason.TheVariants.{Number, Limit}
use Rattle.further_text.specs.Faults.{Read}

-- a number that is not below the least and not above the most that may stand there
abbrev pub ranged : (least most : ℕ) → List ℕ → Read ℕ
ranged least most word =
    if is_number word
    then (if nat_le least (number_of word) && nat_le (number_of word) most then Ok (number_of word) else Err Limit)
    else Err Number

abbrev pub bounded : (most : ℕ) → List ℕ → Read ℕ
bounded most word = ranged 0 most word

-- a port, which is below the number of ports
abbrev pub port_in : (ports : ℕ) → List ℕ → Read ℕ
port_in ports word =
    if is_number word then (if nat_lt (number_of word) ports then Ok (number_of word) else Err Limit) else Err Number

abbrev pub handle_in : List ℕ → Read ℕ
handle_in word = bounded LAST_HANDLE word
