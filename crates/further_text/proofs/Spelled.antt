-- What is left of a text spells a session of ports, which keeps the limits.
use Rattle.std.proofs.Common.{ℕ, Bool, List, ◌∙◌, ap}
use Rattle.tty_calls.specs.Limits.{IsWithinLimits}
use Rattle.tty_calls.specs.Sessions.{PlainSession}
use Rattle.session_text.specs.Refusals.{lines_in}
use Rattle.session_text.specs.Reading.{first_reading, session_from}
use Rattle.session_text.specs.Grammar.{Spells}
use Rattle.session_text.proofs.Spelled.{read_spells}
use Rattle.session_text.proofs.Within.{spelled_within}
use Rattle.further_text.specs.Left.{text_left}
use Rattle.further_text.proofs.Lines.{left_lines}
use Rattle.further_text.proofs.Items.{Later}

pub left_spells : (is_own : List ℕ → Bool) (text : List ℕ) (x : PlainSession)
    → Later is_own first_reading (lines_in text) x
    → Spells (text_left is_own text) x
left_spells is_own text x later = read_spells (text_left is_own text) x
    (ap (λ (lines : List (List (List ℕ))). session_from first_reading 1 lines) (left_lines is_own text) ∙ later 1)

pub left_within : (is_own : List ℕ → Bool) (text : List ℕ) (x : PlainSession)
    → Spells (text_left is_own text) x
    → IsWithinLimits x
left_within is_own text x spells = spelled_within (text_left is_own text) x spells
