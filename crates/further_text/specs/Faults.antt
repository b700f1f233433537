-- What is read, or why it is wrong.
use Rattle.std.specs.Prelude.{◌≡◌, ℕ, Bool, Result, Ok, Err, if◌then◌else◌}
use Rattle.session_text.specs.declared.faults.Reason.{Reason}
use Rattle.session_text.specs.declared.faults.BadLine.{BadLine}

abbrev pub Read : Type 0 → Type 0
Read X = Result X Reason

-- the first argument that is wrong gives the reason
infixl 10 ◌>>=◌
abbrev pub ◌>>=◌ : {X Y E : Type 0} → Result X E → (X → Result Y E) → Result Y E
Ok x >>= later = later x
Err fault >>= later = Err fault

abbrev pub bad : {X : Type 0} → (line : ℕ) → Reason → Result X BadLine
bad line reason = Err (record { line = line; reason = reason })

-- the line is wrong for this reason, unless this holds
abbrev pub wrong_unless : {X : Type 0} → (line : ℕ) → Reason → Bool → Result X BadLine → Result X BadLine
wrong_unless line reason fits later = if fits then later else bad line reason

-- .. where this holds
abbrev pub wrong_if : {X : Type 0} → (line : ℕ) → Reason → Bool → Result X BadLine → Result X BadLine
wrong_if line reason wrong later = if wrong then bad line reason else later

-- what the line with this number gives, or its fault
abbrev pub on_line : {X : Type 0} → (line : ℕ) → Read X → Result X BadLine
on_line line (Ok x) = Ok x
on_line line (Err reason) = bad line reason

-- a result is what is read, seen by view
abbrev pub Reads : {X Y : Type 0} → (X → Y) → Result X Reason → Read Y → Type 0
Reads view (Ok x) read = read ≡ Ok (view x)
Reads view (Err reason) read = read ≡ Err reason
