-- The calls of job control: how many arguments each has, and then each argument from the left.
use Rattle.std.specs.Prelude.{ℕ, ◌==◌, List, length, Ok, Err, if◌then◌else◌}
use Rattle.tty_base.specs.Sizes.{LAST_GROUP}
use Rattle.text_lines.specs.Values.{word_at}
use Rattle.session_text.specs.declared.faults.Reason.TheVariants.{Word}
use Rattle.further_text.specs.Faults.{Read, ◌>>=◌}
use Rattle.further_text.specs.Numbers.{ranged, handle_in}
use Rattle.job_text.specs.declared.verbs.JobVerb.{JobVerb}
use Rattle.job_text.specs.declared.verbs.JobVerb.TheVariants.{Sctty, Notty, Gpgrp, Spgrp}
use Rattle.job_text.specs.declared.calls.OwnCall.{OwnCall}
use Rattle.job_text.specs.declared.calls.OwnCall.TheVariants as call

abbrev pub count_of : JobVerb → ℕ
count_of Sctty = 1
count_of Notty = 1
count_of Gpgrp = 1
count_of Spgrp = 2
count_of other = 0

-- the number of a session or group
abbrev pub group_in : List ℕ → Read ℕ
group_in word = ranged 1 LAST_GROUP word

abbrev pub read_call : JobVerb → (first second : List ℕ) → Read OwnCall
read_call Sctty a b = handle_in a >>= λ h. Ok (call.Sctty h)
read_call Notty a b = handle_in a >>= λ h. Ok (call.Notty h)
read_call Gpgrp a b = handle_in a >>= λ h. Ok (call.Gpgrp h)
read_call Spgrp a b = handle_in a >>= λ h. group_in b >>= λ group. Ok (call.Spgrp h group)
read_call other a b = Ok call.Exit

abbrev pub call_of : JobVerb → List (List ℕ) → Read OwnCall
call_of verb arguments =
    if length arguments == count_of verb then read_call verb (word_at arguments 0) (word_at arguments 1) else Err Word
