-- Where a name may stand in a list of names.
use Rattle.std.specs.Prelude.{ℕ, ◌+◌, ◌-◌, ◌*◌, ◌%◌, nat_lt, List, length, slice_index, if◌then◌else◌}

-- a number that a name's length and three of its bytes give, below 128; 0 for a name of fewer bytes
abbrev pub slot_of : List ℕ → ℕ
slot_of name =
    if nat_lt (length name) 3
    then 0
    else ((length name % 64 + slice_index name 0) * 2 + slice_index name 2 * 9 + slice_index name (length name - 1))
    % 128
