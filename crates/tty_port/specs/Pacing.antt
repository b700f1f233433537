-- Before which of its steps a line looks whether it must give way.
use Rattle.std.specs.Prelude.{ℕ, ◌-◌, ◌==◌, if◌then◌else◌}

-- it looks before one step in so many
abbrev pub stride : ℕ
stride = 16

-- how many steps are left before the next look, after a step before which n were left; with none left, that step looked
abbrev pub steps_left : ℕ → ℕ
steps_left n = if n == 0 then stride - 1 else n - 1
