-- What is compared for the account of a port: for private functions alone.
use Rattle.std.specs.Prelude.{◌≡◌, ◌==◌, ℕ, ◌+◌, List, [], ◌∷◌, ◌++◌, Bool}
use Rattle.std.specs.Prelude.{false, Option, None, Some, if◌then◌else◌, drop}
use denote.Ref.{Bor}
use Rattle.tty_base.specs.declared.characters.Flagged.{Flagged}
use Rattle.tty_base.specs.declared.lines.Overrun.{Overrun}

-- what is left of a list after its front
abbrev pub StartsWith : List Flagged → List Flagged → Option (Bor (List Flagged)) → Type 0
StartsWith xs front None = (rest : List Flagged) → xs ≡ front ++ rest → ⊥
StartsWith xs front (Some rest) = xs ≡ front ++ rest.now

-- the characters from this place on that are no places of these overruns, which rise; and the overruns that are left
pub record Walk : Type 0 where
  pub chars : List Flagged
  pub overruns : List Overrun

-- the first of these overruns, if any, has this place
abbrev pub is_at : List Overrun → ℕ → Bool
is_at [] place = false
is_at (o ∷ os) place = o.at == place

abbrev pub kept_from : ℕ → List Flagged → List Overrun → Walk
kept_from place [] os = record { chars = []; overruns = os }
kept_from place (c ∷ cs) os =
    if is_at os place then kept_from (place + 1) cs (drop 1 os)
    else record { chars = c ∷ (kept_from (place + 1) cs os).chars; overruns = (kept_from (place + 1) cs os).overruns }
