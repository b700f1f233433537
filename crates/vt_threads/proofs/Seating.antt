-- How many seats a cast has.
use Rattle.std.proofs.Common.{◌≡◌, ℕ, List, [], ◌∷◌, Option, None, Some, length, replicate, refl, ◌∙◌}
use Rattle.std.specs.Prelude.{slice_set}
use Rattle.std.proofs.lemmas.List.{length-set, length-replicate}
use Rattle.play_base.specs.declared.roles.Role.{Role}
use Rattle.many_threads.specs.Cast.{seated}

seated_length : (rs : List Role) (cast : List (Option Role)) → length (seated rs cast) ≡ length cast
seated_length [] cast = refl
seated_length (r ∷ rs) cast = seated_length rs (slice_set cast r.number (Some r)) ∙ length-set cast r.number (Some r)

pub seated_count : (rs : List Role) (n : ℕ) → length (seated rs (replicate n None)) ≡ n
seated_count rs n = seated_length rs (replicate n None) ∙ length-replicate n None
