use Rattle.std.proofs.Common.{◌≡◌, ℕ, ◌-◌, List, ◌++◌, length, drop, take}
use Rattle.std.proofs.Common.{subst, ap, ◌∙◌, append_assoc, take-append-drop}
use Rattle.word_ring.specs.Lanes.{HasLast, lanes}
use Rattle.word_ring.proofs.Passed.{four_last}
use Rattle.word_ring.proofs.passing.word_after.Goals as goal

pub returns-in-Some : goal.returns-in-Some
returns-in-Some c front long last =
    let bytes : List ℕ = c.args.bytes.now in
    let n : ℕ = length bytes - 4 in
    let four : ℕ = c.word_of_bytes.result in
    let ends : lanes four 4 ≡ drop n bytes = c.word_of_bytes.ensures ∙ c.in-Some.ensures.cases.1.same in
    let parts : front ++ take n bytes ++ lanes four 4 ≡ front ++ bytes =
    append_assoc front (take n bytes) (lanes four 4)
    ∙ ap (λ (xs : List ℕ). front ++ xs) (ap (λ (xs : List ℕ). take n bytes ++ xs) ends ∙ take-append-drop n bytes) in
    subst (HasLast four) parts (four_last (front ++ take n bytes) four)
