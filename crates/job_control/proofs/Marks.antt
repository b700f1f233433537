-- At which taking of a port it was given up.
use Rattle.std.proofs.Common.{◌≡◌, ℕ, zero, suc, ◌+◌, ◌<◌, ◌≤◌, true, false, List, []}
use Rattle.std.proofs.Common.{◌∷◌, length, map, get_or, set, refl, ap, ◌∙◌, ⊎_elim, arith}
use Rattle.std.specs.Prelude.{◌==◌, replicate, slice_get}
use Rattle.std.specs.Option.{option_map_or}
use Rattle.std.proofs.lemmas.Bool.{ne_eqb, eq-eqb, cases_lt}
use Rattle.std.proofs.lemmas.List.{map-set, get_or_past}

-- no mark is of a taking that is still to come
pub marks_before : (marks : List ℕ) (taken : ℕ)
    → ((p : ℕ) → get_or marks p 0 < taken)
    → map (λ mark. mark == taken) marks ≡ replicate (length marks) false
marks_before [] taken before = refl
marks_before (mark ∷ marks) taken before =
    let ne : mark ≡ taken → ⊥ = λ e. let lt : mark < taken = before 0 in omega (arith, lt, e) in
    let head : (mark == taken) ≡ false = ne_eqb mark taken ne in
    rw head (ap (λ rest. false ∷ rest) (marks_before marks taken (λ p. before (suc p))))

pub marks_none : (n taken : ℕ) → 0 < taken → map (λ mark. mark == taken) (replicate n 0) ≡ replicate n false
marks_none zero taken lt = refl
marks_none (suc n) taken lt =
    let ne : 0 ≡ taken → ⊥ = λ e. omega (arith, lt, e) in
    let head : (0 == taken) ≡ false = ne_eqb 0 taken ne in
    rw head (ap (λ rest. false ∷ rest) (marks_none n taken lt))

-- the mark of a process says whether it gave the port up at this taking
pub mark_at : (marks : List ℕ) (taken p : ℕ)
    → get_or (map (λ mark. mark == taken) marks) p false
    ≡ option_map_or (λ mark. mark == taken) (slice_get marks p) false
mark_at [] taken p = refl
mark_at (mark ∷ marks) taken zero = refl
mark_at (mark ∷ marks) taken (suc p) = mark_at marks taken p

pub marks_before_next : (marks : List ℕ) (taken n : ℕ)
    → length marks ≡ n
    → ((p : ℕ) → get_or marks p 0 ≤ taken)
    → map (λ mark. mark == taken + 1) marks ≡ replicate n false
marks_before_next marks taken n long past =
    rw (← long) (marks_before marks (taken + 1) (λ p. let le : get_or marks p 0 ≤ taken = past p in omega (arith, le)))

pub none_past : (n p : ℕ) → get_or (replicate n 0) p 0 ≤ 1
none_past zero p = omega arith
none_past (suc n) zero = omega arith
none_past (suc n) (suc p) = none_past n p

-- the mark of this taking
pub marked : (marks : List ℕ) (taken p : ℕ)
    → map (λ mark. mark == taken) (set marks p taken) ≡ set (map (λ mark. mark == taken) marks) p true
marked marks taken p =
    map-set (λ mark. mark == taken) marks p taken
    ∙ ap (λ b. set (map (λ mark. mark == taken) marks) p b) (eq-eqb taken taken refl)

cleared_all : (marks : List ℕ) → ((p : ℕ) → p < length marks → get_or marks p 0 ≡ 0) → (p : ℕ) → get_or marks p 0 ≡ 0
cleared_all marks cleared p =
    ⊎_elim (λ lt. cleared p lt) (λ past. get_or_past marks p 0 past) (cases_lt p (length marks))

-- after all marks were cleared none is of taking 1
pub marks_cleared : (marks : List ℕ) (n : ℕ)
    → length marks ≡ n
    → ((p : ℕ) → p < length marks → get_or marks p 0 ≡ 0)
    → map (λ mark. mark == 1) marks ≡ replicate n false
marks_cleared marks n long cleared = rw (← long) (marks_before marks 1
    (λ p. let zero_there : get_or marks p 0 ≡ 0 = cleared_all marks cleared p in omega (arith, zero_there)))

pub cleared_past : (marks : List ℕ)
    → ((p : ℕ) → p < length marks → get_or marks p 0 ≡ 0)
    → (p : ℕ)
    → get_or marks p 0 ≤ 1
cleared_past marks cleared p =
    let zero_there : get_or marks p 0 ≡ 0 = cleared_all marks cleared p in omega (arith, zero_there)
