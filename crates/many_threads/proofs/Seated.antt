-- Each role of a phase stands at the number of its caller.
use Rattle.std.proofs.Common.{◌≡◌, inl, inr, ℕ, zero, suc, ◌<◌, List, [], ◌∷◌, Option, None}
use Rattle.std.proofs.Common.{Some, length, map, replicate, refl, sym, ◌∙◌, ap, subst, arith}
use Rattle.std.specs.Prelude.{slice_get, slice_index_or, slice_set, All, Contains, sum}
use Rattle.std.proofs.lemmas.List.{length-set, length-replicate, get_or-set_same, get_or-set_other}
use Rattle.std.proofs.lemmas.List.Elements.{All-head, All-tail, All-nil, All-cons}
use Rattle.tty_calls.specs.declared.sessions.Script.{Script}
use Rattle.tty_calls.specs.Sessions.{counts_on}
use Rattle.play_base.specs.Roles.{Scene, PlainRole, IsRoleOf, AreRolesOf, numbers_in, role_in}
use Rattle.play_base.specs.declared.roles.Role.{Role}
use Rattle.play_base.proofs.PortLemmas.{some_is}
use Rattle.many_threads.specs.Callers.{plain_role, plain_cast}
use Rattle.many_threads.specs.PhaseStarts.{IsCast}
use Rattle.many_threads.specs.Cast.{seated}
use Rattle.many_threads.proofs.CrewLemmas.{cast_length}
use Rattle.std.proofs.lemmas.Bool.{cases_eq}

-- the role at a number
abbrev pub role_at : List (Option Role) → ℕ → Option Role
role_at cast c = slice_index_or cast c None

-- each role has its number below this one
abbrev pub AreBelow : ℕ → List Role → Type 0
AreBelow n roles = All (λ r. r.number < n) roles

seated_length : (rs : List Role) (cast : List (Option Role)) → length (seated rs cast) ≡ length cast
seated_length [] cast = refl
seated_length (r ∷ rs) cast = seated_length rs (slice_set cast r.number (Some r)) ∙ length-set cast r.number (Some r)

same_count : (cast : List (Option Role)) (n : ℕ) (q : Option Role) (rs : List Role)
    → AreBelow (length cast) rs
    → AreBelow (length (slice_set cast n q)) rs
same_count cast n q rs h = subst (λ j. AreBelow j rs) (sym (length-set cast n q)) h

-- ---- what stands at a number is of a role with this number

abbrev AllSound : (ℕ → Role → Type 0) → List (Option Role) → Type 0
AllSound P cast = (c : ℕ) (q : Role) → role_at cast c ≡ Some q → P c q

sound_set : (P : ℕ → Role → Type 0) (cast : List (Option Role)) (n : ℕ) (role : Role)
    → n < length cast
    → AllSound P cast
    → P n role
    → AllSound P (slice_set cast n (Some role))
sound_set P cast n role below h k c q at = elim (cases_eq n c) [
  | inl same ↦
      let here : role_at (slice_set cast n (Some role)) c ≡ Some role =
      ap (role_at (slice_set cast n (Some role))) (sym same) ∙ get_or-set_same cast n (Some role) None below in
      let is : q ≡ role = some_is q role (sym at ∙ here) in
      subst (λ (m : ℕ). P m q) same (subst (P n) (sym is) k)
  | inr other ↦ h c q (sym (get_or-set_other cast n c (Some role) None (λ e. other (sym e))) ∙ at)
]

sound_seated : (P : ℕ → Role → Type 0) (rs : List Role) (cast : List (Option Role))
    → AreBelow (length cast) rs
    → All (λ r. P r.number r) rs
    → AllSound P cast
    → AllSound P (seated rs cast)
sound_seated P [] cast below good h = h
sound_seated P (r ∷ rs) cast below good h =
    sound_seated P rs (slice_set cast r.number (Some r))
    (same_count cast r.number (Some r) rs (All-tail (λ x. x.number < length cast) r rs below))
    (All-tail (λ x. P x.number x) r rs good)
    (sound_set P cast r.number r (All-head (λ x. x.number < length cast) r rs below) h
    (All-head (λ x. P x.number x) r rs good))

none_at : (n c : ℕ) → role_at (replicate n None) c ≡ None
none_at zero c = refl
none_at (suc n) zero = refl
none_at (suc n) (suc c) = none_at n c

none_sound : (P : ℕ → Role → Type 0) (n : ℕ) → AllSound P (replicate n None)
none_sound P n c q at = absurd (is_none (role_at (replicate n None) c) q (none_at n c) at)
  where
    is_none : (o : Option Role) (q : Role) → o ≡ None → o ≡ Some q → ⊥
    is_none None q h k = cc
    is_none (Some p) q h k = cc

-- ---- each role's number has a role

stays_set : (cast : List (Option Role)) (n c : ℕ) (role : Role)
    → n < length cast
    → (q : Role)
    → role_at cast c ≡ Some q
    → (p : Role) × (role_at (slice_set cast n (Some role)) c ≡ Some p)
stays_set cast n c role below q at = elim (cases_eq n c) [
  | inl same ↦
      (role, ap (role_at (slice_set cast n (Some role))) (sym same) ∙ get_or-set_same cast n (Some role) None below)
  | inr other ↦ (q, get_or-set_other cast n c (Some role) None (λ e. other (sym e)) ∙ at)
]

stays_seated : (rs : List Role) (cast : List (Option Role)) (c : ℕ) (q : Role)
    → AreBelow (length cast) rs
    → role_at cast c ≡ Some q
    → (p : Role) × (role_at (seated rs cast) c ≡ Some p)
stays_seated [] cast c q below at = (q, at)
stays_seated (r ∷ rs) cast c q below at =
    let set = stays_set cast r.number c r (All-head (λ x. x.number < length cast) r rs below) q at in
    stays_seated rs (slice_set cast r.number (Some r)) c set.0
    (same_count cast r.number (Some r) rs (All-tail (λ x. x.number < length cast) r rs below)) set.1

one_seated : (scripts : List Script) (rs : List Role) (cast : List (Option Role)) (c : ℕ)
    → AreBelow (length cast) rs
    → Contains (numbers_in (map (role_in scripts) rs)) c
    → (p : Role) × (role_at (seated rs cast) c ≡ Some p)
one_seated scripts [] cast c below there = absurd (omega (arith, there.1))
one_seated scripts (r ∷ rs) cast c below (zero, within, is) =
    let here : role_at (slice_set cast r.number (Some r)) c ≡ Some r =
    ap (role_at (slice_set cast r.number (Some r))) (sym is)
    ∙ get_or-set_same cast r.number (Some r) None (All-head (λ x. x.number < length cast) r rs below) in
    stays_seated rs (slice_set cast r.number (Some r)) c r
    (same_count cast r.number (Some r) rs (All-tail (λ x. x.number < length cast) r rs below)) here
one_seated scripts (r ∷ rs) cast c below (suc i, within, is) =
    one_seated scripts rs (slice_set cast r.number (Some r)) c
    (same_count cast r.number (Some r) rs (All-tail (λ x. x.number < length cast) r rs below))
    (i, omega (arith, within), is)

-- ---- the roles of the cast

plain_at : (scripts : List Script) (cast : List (Option Role)) (c : ℕ) (r : PlainRole)
    → slice_get (plain_cast scripts cast) c ≡ Some (Some r)
    → (q : Role) × (role_at cast c ≡ Some q) × (r ≡ role_in scripts q)
plain_at scripts [] c r h = absurd (cc)
plain_at scripts (None ∷ ps) zero r h = absurd (cc)
plain_at scripts (Some q ∷ ps) zero r h =
    (q, refl, sym (some_is (role_in scripts q) r (some_is (Some (role_in scripts q)) (Some r) h)))
plain_at scripts (p ∷ ps) (suc c) r h = plain_at scripts ps c r h

at_plain : (scripts : List Script) (cast : List (Option Role)) (c : ℕ) (q : Role)
    → role_at cast c ≡ Some q
    → slice_get (plain_cast scripts cast) c ≡ Some (Some (role_in scripts q))
at_plain scripts [] c q h = absurd (cc)
at_plain scripts (p ∷ ps) zero q h = ap (λ (o : Option Role). Some (plain_role scripts o)) h
at_plain scripts (p ∷ ps) (suc c) q h = at_plain scripts ps c q h

-- the role at this number is one of the phase
abbrev IsOfRoleAt : Scene → ℕ → List Script → ℕ → Role → Type 0
IsOfRoleAt s k scripts c q = IsRoleOf s k (role_in scripts q) × (q.number ≡ c)

each_of_role : (s : Scene) (k : ℕ) (scripts : List Script) (rs : List Role)
    → All (IsRoleOf s k) (map (role_in scripts) rs)
    → All (λ r. IsOfRoleAt s k scripts r.number r) rs
each_of_role s k scripts [] h = All-nil (λ (r : Role). IsOfRoleAt s k scripts r.number r)
each_of_role s k scripts (r ∷ rs) h =
    All-cons (λ (x : Role). IsOfRoleAt s k scripts x.number x) r rs
    (All-head (IsRoleOf s k) (role_in scripts r) (map (role_in scripts) rs) h, refl)
    (each_of_role s k scripts rs (All-tail (IsRoleOf s k) (role_in scripts r) (map (role_in scripts) rs) h))

-- ---- all callers of the port

-- what the roles of a phase are known by
each_below : (s : Scene) (k : ℕ) (scripts : List Script) (rs : List Role)
    → All (IsRoleOf s k) (map (role_in scripts) rs)
    → AreBelow (sum (counts_on s.port s.session)) rs
each_below s k scripts [] h = All-nil (λ (r : Role). r.number < sum (counts_on s.port s.session))
each_below s k scripts (r ∷ rs) h =
    All-cons (λ (x : Role). x.number < sum (counts_on s.port s.session)) r rs
    (All-head (IsRoleOf s k) (role_in scripts r) (map (role_in scripts) rs) h).known
    (each_below s k scripts rs (All-tail (IsRoleOf s k) (role_in scripts r) (map (role_in scripts) rs) h))

pub all_below : (s : Scene) (k : ℕ) (scripts : List Script) (rs : List Role) (callers : ℕ)
    → callers ≡ sum (counts_on s.port s.session)
    → AreRolesOf s k (map (role_in scripts) rs)
    → AreBelow callers rs
all_below s k scripts rs callers all are =
    subst (λ (n : ℕ). AreBelow n rs) (sym all) (each_below s k scripts rs are.each)

pub cast_is : (s : Scene) (k : ℕ) (scripts : List Script) (rs : List Role) (cast : List (Option Role)) (callers : ℕ)
    → callers ≡ sum (counts_on s.port s.session)
    → AreRolesOf s k (map (role_in scripts) rs)
    → cast ≡ seated rs (replicate callers None)
    → IsCast s k callers (plain_cast scripts cast)
cast_is s k scripts rs cast callers all are is =
    let none : List (Option Role) = replicate callers None in
    let below : AreBelow (length none) rs =
    subst (λ (n : ℕ). AreBelow n rs) (sym (length-replicate callers None)) (all_below s k scripts rs callers all are) in
    subst (λ (ps : List (Option Role)). IsCast s k callers (plain_cast scripts ps)) (sym is) (record {
      count = cast_length scripts (seated rs none) ∙ seated_length rs none ∙ length-replicate callers None;
      roles = λ c r at.
          let found = plain_at scripts (seated rs none) c r at in
          let sound = sound_seated (IsOfRoleAt s k scripts) rs none below (each_of_role s k scripts rs are.each)
          (none_sound (IsOfRoleAt s k scripts) callers) c found.0 found.1 in
          (subst (IsRoleOf s k) (sym found.2) sound.0, ap (λ (x : PlainRole). x.number) found.2 ∙ sound.1);
      all = λ c is_caller.
          let found = one_seated scripts rs none c below (are.all c is_caller) in
          (role_in scripts found.0, at_plain scripts (seated rs none) c found.0 found.1);
    })
