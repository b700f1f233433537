-- Whose turn it is, and what that says of the ranks before.
use Rattle.std.proofs.Common.{◌≡◌, ℕ, zero, suc, ◌+◌, ◌<◌, ◌⊎◌, List, [], ◌∷◌, Bool, true, false, not, ◌&&◌, Option}
use Rattle.std.proofs.Common.{None, Some, if◌then◌else◌, length, drop, get_or, refl, sym, ◌∙◌, ap, inl, inr, arith}
use Rattle.std.specs.Prelude.{slice_index}
use Rattle.std.proofs.lemmas.List.{drop_more, get_or-map, length-map}
use Rattle.tty_calls.specs.declared.journals.Who.{Who}
use Rattle.tty_calls.specs.declared.journals.Who.TheVariants.{Caller, Flusher, Clock, Session}
use Rattle.legal_runs.specs.Order.{first_of}
use Rattle.one_thread.specs.Turns.{role_numbers, turn_with, IsFirst, IsGoing, NoneIs}
use Rattle.play_base.specs.declared.roles.Role.{Role}
use Rattle.legal_runs.proofs.Truths.{if_false, if_true}

-- ---- the first of some

pub number_at : (roles : List Role) (i : ℕ) (d : Role)
    → i < length roles
    → slice_index (role_numbers roles) i ≡ (get_or roles i d).number
number_at roles i d lt = get_or-map (λ (r : Role). r.number) roles i d 0 lt

first_here : (p : ℕ → Bool) (roles : List Role) (i : ℕ) (d : Role) (other : Who)
    → i < length roles
    → first_of p (role_numbers (drop i roles)) other
    ≡ (if p (get_or roles i d).number
    then Caller (get_or roles i d).number
    else first_of p (role_numbers (drop (i + 1) roles)) other)
first_here p roles i d other lt = ap (λ (rs : List Role). first_of p (role_numbers rs) other) (drop_more roles i d lt)

pub found_at : (p : ℕ → Bool) (roles : List Role) (i : ℕ) (d : Role)
    → i < length roles
    → p (get_or roles i d).number ≡ true
    → ((other : Who) → first_of p (role_numbers roles) other ≡ first_of p (role_numbers (drop i roles)) other)
    → IsFirst p (role_numbers roles) (Some i)
found_at p roles i d lt is_so so_far =
    record {
      first = λ other.
          so_far other
          ∙ (first_here p roles i d other lt
          ∙ (if_true (p (get_or roles i d).number) _ _ is_so
          ∙ ap (λ (c : ℕ). Caller c) (sym (number_at roles i d lt))));
      within = omega (arith, length-map roles (λ (r : Role). r.number));
    }

pub not_at : (p : ℕ → Bool) (roles : List Role) (i : ℕ) (d : Role)
    → i < length roles
    → p (get_or roles i d).number ≡ false
    → ((other : Who) → first_of p (role_numbers roles) other ≡ first_of p (role_numbers (drop i roles)) other)
    → (other : Who)
    → first_of p (role_numbers roles) other ≡ first_of p (role_numbers (drop (i + 1) roles)) other
not_at p roles i d lt is_not so_far other =
    so_far other ∙ (first_here p roles i d other lt ∙ if_false (p (get_or roles i d).number) _ _ is_not)

drop_all : (roles : List Role) (i : ℕ) → length roles ≡ i → drop i roles ≡ []
drop_all roles i e = grind (arith, Rattle.std.proofs.lemmas.Grind.common_steps)

pub none_at : (p : ℕ → Bool) (roles : List Role) (i : ℕ)
    → length roles ≡ i
    → ((other : Who) → first_of p (role_numbers roles) other ≡ first_of p (role_numbers (drop i roles)) other)
    → IsFirst p (role_numbers roles) None
none_at p roles i e so_far =
    record {
      first = λ other. so_far other ∙ ap (λ (rs : List Role). first_of p (role_numbers rs) other) (drop_all roles i e);
      within = tt;
    }

-- two tests that agree at each of some have the same first
pub first_same : (p q : ℕ → Bool) (cs : List ℕ) (other : Who)
    → ((i : ℕ) → i < length cs → p (slice_index cs i) ≡ q (slice_index cs i))
    → first_of p cs other ≡ first_of q cs other
first_same p q [] other h = refl
first_same p q (c ∷ cs) other h =
    let rest = first_same p q cs other (λ i lt. h (suc i) (omega arith)) in
    λ j. if h 0 (omega arith) j then Caller c else rest j

-- ---- what a turn says

abbrev FirstView : (ℕ → Bool) → List ℕ → Who → Type 0
FirstView p cs other =
    (NoneIs p cs × (first_of p cs other ≡ other)) ⊎ ((c : ℕ) × (p c ≡ true) × (first_of p cs other ≡ Caller c))

none_more : (p : ℕ → Bool) (c : ℕ) (cs : List ℕ) → p c ≡ false → NoneIs p cs → NoneIs p (c ∷ cs)
none_more p c cs is_not h zero lt = is_not
none_more p c cs is_not h (suc i) lt = h i (omega arith)

view_more : (p : ℕ → Bool) (c : ℕ) (cs : List ℕ) (other : Who) (b : Bool)
    → p c ≡ b
    → FirstView p cs other
    → FirstView p (c ∷ cs) other
view_more p c cs other true e v = inr (c, e, if_true (p c) _ _ e)
view_more p c cs other false e v =
    elim v [
      | inl h ↦ inl (none_more p c cs e h.0, if_false (p c) _ _ e ∙ h.1)
      | inr h ↦ inr (h.0, h.1, if_false (p c) _ _ e ∙ h.2)
    ]

first_view : (p : ℕ → Bool) (cs : List ℕ) (other : Who) → FirstView p cs other
first_view p [] other = inl ((λ i lt. absurd (omega arith)), refl)
first_view p (c ∷ cs) other = view_more p c cs other (p c) refl (first_view p cs other)

abbrev pub rank : (clock_first idle over : Bool) → (p q : ℕ → Bool) → List ℕ → Who
rank clock_first idle over p q cs =
    if not idle
    then Flusher
    else if clock_first && not over then Clock else first_of p cs (if not over then Clock else first_of q cs Session)

-- the clock comes first, and is not over; or it is as if it came behind the callers
abbrev ClockView : (clock_first over : Bool) → Who → Type 0
ClockView clock_first over other =
    ((over ≡ false) × ((if clock_first && not over then Clock else other) ≡ Clock))
    ⊎ ((if clock_first && not over then Clock else other) ≡ other)

clock_view : (clock_first over : Bool) (other : Who) → ClockView clock_first over other
clock_view true true other = inr refl
clock_view true false other = inl (refl, refl)
clock_view false over other = inr refl

flusher_last : (q : ℕ → Bool) (cs : List ℕ) (over : Bool)
    → Flusher ≡ (if not over then Clock else first_of q cs Session)
    → ⊥
flusher_last q cs false e = absurd (cc)
flusher_last q cs true e = elim (first_view q cs Session)
    [ inl h ↦ (let k = e ∙ h.1 in absurd (cc)) | inr h ↦ (let k = e ∙ h.2 in absurd (cc)) ]

pub flusher_turn : (numbers : List ℕ) (going : Option ℕ) (clock_first idle over : Bool) (p q : ℕ → Bool)
    → Flusher ≡ turn_with numbers going (rank clock_first idle over p q numbers)
    → (going ≡ None) × (idle ≡ false)
flusher_turn numbers (Some i) clock_first idle over p q e = absurd (cc)
flusher_turn numbers None clock_first false over p q e = (refl, refl)
flusher_turn numbers None clock_first true over p q e =
    let last : Who = if not over then Clock else first_of q numbers Session in
    elim (clock_view clock_first over (first_of p numbers last)) [
      | inl clock ↦ (let k = e ∙ clock.1 in absurd (cc))
      | inr same ↦ elim (first_view p numbers last) [
        | inl h ↦ absurd (flusher_last q numbers over (e ∙ (same ∙ h.1)))
        | inr h ↦ (let k = e ∙ (same ∙ h.2) in absurd (cc))
      ]
    ]

clock_last : (q : ℕ → Bool) (cs : List ℕ) (over : Bool)
    → Clock ≡ (if not over then Clock else first_of q cs Session)
    → over ≡ false
clock_last q cs false e = refl
clock_last q cs true e = elim (first_view q cs Session)
    [ inl h ↦ (let k = e ∙ h.1 in absurd (cc)) | inr h ↦ (let k = e ∙ h.2 in absurd (cc)) ]

pub clock_turn : (numbers : List ℕ) (going : Option ℕ) (clock_first idle over : Bool) (p q : ℕ → Bool)
    → Clock ≡ turn_with numbers going (rank clock_first idle over p q numbers)
    → (going ≡ None) × (over ≡ false)
clock_turn numbers (Some i) clock_first idle over p q e = absurd (cc)
clock_turn numbers None clock_first false over p q e = absurd (cc)
clock_turn numbers None clock_first true over p q e =
    let last : Who = if not over then Clock else first_of q numbers Session in
    elim (clock_view clock_first over (first_of p numbers last)) [
      | inl clock ↦ (refl, clock.0)
      | inr same ↦ elim (first_view p numbers last) [
        | inl h ↦ (refl, clock_last q numbers over (e ∙ (same ∙ h.1)))
        | inr h ↦ (let k = e ∙ (same ∙ h.2) in absurd (cc))
      ]
    ]

-- all is over but callers that wait, of whom one may be asked for
pub record AllRest (numbers : List ℕ) (going : Option ℕ) (idle over : Bool) (p : ℕ → Bool) : Type 0 where
  pub settled : going ≡ None
  pub idle_is : idle ≡ true
  pub over_is : over ≡ true
  pub none : NoneIs p numbers

session_last : (q : ℕ → Bool) (cs : List ℕ) (over : Bool)
    → Session ≡ (if not over then Clock else first_of q cs Session)
    → (over ≡ true) × NoneIs q cs
session_last q cs false e = absurd (cc)
session_last q cs true e =
    elim (first_view q cs Session) [ inl h ↦ (refl, h.0) | inr h ↦ (let k = e ∙ h.2 in absurd (cc)) ]

pub session_turn : (numbers : List ℕ) (going : Option ℕ) (clock_first idle over : Bool) (p q : ℕ → Bool)
    → Session ≡ turn_with numbers going (rank clock_first idle over p q numbers)
    → AllRest numbers going idle over p × NoneIs q numbers
session_turn numbers (Some i) clock_first idle over p q e = absurd (cc)
session_turn numbers None clock_first false over p q e = absurd (cc)
session_turn numbers None clock_first true over p q e =
    let last : Who = if not over then Clock else first_of q numbers Session in
    elim (clock_view clock_first over (first_of p numbers last)) [
      | inl clock ↦ (let k = e ∙ clock.1 in absurd (cc))
      | inr same ↦ elim (first_view p numbers last) [
        | inl h ↦
            let at_end = session_last q numbers over (e ∙ (same ∙ h.1)) in
            (record { settled = refl; idle_is = refl; over_is = at_end.0; none = h.0 }, at_end.1)
        | inr h ↦ (let k = e ∙ (same ∙ h.2) in absurd (cc))
      ]
    ]

pub same_caller : (c d : ℕ) → Caller c ≡ Caller d → c ≡ d
same_caller c d e = cc

-- a call that goes on, a caller that can go on, or one that waits in vain
abbrev pub CallerView : List ℕ → Option ℕ → Bool → Bool → (ℕ → Bool) → (ℕ → Bool) → ℕ → Type 0
CallerView numbers going idle over p q c =
    IsGoing numbers going c ⊎ (((going ≡ None) × (p c ≡ true)) ⊎ (AllRest numbers going idle over p × (q c ≡ true)))

caller_last : (q : ℕ → Bool) (cs : List ℕ) (over : Bool) (c : ℕ)
    → Caller c ≡ (if not over then Clock else first_of q cs Session)
    → (over ≡ true) × (q c ≡ true)
caller_last q cs false c e = absurd (cc)
caller_last q cs true c e =
    elim (first_view q cs Session) [
      | inl h ↦ (let k = e ∙ h.1 in absurd (cc))
      | inr h ↦ (let is = same_caller c h.0 (e ∙ h.2) in (refl, ap (λ (d : ℕ). q d) is ∙ h.1))
    ]

pub caller_turn : (numbers : List ℕ) (going : Option ℕ) (clock_first idle over : Bool) (p q : ℕ → Bool) (c : ℕ)
    → Caller c ≡ turn_with numbers going (rank clock_first idle over p q numbers)
    → CallerView numbers going idle over p q c
caller_turn numbers (Some i) clock_first idle over p q c e =
    inl (record { place = i; at_place = refl; is = sym (same_caller c _ e) })
caller_turn numbers None clock_first false over p q c e = absurd (cc)
caller_turn numbers None clock_first true over p q c e =
    let last : Who = if not over then Clock else first_of q numbers Session in
    elim (clock_view clock_first over (first_of p numbers last)) [
      | inl clock ↦ (let k = e ∙ clock.1 in absurd (cc))
      | inr same ↦ elim (first_view p numbers last) [
        | inl h ↦
            let in_vain = caller_last q numbers over c (e ∙ (same ∙ h.1)) in
            inr (inr (record { settled = refl; idle_is = refl; over_is = in_vain.0; none = h.0 }, in_vain.1))
        | inr h ↦ (let is = same_caller c h.0 (e ∙ (same ∙ h.2)) in inr (inl (refl, ap (λ (d : ℕ). p d) is ∙ h.1)))
      ]
    ]
