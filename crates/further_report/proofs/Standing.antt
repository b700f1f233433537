-- How many calls each caller made before a script.
use Rattle.std.proofs.Common.{◌≡◌, ◌≢◌, inl, inr, ℕ, suc, zero, ◌+◌, ◌<◌, ◌==◌, nat_lt, Bool, true, false}
use Rattle.std.proofs.Common.{cond, if◌then◌else◌, Option, None, Some, List, [], ◌∷◌, ◌++◌, length, map}
use Rattle.std.proofs.Common.{replicate, refl, sym, ◌∙◌, ap, subst, arith, append-nil, length-append, ltb-true}
use Rattle.std.specs.Prelude.{filter, slice_index, slice_set}
use Rattle.std.specs.List.{position_or_len}
use Rattle.std.specs.Str.{bytes_eq}
use Rattle.std.proofs.lemmas.Bool.{cases_eq}
use Rattle.std.proofs.lemmas.Bool.Decides.{nat_tests}
use Rattle.std.proofs.lemmas.Grind.{flat_map-append}
use Rattle.std.proofs.lemmas.List.{length-set, length-replicate, get_or-set_same, get_or-set_other}
use Rattle.tty_calls.specs.Sessions.{number_in}
use Rattle.passed_calls.specs.Scripts.{AnyCall, CallerScript}
use Rattle.further_report.specs.Calls.{verb_in, lines_from, is_number, calls_by, script_lines, scripts_lines}
use Rattle.further_report.specs.Printing.{answers_to, script_text, steps_then, scripts_text}

some_then : (b : Bool) (n at : ℕ) → cond b (Some n) None ≡ Some at → (b ≡ true) × (n ≡ at)
some_then true n at h = (refl, cc)
some_then false n at h = cc

pub number_within : (names : List (List ℕ)) (name : List ℕ) (n : ℕ) → number_in names name ≡ Some n → n < length names
number_within names name n h =
    let place = position_or_len (bytes_eq name) names in
    let found = some_then (nat_lt place (length names)) place n h in
    subst (λ (m : ℕ). m < length names) found.1 (ltb-true _ _ found.0)

same_is : (n : ℕ) → (n == n) ≡ true
same_is n = grind (arith, nat_tests)

other_is : (n m : ℕ) → n ≢ m → (n == m) ≡ false
other_is n m h = grind (arith, nat_tests)

-- each caller's next step, behind these scripts
record Stands {C : Type 0} (names : List (List ℕ)) (steps : List ℕ) (before : List (CallerScript C)) : Type 0 where
  count : length steps ≡ length names
  each : (c : ℕ) → c < length names → slice_index steps c ≡ length (calls_by names c before)

calls_more : {C : Type 0} (names : List (List ℕ)) (c : ℕ) (before : List (CallerScript C)) (s : CallerScript C)
    → calls_by names c (before ++ s ∷ [])
    ≡ calls_by names c before ++ (if is_number (number_in names s.name) c then s.calls else [])
calls_more names c before s =
    flat_map-append (λ s. if is_number (number_in names s.name) c then s.calls else []) before (s ∷ [])
    ∙ ap (λ l. calls_by names c before ++ l) (append-nil (if is_number (number_in names s.name) c then s.calls else []))

calls_same : {C : Type 0} (names : List (List ℕ)) (c : ℕ) (before : List (CallerScript C)) (s : CallerScript C)
    → is_number (number_in names s.name) c ≡ false
    → calls_by names c (before ++ s ∷ []) ≡ calls_by names c before
calls_same names c before s h = calls_more names c before s ∙ rw h (append-nil (calls_by names c before))

calls_with : {C : Type 0} (names : List (List ℕ)) (c : ℕ) (before : List (CallerScript C)) (s : CallerScript C)
    → is_number (number_in names s.name) c ≡ true
    → calls_by names c (before ++ s ∷ []) ≡ calls_by names c before ++ s.calls
calls_with names c before s h = calls_more names c before s ∙ rw h refl

stands_after : {C : Type 0} (names : List (List ℕ)) (steps : List ℕ) (before : List (CallerScript (AnyCall C)))
    (s : CallerScript (AnyCall C)) (number : Option ℕ)
    → number_in names s.name ≡ number
    → Stands names steps before
    → Stands names (steps_then steps s number) (before ++ s ∷ [])
stands_after names steps before s None e h = record {
  count = h.count;
  each = λ c lt. h.each c lt ∙ ap (λ l. length l) (sym (calls_same names c before s (ap (λ m. is_number m c) e)));
}
stands_after names steps before s (Some n) e h =
    let within : n < length steps = subst (λ (m : ℕ). n < m) (sym h.count) (number_within names s.name n e) in
    let set : ℕ = slice_index steps n + length s.calls in
    record {
      count = length-set steps n set ∙ h.count;
      each = λ c lt. elim (cases_eq n c) [
        | inl same ↦
            ap (slice_index (slice_set steps n set)) (sym same) ∙ get_or-set_same steps n set 0 within
            ∙ ap (λ (m : ℕ). m + length s.calls) (h.each n (number_within names s.name n e))
            ∙ sym (length-append (calls_by names n before) s.calls)
            ∙ ap (λ l. length l) (sym (calls_with names n before s (ap (λ m. is_number m n) e ∙ same_is n)))
            ∙ ap (λ (m : ℕ). length (calls_by names m (before ++ s ∷ []))) same
        | inr other ↦
            get_or-set_other steps n c set 0 (λ same. other (sym same)) ∙ h.each c lt
            ∙ ap (λ l. length l) (sym (calls_same names c before s (ap (λ m. is_number m c) e ∙ other_is n c other)))
      ];
    }

abbrev AreAnswers : (names : List (List ℕ)) → List (List (List ℕ)) → (ℕ → List (List ℕ)) → Type 0
AreAnswers names answers told = (c : ℕ) → c < length names → answers_to answers c ≡ told c

script_is : {C : Type 0} (verb : C → List ℕ) (p : ℕ) (names : List (List ℕ)) (answers : List (List (List ℕ)))
    (told : ℕ → List (List ℕ)) (steps : List ℕ) (before : List (CallerScript (AnyCall C)))
    (s : CallerScript (AnyCall C)) (number : Option ℕ)
    → number_in names s.name ≡ number
    → Stands names steps before
    → AreAnswers names answers told
    → script_text verb p answers steps s number ≡ script_lines verb p told (λ c. calls_by names c before) s number
script_is verb p names answers told steps before s None e h k = refl
script_is verb p names answers told steps before s (Some n) e h k =
    let within = number_within names s.name n e in
    ap (λ (texts : List (List ℕ)). lines_from p s.name texts (slice_index steps n) (map (verb_in verb) s.calls))
    (k n within)
    ∙ ap (λ (step : ℕ). lines_from p s.name (told n) step (map (verb_in verb) s.calls)) (h.each n within)

scripts_if : {C : Type 0} (b : Bool) (verb : C → List ℕ) (p : ℕ) (names : List (List ℕ)) (told : ℕ → List (List ℕ))
    (before : List (CallerScript (AnyCall C))) (s : CallerScript (AnyCall C)) (ss : List (CallerScript (AnyCall C)))
    (here rest : List ℕ)
    → (b ≡ true → here ≡ scripts_lines verb p names told before (s ∷ ss))
    → (b ≡ false → rest ≡ scripts_lines verb p names told before ss)
    → (if b then here else rest) ≡ scripts_lines verb p names told before (cond b (s ∷ ss) ss)
scripts_if true verb p names told before s ss here rest yes_is no_is = yes_is refl
scripts_if false verb p names told before s ss here rest yes_is no_is = no_is refl

scripts_are : {C : Type 0} (verb : C → List ℕ) (p : ℕ) (names : List (List ℕ)) (answers : List (List (List ℕ)))
    (told : ℕ → List (List ℕ)) (steps : List ℕ) (before scripts : List (CallerScript (AnyCall C)))
    → Stands names steps before
    → AreAnswers names answers told
    → scripts_text verb p names answers steps scripts
    ≡ scripts_lines verb p names told before (filter (λ s. s.port == p) scripts)
scripts_are verb p names answers told steps before [] h k = refl
scripts_are verb p names answers told steps before (s ∷ ss) h k =
    let number = number_in names s.name in
    let next = steps_then steps s number in
    scripts_if (s.port == p) verb p names told before s (filter (λ s. s.port == p) ss)
    (script_text verb p answers steps s number ++ scripts_text verb p names answers next ss)
    (scripts_text verb p names answers steps ss)
    (λ on. ap (λ (l : List ℕ). l ++ scripts_text verb p names answers next ss)
    (script_is verb p names answers told steps before s number refl h k)
    ∙ ap (λ (l : List ℕ). script_lines verb p told (λ c. calls_by names c before) s number ++ l)
    (scripts_are verb p names answers told next (before ++ s ∷ []) ss (stands_after names steps before s number refl h)
    k))
    (λ off. scripts_are verb p names answers told steps before ss h k)

zero_at : (n c : ℕ) → slice_index (replicate n 0) c ≡ 0
zero_at zero zero = refl
zero_at zero (suc c) = refl
zero_at (suc n) zero = refl
zero_at (suc n) (suc c) = zero_at n c

-- all scripts of a port
pub all_scripts : {C : Type 0} (verb : C → List ℕ) (p : ℕ) (names : List (List ℕ)) (answers : List (List (List ℕ)))
    (told : ℕ → List (List ℕ)) (scripts : List (CallerScript (AnyCall C)))
    → ((c : ℕ) → c < length names → answers_to answers c ≡ told c)
    → scripts_text verb p names answers (replicate (length names) 0) scripts
    ≡ scripts_lines verb p names told [] (filter (λ s. s.port == p) scripts)
all_scripts verb p names answers told scripts k =
    scripts_are verb p names answers told (replicate (length names) 0) [] scripts
    (record { count = length-replicate (length names) 0; each = λ c lt. zero_at (length names) c }) k
