-- The callers' numbers and steps: those that the printer counts are those of the session.
use Rattle.std.proofs.Common.{◌≡◌, ◌≢◌, ℕ, Bool, true, false, List, [], ◌∷◌, ◌++◌, Option, None, Some, Result}
use Rattle.std.proofs.Common.{Ok, Err, OnOk, ◌+◌, ◌<◌, length, flat_map, get_or, set, replicate, refl, sym}
use Rattle.std.proofs.Common.{ap, ◌∙◌, cond, arith, add-zero, append-nil, length-append, length-set}
use Rattle.std.specs.Str.{bytes_eq}
use Rattle.std.proofs.lemmas.Bool.{false≢true}
use Rattle.std.proofs.lemmas.Slice.Eq.{bytes_eq-Decides}
use Rattle.std.proofs.lemmas.Grind.{flat_map-append}
use Rattle.std.proofs.lemmas.List.{get_or-replicate, length-replicate, get_or-set_same, get_or-set_other}
use Rattle.std.proofs.lemmas.List.Quantifiers.{position-Some}
use Rattle.tty_calls.specs.Plain.{PlainCall, PlainAnswer}
use Rattle.tty_calls.specs.Sessions.{PlainPhase, PlainScript, PlainSession}
use Rattle.tty_calls.specs.Sessions.{scripts_over, names_of, number_in, calls_under}
use Rattle.session_print.specs.Report.{ToldCall, told_from, told_in, told_on, told_line, answer_to, answered_line}
use Rattle.session_print.specs.Printing.{told_script, steps_then, told_scripts}

is_same : (a b : List ℕ) → bytes_eq a b ≡ true → a ≡ b
is_same a b e = (bytes_eq-Decides a b).0 e

same_is : (a b : List ℕ) → a ≡ b → bytes_eq a b ≡ true
same_is a b e = (bytes_eq-Decides a b).1 e

-- a number is the place of its name
pub place_within : (names : List (List ℕ)) (name : List ℕ) (c : ℕ) → number_in names name ≡ Some c → c < length names
place_within names name c e = (position-Some (bytes_eq name) names c [] e).0

pub name_at_place : (names : List (List ℕ)) (name : List ℕ) (c : ℕ)
    → number_in names name ≡ Some c
    → name ≡ get_or names c []
name_at_place names name c e = is_same name (get_or names c []) (position-Some (bytes_eq name) names c [] e).1

length_either : (b : Bool) (calls : List PlainCall) → length (cond b calls []) ≡ cond b (length calls) 0
length_either true calls = refl
length_either false calls = refl

-- the calls under a name, with those of one more script
calls_more : (name : List ℕ) (before : List PlainScript) (s : PlainScript)
    → length (calls_under name (before ++ s ∷ []))
    ≡ length (calls_under name before) + cond (bytes_eq s.name name) (length s.calls) 0
calls_more name before s =
    let own : List PlainCall = cond (bytes_eq s.name name) s.calls [] in
    ap (λ cs. length cs) (flat_map-append (λ x. cond (bytes_eq x.name name) x.calls []) before (s ∷ []))
    ∙ length-append (calls_under name before) (own ++ [])
    ∙ ap (λ n. length (calls_under name before) + n)
    (ap (λ cs. length cs) (append-nil own) ∙ length_either (bytes_eq s.name name) s.calls)

calls_same : (name : List ℕ) (before : List PlainScript) (s : PlainScript)
    → bytes_eq s.name name ≡ true
    → length (calls_under name (before ++ s ∷ [])) ≡ length (calls_under name before) + length s.calls
calls_same name before s e =
    calls_more name before s ∙ ap (λ b. length (calls_under name before) + cond b (length s.calls) 0) e

calls_other : (name : List ℕ) (before : List PlainScript) (s : PlainScript)
    → bytes_eq s.name name ≡ false
    → length (calls_under name (before ++ s ∷ [])) ≡ length (calls_under name before)
calls_other name before s e =
    calls_more name before s
    ∙ ap (λ b. length (calls_under name before) + cond b (length s.calls) 0) e
    ∙ add-zero (length (calls_under name before))

-- each caller's next step, after some scripts
record Stands (names : List (List ℕ)) (before : List PlainScript) (steps : List ℕ) : Type 0 where
  each : length steps ≡ length names
  next : (name : List ℕ) (c : ℕ) → number_in names name ≡ Some c → get_or steps c 0 ≡ length (calls_under name before)

stands_first : (names : List (List ℕ)) (steps : List ℕ) → steps ≡ replicate (length names) 0 → Stands names [] steps
stands_first names steps is =
    record {
      each = ap (λ xs. length xs) is ∙ length-replicate (length names) 0;
      next = λ name c e.
          ap (λ xs. get_or xs c 0) is ∙ get_or-replicate (length names) c 0 0 (place_within names name c e);
    }

stands_none : (names : List (List ℕ)) (before : List PlainScript) (steps : List ℕ) (s : PlainScript)
    → number_in names s.name ≡ None
    → Stands names before steps
    → Stands names (before ++ s ∷ []) steps
stands_none names before steps s none h =
    record { each = h.each; next = λ name c e. either name c (bytes_eq s.name name) refl e }
  where
    either : (name : List ℕ) (c : ℕ) (b : Bool)
        → bytes_eq s.name name ≡ b
        → number_in names name ≡ Some c
        → get_or steps c 0 ≡ length (calls_under name (before ++ s ∷ []))
    either name c true same e = absurd (clash (sym none ∙ ap (λ n. number_in names n) (is_same s.name name same) ∙ e))
      where
        clash : {X : Type 0} {x : X} → None ≡ Some x → ⊥
        clash e = cc
    either name c false other e = h.next name c e ∙ sym (calls_other name before s other)

stands_some : (names : List (List ℕ)) (before : List PlainScript) (steps : List ℕ) (s : PlainScript) (n : ℕ)
    → number_in names s.name ≡ Some n
    → Stands names before steps
    → Stands names (before ++ s ∷ []) (set steps n (get_or steps n 0 + length s.calls))
stands_some names before steps s n at h = record {
  each = length-set steps n (get_or steps n 0 + length s.calls) ∙ h.each;
  next = λ name c e. either name c (bytes_eq s.name name) refl e;
}
  where
    either : (name : List ℕ) (c : ℕ) (b : Bool) → bytes_eq s.name name ≡ b → number_in names name ≡ Some c
        → get_or (set steps n (get_or steps n 0 + length s.calls)) c 0 ≡ length (calls_under name (before ++ s ∷ []))
    either name c true same e =
        let there : c ≡ n = some_is c n (sym e ∙ ap (λ m. number_in names m) (sym (is_same s.name name same)) ∙ at) in
        let within : n < length steps = omega (arith, h.each, place_within names s.name n at) in
        ap (λ k. get_or (set steps n (get_or steps n 0 + length s.calls)) k 0) there
        ∙ get_or-set_same steps n (get_or steps n 0 + length s.calls) 0 within
        ∙ ap (λ k. k + length s.calls)
        (h.next s.name n at ∙ ap (λ m. length (calls_under m before)) (is_same s.name name same))
        ∙ sym (calls_same name before s same)
      where
        some_is : (x y : ℕ) → Some x ≡ Some y → x ≡ y
        some_is x y e = cc
    either name c false other e =
        let apart : c ≢ n = λ same. false≢true (sym other
        ∙ same_is s.name name
        (name_at_place names s.name n at
        ∙ ap (λ k. get_or names k []) (sym same)
        ∙ sym (name_at_place names name c e))) in
        get_or-set_other steps n c (get_or steps n 0 + length s.calls) 0 apart
        ∙ h.next name c e
        ∙ sym (calls_other name before s other)

-- a caller without a number is told nothing
told_none : (p : ℕ) (answers : ℕ → ℕ → Option PlainAnswer) (name : List ℕ) (step : ℕ) (calls : List PlainCall)
    → flat_map (told_line p answers) (told_from name None step calls) ≡ []
told_none p answers name step [] = refl
told_none p answers name step (call ∷ calls) = told_none p answers name (step + 1) calls

goes_on : (p : ℕ) (answers : ℕ → ℕ → Option PlainAnswer) (names : List (List ℕ)) (before ss : List PlainScript)
    (steps : List ℕ)
    → Stands names before steps
    → flat_map (told_line p answers) (told_scripts names steps ss)
    ≡ flat_map (told_line p answers) (told_in names before ss)
goes_on p answers names before [] steps h = refl
goes_on p answers names before (s ∷ ss) steps h =
    either (number_in names s.name) refl (λ next stands. goes_on p answers names (before ++ s ∷ []) ss next stands)
  where
    either : (o : Option ℕ)
        → number_in names s.name ≡ o
        → ((next : List ℕ)
        → Stands names (before ++ s ∷ []) next
        → flat_map (told_line p answers) (told_scripts names next ss)
        ≡ flat_map (told_line p answers) (told_in names (before ++ s ∷ []) ss))
        → flat_map (told_line p answers) (told_script steps s o ++ told_scripts names (steps_then steps s o) ss)
        ≡ flat_map (told_line p answers)
        (told_from s.name o (length (calls_under s.name before)) s.calls ++ told_in names (before ++ s ∷ []) ss)
    either None none go =
        let step : ℕ = length (calls_under s.name before) in
        let rest : List ToldCall = told_in names (before ++ s ∷ []) ss in
        go steps (stands_none names before steps s none h)
        ∙ ap (λ xs. xs ++ flat_map (told_line p answers) rest) (sym (told_none p answers s.name step s.calls))
        ∙ sym (flat_map-append (told_line p answers) (told_from s.name None step s.calls) rest)
    either (Some n) at go =
        let then : List ℕ = set steps n (get_or steps n 0 + length s.calls) in
        let mine : List ToldCall = told_from s.name (Some n) (get_or steps n 0) s.calls in
        let rest : List ToldCall = told_in names (before ++ s ∷ []) ss in
        flat_map-append (told_line p answers) mine (told_scripts names then ss)
        ∙ ap (λ xs. flat_map (told_line p answers) mine ++ xs) (go then (stands_some names before steps s n at h))
        ∙ sym (flat_map-append (told_line p answers) mine rest)
        ∙ ap (λ k. flat_map (told_line p answers) (told_from s.name (Some n) k s.calls ++ rest)) (h.next s.name n at)

same_line : (p : ℕ) (found answers : ℕ → ℕ → Option PlainAnswer)
    → ((c step : ℕ) → found c step ≡ answers c step)
    → (t : ToldCall) (c : Option ℕ)
    → answered_line p t (answer_to found c t.step) ≡ answered_line p t (answer_to answers c t.step)
same_line p found answers same t None = refl
same_line p found answers same t (Some c) = ap (answered_line p t) (same c t.step)

-- two ways to find answers that come to the same tell the same
pub same_lines : (p : ℕ) (found answers : ℕ → ℕ → Option PlainAnswer)
    → ((c step : ℕ) → found c step ≡ answers c step)
    → (ts : List ToldCall)
    → flat_map (told_line p found) ts ≡ flat_map (told_line p answers) ts
same_lines p found answers same [] = refl
same_lines p found answers same (t ∷ ts) =
    ap (λ xs. xs ++ flat_map (told_line p found) ts) (same_line p found answers same t t.caller)
    ∙ ap (λ xs. told_line p answers t ++ xs) (same_lines p found answers same ts)

-- what is told by numbers and steps is what is told of the session
told_is : (p : ℕ) (answers : ℕ → ℕ → Option PlainAnswer) (session : PlainSession) (names : List (List ℕ))
    (steps : List ℕ)
    → names ≡ names_of (scripts_over p session.phases)
    → steps ≡ replicate (length names) 0
    → flat_map (told_line p answers) (told_scripts names steps (scripts_over p session.phases))
    ≡ flat_map (told_line p answers) (told_on p session)
told_is p answers session names steps named zeros =
    let scripts : List PlainScript = scripts_over p session.phases in
    goes_on p answers names [] scripts steps (stands_first names steps zeros)
    ∙ ap (λ ns. flat_map (told_line p answers) (told_in ns [] scripts)) named

-- .. where that is what was added to a text
pub told_added : {T E : Type 0} (r : Result T E) (p : ℕ) (answers : ℕ → ℕ → Option PlainAnswer) (session : PlainSession)
    (names : List (List ℕ)) (phases : List PlainPhase) (old new : List ℕ)
    → names ≡ names_of (scripts_over p session.phases)
    → phases ≡ session.phases
    → OnOk r (new
    ≡ old ++ flat_map (told_line p answers) (told_scripts names (replicate (length names) 0) (scripts_over p phases)))
    → OnOk r (new ≡ old ++ flat_map (told_line p answers) (told_on p session))
told_added (Ok t) p answers session names phases old new named all told =
    let steps : List ℕ = replicate (length names) 0 in
    told
    ∙ ap (λ ps. old ++ flat_map (told_line p answers) (told_scripts names steps (scripts_over p ps))) all
    ∙ ap (λ xs. old ++ xs) (told_is p answers session names steps named refl)
told_added (Err e) p answers session names phases old new named all told = tt
