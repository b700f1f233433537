-- What callers were answered.
use Rattle.std.proofs.Common.{◌≡◌, ◌≢◌, inl, inr, ℕ, suc, zero, ◌+◌, ◌<◌, ◌==◌, drop, Bool, true, false}
use Rattle.std.proofs.Common.{if◌then◌else◌, List, [], ◌∷◌, ◌++◌, length, map, flat_map, replicate, get_or}
use Rattle.std.proofs.Common.{Vec, Global, refl, sym, ◌∙◌, ap, subst, arith, append_assoc, append-nil}
use Rattle.std.specs.Prelude.{slice_set}
use Rattle.std.proofs.lemmas.Bool.{cases_eq}
use Rattle.std.proofs.lemmas.Bool.Decides.{nat_tests}
use Rattle.std.proofs.lemmas.List.{length-set, length-replicate, get_or-map, map-set}
use Rattle.std.proofs.lemmas.List.{get_or-set_same, get_or-set_other, map-append}
use Rattle.tty_base.specs.Contents.{Contents}
use Rattle.passed_calls.specs.declared.logs.Logged.{Logged}
use Rattle.further_report.specs.Calls.{ToldAnswer, texts_to}
use Rattle.further_report.specs.Printing.{bytes_of, answers_to, noted, all_noted}
use Rattle.further_report.proofs.Lines.{next_item}

same_is : (n : ℕ) → (n == n) ≡ true
same_is n = grind (arith, nat_tests)

other_is : (n m : ℕ) → n ≢ m → (n == m) ≡ false
other_is n m h = grind (arith, nat_tests)

pub noted_length : (answers : List (List (List ℕ))) (told : List ToldAnswer)
    → length (all_noted answers told) ≡ length answers
noted_length answers [] = refl
noted_length answers (t ∷ told) =
    noted_length (noted answers t) told ∙ length-set answers t.caller (answers_to answers t.caller ++ t.text ∷ [])

noted_then : (answers : List (List (List ℕ))) (c : ℕ) (t : ToldAnswer) → c < length answers
    → answers_to (noted answers t) c ≡ answers_to answers c ++ (if t.caller == c then t.text ∷ [] else [])
noted_then answers c t lt = elim (cases_eq t.caller c) [
  | inl same ↦
      let here : answers_to (noted answers t) t.caller ≡ answers_to answers t.caller ++ t.text ∷ [] =
      get_or-set_same answers t.caller (answers_to answers t.caller ++ t.text ∷ []) []
      (subst (λ (m : ℕ). m < length answers) (sym same) lt) in
      subst
      (λ (m : ℕ). answers_to (noted answers t) m ≡ answers_to answers m ++ (if t.caller == m then t.text ∷ [] else []))
      same
      (here
      ∙ ap (λ (b : Bool). answers_to answers t.caller ++ (if b then t.text ∷ [] else [])) (sym (same_is t.caller)))
  | inr other ↦
      get_or-set_other answers t.caller c (answers_to answers t.caller ++ t.text ∷ []) [] (λ same. other (sym same))
      ∙ sym (append-nil (answers_to answers c))
      ∙ ap (λ (b : Bool). answers_to answers c ++ (if b then t.text ∷ [] else [])) (sym (other_is t.caller c other))
]

noted_after : (answers : List (List (List ℕ))) (c : ℕ) (told : List ToldAnswer)
    → c < length answers
    → answers_to (all_noted answers told) c ≡ answers_to answers c ++ texts_to c told
noted_after answers c [] lt = sym (append-nil (answers_to answers c))
noted_after answers c (t ∷ told) lt =
    let more : List (List ℕ) = if t.caller == c then t.text ∷ [] else [] in
    noted_after (noted answers t) c told
    (subst (λ (m : ℕ). c < m) (sym (length-set answers t.caller (answers_to answers t.caller ++ t.text ∷ []))) lt)
    ∙ ap (λ (l : List (List ℕ)). l ++ texts_to c told) (noted_then answers c t lt)
    ∙ append_assoc (answers_to answers c) more (texts_to c told)

none_at : (n c : ℕ) → answers_to (replicate n []) c ≡ []
none_at zero zero = refl
none_at zero (suc c) = refl
none_at (suc n) zero = refl
none_at (suc n) (suc c) = none_at n c

-- what each of so many callers was answered
pub answers_are : (callers c : ℕ) (told : List ToldAnswer)
    → c < callers
    → answers_to (all_noted (replicate callers []) told) c ≡ texts_to c told
answers_are callers c told lt =
    let none : List (List (List ℕ)) = replicate callers [] in
    noted_after none c told (subst (λ (m : ℕ). c < m) (sym (length-replicate callers [])) lt)
    ∙ ap (λ (l : List (List ℕ)). l ++ texts_to c told) (none_at callers c)

pub all_noted_both : (answers : List (List (List ℕ))) (xs ys : List ToldAnswer)
    → all_noted answers (xs ++ ys) ≡ all_noted (all_noted answers xs) ys
all_noted_both answers [] ys = refl
all_noted_both answers (x ∷ xs) ys = all_noted_both (noted answers x) xs ys

-- a caller was answered once more
pub noted_more : (answers : List (Vec (Contents ℕ) Global)) (c : ℕ) (text : Contents ℕ)
    (old new : Vec (Contents ℕ) Global)
    → c < length answers
    → old ≡ get_or answers c old
    → new.items ≡ old.items ++ text ∷ []
    → map (λ (texts : Vec (Contents ℕ) Global). bytes_of texts.items) (slice_set answers c new)
    ≡ noted (map (λ (texts : Vec (Contents ℕ) Global). bytes_of texts.items) answers)
    (record { caller = c; text = text.items })
noted_more answers c text old new lt is more =
    let texts = λ (texts : Vec (Contents ℕ) Global). bytes_of texts.items in
    let here : texts old ≡ answers_to (map texts answers) c =
    ap texts is ∙ sym (get_or-map texts answers c old [] lt) in
    map-set texts answers c new
    ∙ ap (λ (l : List (List ℕ)). slice_set (map texts answers) c l)
    (ap bytes_of more
    ∙ (map-append (λ (b : Contents ℕ). b.items) old.items (text ∷ [])
    ∙ ap (λ (l : List (List ℕ)). l ++ text.items ∷ []) here))

-- what events of a port answer, in order
abbrev told_from : {E : Type 0} → (E → List ToldAnswer) → (p : ℕ) → List (Logged E) → List ToldAnswer
told_from told p log = flat_map (λ l. if l.port == p then told l.event else []) log

-- one event more is noted
pub logged_more : {E : Type 0} (told : E → List ToldAnswer) (p : ℕ) (log : List (Logged E)) (i : ℕ) (x : Logged E)
    → i < length log
    → x ≡ get_or log i x
    → (old new all : List (List (List ℕ)))
    → new ≡ all_noted old (if x.port == p then told x.event else [])
    → all_noted old (told_from told p (drop i log)) ≡ all
    → all_noted new (told_from told p (drop (i + 1) log)) ≡ all
logged_more told p log i x lt at old new all put left =
    ap (λ (answers : List (List (List ℕ))). all_noted answers (told_from told p (drop (i + 1) log))) put
    ∙ sym (all_noted_both old (if x.port == p then told x.event else []) (told_from told p (drop (i + 1) log)))
    ∙ ap (λ (ls : List (Logged _)). all_noted old (told_from told p ls)) (sym (next_item log i x lt at))
    ∙ left
