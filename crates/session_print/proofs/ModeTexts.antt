-- The text of modes, word by word.
use Rattle.std.proofs.Common.{◌≡◌, ℕ, suc, Bool, true, false, cond, List, [], ◌∷◌, ◌++◌, ◌+◌, ◌-◌, ◌<◌, codes}
use Rattle.std.proofs.Common.{filter, flat_map, map, refl, sym, ap, ◌∙◌, arith, append_assoc, append-nil}
use Rattle.std.specs.Prelude.{slice_index_or}
use Rattle.std.specs.List.{range_with_len, join_with_byte}
use Rattle.std.proofs.lemmas.List.{map-append}
use Rattle.tty_modes.specs.Names.{flag_names}
use Rattle.tty_modes.specs.Settings.{Settings, has_flag, character}
use Rattle.tty_modes.specs.Word.{modes_text, word_text}
use Rattle.tty_modes.specs.declared.words.Word.{Word}
use Rattle.tty_modes.specs.declared.words.Word.TheVariants.{On, Cc}
use Rattle.session_print.specs.Printing.{flags_text, characters_text}

abbrev flag_text : ℕ → List ℕ
flag_text flag = slice_index_or flag_names flag [] ++ codes " "

chosen : (b : Bool) (f : ℕ) (fs : List ℕ)
    → flat_map flag_text (cond b (f ∷ fs) fs) ≡ cond b (flag_text f) [] ++ flat_map flag_text fs
chosen true f fs = refl
chosen false f fs = refl

-- one flag, and those after it
pub flags_from : (modes : Settings) (flag : ℕ)
    → flag < 29
    → flags_text modes flag (29 - flag)
    ≡ cond (has_flag modes flag) (flag_text flag) [] ++ flags_text modes (flag + 1) (29 - (flag + 1))
flags_from modes flag h =
    let count : 29 - flag ≡ suc (29 - (flag + 1)) = omega arith in
    ap (λ n. flags_text modes flag n) count
    ∙ chosen (has_flag modes flag) flag (filter (has_flag modes) (range_with_len (flag + 1) (29 - (flag + 1))))

pub flag_set : (modes : Settings) (first text new : List ℕ) (flag : ℕ)
    → flag < 29
    → has_flag modes flag ≡ true
    → new ≡ text ++ flag_text flag
    → text ++ flags_text modes flag (29 - flag) ≡ first
    → new ++ flags_text modes (flag + 1) (29 - (flag + 1)) ≡ first
flag_set modes first text new flag h set put left =
    let rest : List ℕ = flags_text modes (flag + 1) (29 - (flag + 1)) in
    ap (λ xs. xs ++ rest) put
    ∙ append_assoc text (flag_text flag) rest
    ∙ ap (λ b. text ++ (cond b (flag_text flag) [] ++ rest)) (sym set)
    ∙ ap (λ xs. text ++ xs) (sym (flags_from modes flag h))
    ∙ left

pub flag_clear : (modes : Settings) (first text new : List ℕ) (flag : ℕ)
    → flag < 29
    → has_flag modes flag ≡ false
    → new ≡ text
    → text ++ flags_text modes flag (29 - flag) ≡ first
    → new ++ flags_text modes (flag + 1) (29 - (flag + 1)) ≡ first
flag_clear modes first text new flag h clear same left =
    let rest : List ℕ = flags_text modes (flag + 1) (29 - (flag + 1)) in
    ap (λ xs. xs ++ rest) same
    ∙ ap (λ b. text ++ (cond b (flag_text flag) [] ++ rest)) (sym clear)
    ∙ ap (λ xs. text ++ xs) (sym (flags_from modes flag h))
    ∙ left

-- one more control character
pub character_more : (modes : Settings) (first text mid new : List ℕ) (place : ℕ)
    → place < 15
    → mid ≡ text ++ codes " "
    → new ≡ mid ++ word_text (Cc place (character modes place))
    → text ++ characters_text modes place (15 - place) ≡ first
    → new ++ characters_text modes (place + 1) (15 - (place + 1)) ≡ first
character_more modes first text mid new place h blank put left =
    let rest : List ℕ = characters_text modes (place + 1) (15 - (place + 1)) in
    let word : List ℕ = word_text (Cc place (character modes place)) in
    let count : 15 - place ≡ suc (15 - (place + 1)) = omega arith in
    ap (λ xs. xs ++ rest) (put ∙ ap (λ xs. xs ++ word) blank)
    ∙ append_assoc (text ++ codes " ") word rest
    ∙ append_assoc text (codes " ") (word ++ rest)
    ∙ ap (λ n. text ++ characters_text modes place n) (sym count)
    ∙ left

join_on : (y : List ℕ) (ys : List (List ℕ)) → join_with_byte 32 (y ∷ ys) ≡ y ++ flat_map (λ word. codes " " ++ word) ys
join_on y [] = sym (append-nil y)
join_on y (z ∷ zs) = ap (λ xs. y ++ (32 ∷ xs)) (join_on z zs)

join_after : (xs : List (List ℕ)) (y : List ℕ) (ys : List (List ℕ))
    → join_with_byte 32 (xs ++ y ∷ ys) ≡ flat_map (λ word. word ++ codes " ") xs ++ join_with_byte 32 (y ∷ ys)
join_after [] y ys = refl
join_after (x ∷ []) y ys =
    let rest : List ℕ = join_with_byte 32 (y ∷ ys) in
    sym (append_assoc x (codes " ") rest) ∙ ap (λ xs. xs ++ rest) (sym (append-nil (x ++ codes " ")))
join_after (x ∷ w ∷ ws) y ys =
    let rest : List ℕ = flat_map (λ word. word ++ codes " ") (w ∷ ws) in
    ap (λ xs. x ++ (32 ∷ xs)) (join_after (w ∷ ws) y ys)
    ∙ sym (append_assoc x (codes " ") (rest ++ join_with_byte 32 (y ∷ ys)))
    ∙ sym (append_assoc (x ++ codes " ") rest (join_with_byte 32 (y ∷ ys)))

flag_words : (flags : List ℕ)
    → flat_map (λ word. word ++ codes " ") (map word_text (map On flags)) ≡ flat_map flag_text flags
flag_words [] = refl
flag_words (f ∷ fs) = ap (λ xs. flag_text f ++ xs) (flag_words fs)

abbrev character_words : Settings → List Word
character_words modes = map (λ place. Cc place (character modes place)) (range_with_len 0 15)

-- the flags that are set, the first control character, and the others
pub modes_text_is : (modes : Settings)
    → flags_text modes 0 29 ++ (word_text (Cc 0 (character modes 0)) ++ characters_text modes 1 14) ≡ modes_text modes
modes_text_is modes =
    let flags : List Word = map On (filter (has_flag modes) (range_with_len 0 29)) in
    let first : List ℕ = word_text (Cc 0 (character modes 0)) in
    let others : List (List ℕ) =
    map word_text (map (λ place. Cc place (character modes place)) (range_with_len 1 14)) in
    ap (λ xs. flags_text modes 0 29 ++ xs) (sym (join_on first others))
    ∙ ap (λ xs. xs ++ join_with_byte 32 (first ∷ others))
    (sym (flag_words (filter (has_flag modes) (range_with_len 0 29))))
    ∙ sym (join_after (map word_text flags) first others)
    ∙ ap (λ words. join_with_byte 32 words) (sym (map-append word_text flags (character_words modes)))
