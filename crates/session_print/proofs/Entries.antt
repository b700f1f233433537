-- The lines of entries, from what their steps share.
use Rattle.std.proofs.Common.{◌≡◌, ℕ, List, [], ◌∷◌, ◌++◌, ◌+◌, ◌%◌, ◌<◌, ◌^◌, codes, cond, decimal, drop}
use Rattle.std.proofs.Common.{flat_map, is_ok, slice_get, Some, Result, OnOk, sym, ap, ◌∙◌, arith, append_assoc}
use Rattle.std.proofs.lemmas.Fmt.{decimal_digit}
use Rattle.std.proofs.lemmas.Option.{get_or_from_slice_get, slice_get_within}
use Rattle.std.proofs.lemmas.Str.{IsUtf8-from_ascii}
use Rattle.std.proofs.lemmas.Str.Ascii.{IsAscii-nil, IsAscii-cons}
use Rattle.std.specs.Str.{IsUtf8}
use Rattle.tty_calls.specs.Plain.{PlainEntry}
use Rattle.session_print.specs.Journals.{entry_line, event_text, who_text}
use Rattle.session_print.specs.Lines.{newline}
use Rattle.session_print.specs.Printing.{entry_front, entry_rest, places_text, tens}
use Rattle.session_print.proofs.Pieces.{next_item, pushed, three}
use Rattle.session_print.proofs.Tens.{spaced, with_last}

-- three digits with a blank after each
abbrev pub short : ℕ → ℕ → ℕ → List ℕ
short digit part generation = (48 + digit) ∷ 32 ∷ (48 + part) ∷ 32 ∷ (48 + generation) ∷ 32 ∷ []

short_is : (digit part generation : ℕ)
    → digit < 10
    → part < 10
    → generation < 10
    → short digit part generation ≡ decimal digit ++ places_text part generation
short_is digit part generation first second third =
    sym
    (ap (λ xs. xs ++ places_text part generation) (decimal_digit digit first)
    ∙ ap (λ xs. (48 + digit) ∷ 32 ∷ (xs ++ 32 ∷ (decimal generation ++ 32 ∷ []))) (decimal_digit part second)
    ∙ ap (λ xs. (48 + digit) ∷ 32 ∷ (48 + part) ∷ 32 ∷ (xs ++ 32 ∷ [])) (decimal_digit generation third))

pub short_is_text : (digit part generation : ℕ)
    → digit < 10
    → part < 10
    → generation < 10
    → IsUtf8 (short digit part generation)
short_is_text digit part generation first second third =
    let last : List ℕ = 32 ∷ [] in
    let late : List ℕ = 32 ∷ (48 + generation) ∷ last in
    IsUtf8-from_ascii (short digit part generation)
    (IsAscii-cons (48 + digit) (32 ∷ (48 + part) ∷ late) (omega (arith, first))
    (IsAscii-cons 32 ((48 + part) ∷ late) (omega arith)
    (IsAscii-cons (48 + part) late (omega (arith, second))
    (IsAscii-cons 32 ((48 + generation) ∷ last) (omega arith)
    (IsAscii-cons (48 + generation) last (omega (arith, third)) (IsAscii-cons 32 [] (omega arith) IsAscii-nil))))))

pub short_pushed : {T E : Type 0} (r : Result T E) (new old : List ℕ) (digit part generation : ℕ)
    → digit < 10
    → part < 10
    → generation < 10
    → new ≡ cond (is_ok r) (old ++ short digit part generation) old
    → OnOk r (new ≡ old ++ (decimal digit ++ places_text part generation))
short_pushed r new old digit part generation first second third put =
    pushed r new old (decimal digit ++ places_text part generation)
    (put ∙ ap (λ xs. cond (is_ok r) (old ++ xs) old) (short_is digit part generation first second third))

-- numbers with a blank after each
pub three_spaced : (first t u v put : List ℕ) (digit part generation : ℕ)
    → digit < 10
    → put ≡ (48 + digit) ∷ codes " "
    → t ≡ first ++ put
    → u ≡ t ++ (decimal part ++ codes " ")
    → v ≡ u ++ (decimal generation ++ codes " ")
    → v ≡ first ++ (decimal digit ++ places_text part generation)
three_spaced first t u v put digit part generation one is begun then last =
    let end : List ℕ = decimal generation ++ codes " " in
    three first t u v (decimal digit ++ codes " ") (decimal part ++ codes " ") end
    (begun ∙ ap (λ xs. first ++ xs) (is ∙ spaced digit one)) then last
    ∙ ap (λ xs. first ++ xs)
    (append_assoc (decimal digit) (codes " ") ((decimal part ++ codes " ") ++ end)
    ∙ ap (λ xs. decimal digit ++ (codes " " ++ xs)) (append_assoc (decimal part) (codes " ") end))

places_before : (part generation : ℕ) (rest : List ℕ)
    → places_text part generation ++ rest
    ≡ codes " " ++ (decimal part ++ (codes " " ++ (decimal generation ++ (codes " " ++ rest))))
places_before part generation rest =
    ap (λ xs. codes " " ++ xs)
    (append_assoc (decimal part) (codes " " ++ (decimal generation ++ codes " ")) rest
    ∙ ap (λ xs. decimal part ++ (codes " " ++ xs)) (append_assoc (decimal generation) (codes " ") rest))

line_is : (names : List (List ℕ)) (e : PlainEntry)
    → e.step < 2 ^ 64
    → entry_front names e.who e.step ++ entry_rest e ≡ entry_line names e
line_is names e small =
    let who : List ℕ = who_text names e.who in
    let digit : List ℕ = decimal (e.step % 10) in
    let end : List ℕ = event_text e.event ++ newline in
    let after : List ℕ = places_text e.part e.generation ++ end in
    append_assoc who (codes " " ++ tens e.step) (digit ++ after)
    ∙ ap (λ xs. who ++ (codes " " ++ xs))
    (sym (append_assoc (tens e.step) digit after) ∙ ap (λ xs. xs ++ after) (with_last e.step small))
    ∙ ap (λ xs. who ++ (codes " " ++ (decimal e.step ++ xs))) (places_before e.part e.generation end)

-- the line of one more entry
pub entry_more : (first text new head : List ℕ) (names : List (List ℕ)) (es : List PlainEntry) (i : ℕ) (e : PlainEntry)
    → slice_get es i ≡ Some e
    → e.step < 2 ^ 64
    → head ≡ entry_front names e.who e.step
    → new ≡ text ++ (head ++ entry_rest e)
    → text ++ flat_map (entry_line names) (drop i es) ≡ first
    → new ++ flat_map (entry_line names) (drop (i + 1) es) ≡ first
entry_more first text new head names es i e at small front put left =
    let rest : List ℕ = flat_map (entry_line names) (drop (i + 1) es) in
    ap (λ xs. xs ++ rest)
    (put ∙ ap (λ xs. text ++ (xs ++ entry_rest e)) front ∙ ap (λ xs. text ++ xs) (line_is names e small))
    ∙ append_assoc text (entry_line names e) rest
    ∙ ap (λ xs. text ++ flat_map (entry_line names) xs)
    (sym (next_item es i e (slice_get_within es i e at) (sym (get_or_from_slice_get es i e e at))))
    ∙ left
