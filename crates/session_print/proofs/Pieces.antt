-- Texts that grow piece by piece.
use Rattle.std.proofs.Common.{◌≡◌, ℕ, true, nat_eq, nat_lt, suc, List, [], ◌∷◌, ◌++◌, Option, None}
use Rattle.std.proofs.Common.{Some, Result, Ok, Err, OnOk, is_ok, cond, ◌+◌, ◌*◌, ◌/◌, ◌%◌, ◌<◌, ◌≤◌}
use Rattle.std.proofs.Common.{length, take, drop, get_or, set, map, option_map, unwrap_or, refl, sym}
use Rattle.std.proofs.Common.{ap, ◌∙◌, arith, append_assoc, append-nil, drop-cons, add-one}
use denote.Ref.{Bor}
use Rattle.std.proofs.lemmas.Bool.{and_parts, eqb-true, ltb-true}
use Rattle.std.proofs.lemmas.List.{nil_from_length, length-drop, length-set, length-take-le, take-take}
use Rattle.std.proofs.lemmas.List.{take-append-le, take_all, take-append-drop, take_more, take_more_set}
use Rattle.std.proofs.lemmas.Str.{IsUtf8-from_ascii}
use Rattle.std.proofs.lemmas.Str.Ascii.{IsAscii-nil, IsAscii-cons}
use Rattle.std.specs.List.{list_all}
use Rattle.std.specs.Str.{IsAscii, IsUtf8}
use Rattle.hex.proofs.HexLemmas.{IsAscii-encode_with, length-encode_with}
use Rattle.hex.specs.Hex.{encode_lower, encode_with, lower_digits}
use Rattle.tty_calls.specs.declared.answers.PortEnd.{PortEnd}
use Rattle.tty_calls.specs.declared.journals.PortRun.{PortRun}
use Rattle.tty_calls.specs.Sessions.{PlainSession}
use Rattle.session_print.specs.Ends.{end_of}
use Rattle.session_print.specs.Lines.{port_text}
use Rattle.session_print.specs.Report.{ports_from}

-- a push that succeeded
pub pushed : {T E : Type 0} (r : Result T E) (new old x : List ℕ)
    → new ≡ cond (is_ok r) (old ++ x) old
    → OnOk r (new ≡ old ++ x)
pushed (Ok t) new old x e = e
pushed (Err e) new old x h = tt

-- a push that succeeded, after another, of two parts of a text
pub two_pushed : {T E : Type 0} (r : Result T E) (new mid old a b c : List ℕ)
    → mid ≡ old ++ a
    → a ++ b ≡ c
    → new ≡ cond (is_ok r) (mid ++ b) mid
    → OnOk r (new ≡ old ++ c)
two_pushed (Ok t) new mid old a b c first whole second =
    second ∙ ap (λ xs. xs ++ b) first ∙ append_assoc old a b ∙ ap (λ xs. old ++ xs) whole
two_pushed (Err e) new mid old a b c first whole second = tt

-- three pieces, one after the other
pub three : (first t u v a b c : List ℕ) → t ≡ first ++ a → u ≡ t ++ b → v ≡ u ++ c → v ≡ first ++ (a ++ (b ++ c))
three first t u v a b c put then last =
    last
    ∙ ap (λ xs. xs ++ c) (then ∙ ap (λ xs. xs ++ b) put)
    ∙ append_assoc (first ++ a) b c
    ∙ append_assoc first a (b ++ c)

-- nothing is left
pub drop_all : {X : Type 0} (xs : List X) (i : ℕ) → length xs ≤ i → drop i xs ≡ []
drop_all xs i h = nil_from_length (drop i xs) (omega (arith, length-drop i xs))

pub all_ascii : (bytes : List ℕ) → list_all (λ byte. nat_lt byte 128) bytes ≡ true → IsAscii bytes
all_ascii [] h = IsAscii-nil
all_ascii (byte ∷ bytes) h =
    let parts = and_parts (nat_lt byte 128) (list_all (λ b. nat_lt b 128) bytes) h in
    IsAscii-cons byte bytes (ltb-true byte 128 parts.0) (all_ascii bytes parts.1)

pub digits_are_text : (bytes : List ℕ) → IsUtf8 (encode_lower bytes)
digits_are_text bytes = IsUtf8-from_ascii _ (IsAscii-encode_with lower_digits bytes (all_ascii lower_digits refl))

pub no_digits : [] ≡ encode_lower []
unfolding encode_with
no_digits = refl

pub byte_digits : (byte high low : ℕ)
    → high ≡ get_or lower_digits (byte / 16) 0
    → low ≡ get_or lower_digits (byte % 16) 0
    → high ∷ low ∷ [] ≡ encode_lower (byte ∷ [])
unfolding encode_with
byte_digits byte high low first second =
    ap (λ h. h ∷ low ∷ []) first ∙ ap (λ l. get_or lower_digits (byte / 16) 0 ∷ l ∷ []) second

encode_append : (xs ys : List ℕ) → encode_lower (xs ++ ys) ≡ encode_lower xs ++ encode_lower ys
unfolding encode_with
encode_append [] ys = refl
encode_append (b ∷ xs) ys =
    ap (λ zs. get_or lower_digits (b / 16) 0 ∷ get_or lower_digits (b % 16) 0 ∷ zs) (encode_append xs ys)

-- the digits of the first of some bytes begin those of all
pub first_of_digits : (bytes digits : List ℕ) (n m : ℕ)
    → n ≤ m
    → m ≤ length bytes
    → take (2 * m) digits ≡ encode_lower (take m bytes)
    → take (2 * n) digits ≡ encode_lower (take n bytes)
first_of_digits bytes digits n m less within all =
    let front : List ℕ = encode_lower (take n bytes) in
    let rest : List ℕ = encode_lower (drop n (take m bytes)) in
    let len : length front ≡ 2 * n =
    length-encode_with lower_digits (take n bytes)
    ∙ ap (λ k. 2 * k) (length-take-le n bytes (omega (arith, less, within))) in
    sym (take-take (2 * n) (2 * m) digits (omega (arith, less)))
    ∙ ap (take (2 * n))
    (all
    ∙ ap encode_lower (sym (take-append-drop n (take m bytes)))
    ∙ encode_append (take n (take m bytes)) (drop n (take m bytes)))
    ∙ ap (λ xs. take (2 * n) (encode_lower xs ++ rest)) (take-take n m bytes less)
    ∙ take-append-le (2 * n) front rest (omega (arith, len))
    ∙ take_all (2 * n) front (omega (arith, len))

-- the digits of a byte more
pub digits_more : (bytes digits : List ℕ) (place high low : ℕ)
    → place < length bytes
    → 2 * place + 1 < length digits
    → high ≡ get_or lower_digits (get_or bytes place 0 / 16) 0
    → low ≡ get_or lower_digits (get_or bytes place 0 % 16) 0
    → take (2 * place) digits ≡ encode_lower (take place bytes)
    → take (2 * (place + 1)) (set (set digits (2 * place) high) (2 * place + 1) low)
    ≡ encode_lower (take (place + 1) bytes)
digits_more bytes digits place high low within room first second before =
    let byte = get_or bytes place 0 in
    let once = set digits (2 * place) high in
    let next : 2 * (place + 1) ≡ 2 * place + 1 + 1 = omega arith in
    let pair : high ∷ low ∷ [] ≡ encode_lower (byte ∷ []) = byte_digits byte high low first second in
    ap (λ n. take n (set once (2 * place + 1) low)) next
    ∙ take_more_set once (2 * place + 1) low (omega (arith, room, length-set digits (2 * place) high))
    ∙ ap (λ xs. xs ++ low ∷ [])
    (take_more_set digits (2 * place) high (omega (arith, room)) ∙ ap (λ xs. xs ++ high ∷ []) before)
    ∙ append_assoc (encode_lower (take place bytes)) (high ∷ []) (low ∷ [])
    ∙ ap (λ xs. encode_lower (take place bytes) ++ xs) pair
    ∙ sym (encode_append (take place bytes) (byte ∷ []))
    ∙ ap encode_lower (sym (take_more bytes place 0 within))

-- so many more bytes in hexadecimal
pub hex_more : (first text new bytes piece after : List ℕ) (n : ℕ)
    → piece ≡ take n bytes
    → after ≡ drop n bytes
    → new ≡ text ++ encode_lower piece
    → text ++ encode_lower bytes ≡ first
    → new ++ encode_lower after ≡ first
hex_more first text new bytes piece after n front back put left =
    ap (λ xs. xs ++ encode_lower after) put
    ∙ append_assoc text (encode_lower piece) (encode_lower after)
    ∙ ap (λ xs. text ++ xs) (sym (encode_append piece after))
    ∙ ap (λ xs. text ++ encode_lower (xs ++ after)) front
    ∙ ap (λ xs. text ++ encode_lower (take n bytes ++ xs)) back
    ∙ ap (λ xs. text ++ encode_lower xs) (take-append-drop n bytes)
    ∙ left

pub hex_all : (first text bytes : List ℕ)
    → nat_eq (length bytes) 0 ≡ true
    → text ++ encode_lower bytes ≡ first
    → text ≡ first
unfolding encode_with
hex_all first text bytes h left =
    sym (append-nil text) ∙ ap (λ bs. text ++ encode_lower bs) (sym (nil_from_length bytes (eqb-true _ _ h))) ∙ left

-- what a reference in an `Option` points to, or else another
pub pointed : (o : Option (Bor (List ℕ))) (d r : Bor (List ℕ)) (x : Option (List ℕ))
    → r ≡ unwrap_or o d
    → option_map (λ t. t.now) o ≡ x
    → r.now ≡ unwrap_or x d.now
pointed None d r x e h = ap (λ t. t.now) e ∙ ap (λ v. unwrap_or v d.now) h
pointed (Some t) d r x e h = ap (λ v. v.now) e ∙ ap (λ v. unwrap_or v d.now) h

-- the item at a place, and those after it
pub next_item : {X : Type 0} (xs : List X) (i : ℕ) (x : X)
    → i < length xs
    → x ≡ get_or xs i x
    → drop i xs ≡ x ∷ drop (i + 1) xs
next_item xs i x h at =
    drop-cons xs i x h ∙ ap (λ y. y ∷ drop (suc i) xs) (sym at) ∙ ap (λ n. x ∷ drop n xs) (sym (add-one i))

no_ends : (p : ℕ) (session : PlainSession) (runs : List PortRun) → ports_from p session runs [] ≡ []
no_ends p session [] = refl
no_ends p session (run ∷ runs) = refl

-- one more port, and a port without an end
pub port_more : (session : PlainSession) (first text new : List ℕ) (runs : List PortRun) (ends : List PortEnd) (i : ℕ)
    (run : PortRun) (end : PortEnd)
    → i < length runs
    → run ≡ get_or runs i run
    → i < length ends
    → end ≡ get_or ends i end
    → new ≡ text ++ port_text session i run (end_of end)
    → text ++ ports_from i session (drop i runs) (map end_of (drop i ends)) ≡ first
    → new ++ ports_from (i + 1) session (drop (i + 1) runs) (map end_of (drop (i + 1) ends)) ≡ first
port_more session first text new runs ends i run end h at more there put left =
    let rest : List ℕ = ports_from (i + 1) session (drop (i + 1) runs) (map end_of (drop (i + 1) ends)) in
    ap (λ xs. xs ++ rest) put
    ∙ append_assoc text (port_text session i run (end_of end)) rest
    ∙ ap (λ rs. text ++ ports_from i session rs (map end_of (end ∷ drop (i + 1) ends)))
    (sym (next_item runs i run h at))
    ∙ ap (λ es. text ++ ports_from i session (drop i runs) (map end_of es)) (sym (next_item ends i end more there))
    ∙ left

pub port_over : (session : PlainSession) (first text new : List ℕ) (runs : List PortRun) (ends : List PortEnd) (i : ℕ)
    → length ends ≤ i
    → new ≡ text
    → text ++ ports_from i session (drop i runs) (map end_of (drop i ends)) ≡ first
    → new ++ ports_from (i + 1) session (drop (i + 1) runs) (map end_of (drop (i + 1) ends)) ≡ first
port_over session first text new runs ends i over same left =
    let none : drop i ends ≡ [] = drop_all ends i over in
    let later : drop (i + 1) ends ≡ [] = drop_all ends (i + 1) (omega arith) in
    ap (λ xs. xs ++ ports_from (i + 1) session (drop (i + 1) runs) (map end_of (drop (i + 1) ends))) same
    ∙ ap (λ es. text ++ ports_from (i + 1) session (drop (i + 1) runs) (map end_of es)) later
    ∙ ap (λ xs. text ++ xs) (no_ends (i + 1) session (drop (i + 1) runs) ∙ sym (no_ends i session (drop i runs)))
    ∙ ap (λ es. text ++ ports_from i session (drop i runs) (map end_of es)) (sym none)
    ∙ left
