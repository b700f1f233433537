-- Each entry is read back from the line that it is printed as.
use Rattle.std.proofs.Common.{◌≡◌, inl, inr, ℕ, ◌+◌, ◌*◌, ◌/◌, ◌%◌, ◌^◌, ◌<◌, ◌≤◌, ◌==◌, ◌&&◌, nat_le, Bool}
use Rattle.std.proofs.Common.{true, false, cond, List, [], ◌∷◌, ◌++◌, Some, None, Ok, length, codes, decimal}
use Rattle.std.proofs.Common.{flat_map, refl, ap, sym, subst, ◌∙◌, arith, append_assoc, append-nil, not, eq-eqb}
use Rattle.std.specs.Prelude.{slice_index, slice_index_or, option_map}
use Rattle.std.specs.Str.{bytes_eq}
use Rattle.std.specs.Option.{option_or}
use Rattle.std.specs.List.{list_all}
use Rattle.std.proofs.lemmas.Bool.{and_parts, false≢true}
use Rattle.std.proofs.lemmas.Slice.Eq.{bytes_eq-Decides}
use Rattle.std.proofs.lemmas.Bool.Decides.{nat_tests}
use Rattle.hex.specs.Hex.{hex_digit_value, lower_digits, encode_with, encode_lower, IsBytes}
use Rattle.hex.proofs.HexLemmas.{IsDigits-lower_digits}
use Rattle.tty_base.specs.declared.characters.Flag.{Flag}
use Rattle.tty_base.specs.declared.characters.Flag.TheVariants as flags
use Rattle.tty_base.specs.declared.characters.Flagged.{Flagged}
use Rattle.tty_base.specs.declared.counters.Errno.{Errno}
use Rattle.tty_base.specs.declared.counters.Errno.TheVariants.{EBADF, EEXIST, EBUSY, EAGAIN}
use Rattle.tty_base.specs.declared.counters.Errno.TheVariants.{EIO, EINVAL, ENOTTY, EMSGSIZE}
use Rattle.tty_calls.specs.declared.journals.Who.{Who}
use Rattle.tty_calls.specs.declared.journals.Who.TheVariants.{Caller, Flusher, Line as Liner, Clock, Session}
use Rattle.tty_calls.specs.Plain.{PlainAnswer, done, count_is, got, number_is, modes_are, counts_are}
use Rattle.tty_calls.specs.Plain.{refused, idle, PlainEvent, answered, parted, waited, flushed, ticked}
use Rattle.tty_calls.specs.Plain.{line_ended, clock_ended, caller_ended, phase_ended, hung_up, PlainEntry}
use Rattle.tty_calls.specs.Sessions.{number_in}
use Rattle.text_lines.specs.Lines.{words_of, first_is, says}
use Rattle.text_lines.specs.Values.{is_name, is_name_byte, is_lowercase, begins_name}
use Rattle.session_text.specs.declared.faults.Reason.TheVariants.{Word, Hex}
use Rattle.session_print.specs.Words.{answer_text, errno_name, got_text}
use Rattle.session_print.specs.Lines.{newline}
use Rattle.session_print.specs.Journals.{flag_letter, char_text, chars_text}
use Rattle.session_print.specs.Journals.{beside_text, event_text, who_text, entry_line}
use Rattle.check_text.specs.declared.kinds.AnswerKind.{AnswerKind}
use Rattle.check_text.specs.declared.kinds.AnswerKind.TheVariants as kind
use Rattle.check_text.specs.Fields.{Read, in_front, or_else, number_in as number_first, at_end, ◌>>=◌}
use Rattle.check_text.specs.Callers.{PlainCallers, caller_named}
use Rattle.check_text.specs.Characters.{char_with, one_more, chars_from, chars_of}
use Rattle.check_text.specs.Answers.{answer_words, words_after, answer_as, answer_in}
use Rattle.check_text.specs.Entries.{makers, maker_of, who_of, who_in, call_of_entry, ends_in_chars}
use Rattle.check_text.specs.Entries.{ends_in_number, with_dropped, event_in, entry_in}
use Rattle.check_text.specs.Printed.{IsAnswerTo, AreBytes, IsEventOf, IsWhoOf, IsEntryOf}
use Rattle.check_text.specs.Grammar.{most}
use Rattle.check_text.proofs.Rows.{OwnNames, own_number}
use Rattle.check_text.proofs.Lines.{then_read, number_back}
use Rattle.check_text.proofs.Splitting.{Plain, is_plain, Inline, plain_append, plain_inline}
use Rattle.check_text.proofs.Splitting.{inline_append, words_append, one_word, word_then}
use Rattle.check_text.proofs.Answering.{Stops, ReadsBack, no_choice, other_text, decimal_plain, one_decimal}
use Rattle.check_text.proofs.Answering.{decimal_then, count_back, number_back as number_answer_back}
use Rattle.check_text.proofs.Answering.{got_back, errno_back, hex_plain, digit_plain}
use Rattle.check_text.proofs.AnsweringModes.{modes_back, counts_back, modes_inline, counts_inline}
use Rattle.check_text.proofs.Truths.{next_above, lt-ltb}

abbrev Line : Type 0
Line = List (List ℕ)

both : (a b : Bool) → a ≡ true → b ≡ true → (a && b) ≡ true
both true true p q = refl
both true false p q = cc
both false b p q = cc

-- ---- answers

answer_back : (kind : AnswerKind) (answer : PlainAnswer) → IsAnswerTo kind answer → ReadsBack kind answer
answer_back kind (refused errno) h = errno_back kind errno
answer_back kind idle h = λ rest stops. refl
answer_back kind.Done done h = λ rest stops. refl
answer_back kind.Count (count_is n) h = count_back n h
answer_back kind.Got (got bytes) h = got_back bytes h.0 h.1
answer_back kind.Number (number_is n) h = number_answer_back n h
answer_back kind.Modes (modes_are modes) h = modes_back modes h
answer_back kind.Counts (counts_are counts) h = counts_back counts h
answer_back kind answer h = absurd h

errno_inline : (errno : Errno) → Inline (errno_name errno)
errno_inline EBADF = refl
errno_inline EEXIST = refl
errno_inline EBUSY = refl
errno_inline EAGAIN = refl
errno_inline EIO = refl
errno_inline EINVAL = refl
errno_inline ENOTTY = refl
errno_inline EMSGSIZE = refl

decimal_inline : (n : ℕ) → n < 2 ^ 64 → Inline (decimal n)
decimal_inline n small = plain_inline (decimal n) (decimal_plain n small)

got_inline : (bytes : List ℕ) → IsBytes bytes → length bytes < 2 ^ 64 → Inline (got_text bytes)
got_inline [] are few = refl
got_inline (byte ∷ bytes) are few =
    inline_append (decimal (length (byte ∷ bytes))) (codes " " ++ encode_lower (byte ∷ bytes))
    (decimal_inline (length (byte ∷ bytes)) few)
    (inline_append (codes " ") (encode_lower (byte ∷ bytes)) refl
    (plain_inline (encode_lower (byte ∷ bytes)) (hex_plain (byte ∷ bytes) are)))

answer_inline : (kind : AnswerKind) (answer : PlainAnswer) → IsAnswerTo kind answer → Inline (answer_text answer)
answer_inline kind (refused errno) h = errno_inline errno
answer_inline kind idle h = refl
answer_inline kind.Done done h = refl
answer_inline kind.Count (count_is n) h = decimal_inline n (omega (arith, h))
answer_inline kind.Got (got bytes) h = got_inline bytes h.0 h.1
answer_inline kind.Number (number_is n) h = decimal_inline n (omega (arith, h))
answer_inline kind.Modes (modes_are modes) h = modes_inline modes h
answer_inline kind.Counts (counts_are counts) h = counts_inline counts h
answer_inline kind answer h = absurd h

own_words : (printed rest : Line) → words_after printed (printed ++ rest) ≡ Some rest
own_words [] rest = refl
own_words (word ∷ printed) rest =
    ap (λ b. cond b (words_after printed (printed ++ rest)) None) ((bytes_eq-Decides word word).1 refl)
    ∙ own_words printed rest

answer_read : (kind : AnswerKind) (answer : PlainAnswer) (rest : Line)
    → IsAnswerTo kind answer
    → Stops rest
    → answer_in kind (answer_words answer ++ rest) ≡ Ok (in_front rest answer)
answer_read kind answer rest h stops =
    ap (λ a. answer_as a (answer_words answer ++ rest)) (answer_back kind answer h rest stops)
    ∙ ap (λ o. or_else Word o >>= λ rest. Ok (in_front rest answer)) (own_words (answer_words answer) rest)

-- ---- characters

letters : (flag : Flag) (high low : ℕ) (rest : List ℕ)
    → chars_from ((flag_letter flag ++ high ∷ low ∷ []) ++ rest)
    ≡ one_more (char_with (Some flag) (hex_digit_value high) (hex_digit_value low)) (chars_from rest)
letters flags.Normal high low rest = refl
letters flags.Break high low rest = refl
letters flags.Parity high low rest = refl
letters flags.Frame high low rest = refl
letters flags.Overrun high low rest = refl

char_read : (c : Flagged) (rest : List ℕ)
    → c.byte < 256
    → chars_from (char_text c ++ rest) ≡ one_more (Some c) (chars_from rest)
unfolding encode_with
char_read c rest small =
    let high = IsDigits-lower_digits (c.byte / 16) (omega (arith, small)) in
    let low = IsDigits-lower_digits (c.byte % 16) (omega (arith, small)) in
    let whole : c.byte / 16 * 16 + c.byte % 16 ≡ c.byte = omega arith in
    letters c.flag (slice_index lower_digits (c.byte / 16)) (slice_index lower_digits (c.byte % 16)) rest
    ∙ ap
    (λ h.
    one_more (char_with (Some c.flag) h (hex_digit_value (slice_index lower_digits (c.byte % 16)))) (chars_from rest))
    high
    ∙ ap (λ l. one_more (char_with (Some c.flag) (Some (c.byte / 16)) l) (chars_from rest)) low
    ∙ ap (λ (n : ℕ). let made : Flagged = record { byte = n; flag = c.flag } in one_more (Some made) (chars_from rest))
    whole

chars_back : (chars : List Flagged) → AreBytes chars → chars_from (flat_map char_text chars) ≡ Some chars
chars_back [] are = refl
chars_back (c ∷ chars) are =
    char_read c (flat_map char_text chars) are.0 ∙ ap (one_more (Some c)) (chars_back chars are.1)

letter_plain : (flag : Flag) → Plain (flag_letter flag)
letter_plain flags.Normal = refl
letter_plain flags.Break = refl
letter_plain flags.Parity = refl
letter_plain flags.Frame = refl
letter_plain flags.Overrun = refl

char_plain : (c : Flagged) → c.byte < 256 → Plain (char_text c)
unfolding encode_with
char_plain c small =
    plain_append (flag_letter c.flag) (encode_lower (c.byte ∷ [])) (letter_plain c.flag)
    (both (is_plain (slice_index lower_digits (c.byte / 16)))
    (is_plain (slice_index lower_digits (c.byte % 16)) && true) (digit_plain (c.byte / 16) (omega (arith, small)))
    (both (is_plain (slice_index lower_digits (c.byte % 16))) true (digit_plain (c.byte % 16) (omega (arith, small)))
    refl))

chars_plain : (chars : List Flagged) → AreBytes chars → Plain (flat_map char_text chars)
chars_plain [] are = refl
chars_plain (c ∷ chars) are =
    plain_append (char_text c) (flat_map char_text chars) (char_plain c are.0) (chars_plain chars are.1)

letter_some : (flag : Flag) (rest : List ℕ) → 0 < length (flag_letter flag ++ rest)
letter_some flags.Normal rest = omega arith
letter_some flags.Break rest = omega arith
letter_some flags.Parity rest = omega arith
letter_some flags.Frame rest = omega arith
letter_some flags.Overrun rest = omega arith

first_differs : (a b : ℕ) (xs ys : List ℕ) → (a == b) ≡ false → bytes_eq (a ∷ xs) (b ∷ ys) ≡ false
first_differs a b xs ys differ =
    other_text (a ∷ xs) (b ∷ ys)
    (λ e. let same : a ≡ b = ap (λ (l : List ℕ). slice_index l 0) e in false≢true (sym differ ∙ eq-eqb a b same))

no_dash : (flag : Flag) (rest : List ℕ) → bytes_eq (flag_letter flag ++ rest) (codes "-") ≡ false
no_dash flags.Normal rest = first_differs 110 45 rest [] refl
no_dash flags.Break rest = first_differs 98 45 rest [] refl
no_dash flags.Parity rest = first_differs 112 45 rest [] refl
no_dash flags.Frame rest = first_differs 102 45 rest [] refl
no_dash flags.Overrun rest = first_differs 111 45 rest [] refl

record CharsPrinted (text : List ℕ) (chars : List Flagged) : Type 0 where
  some : 0 < length text
  plain : Plain text
  read : chars_of text ≡ Some chars

each_printed : (c : Flagged) (chars : List Flagged)
    → AreBytes (c ∷ chars)
    → CharsPrinted (flat_map char_text (c ∷ chars)) (c ∷ chars)
each_printed c chars are =
    let rest = encode_lower (c.byte ∷ []) ++ flat_map char_text chars in
    let text = append_assoc (flag_letter c.flag) (encode_lower (c.byte ∷ [])) (flat_map char_text chars) in
    record {
      some = subst (λ (xs : List ℕ). 0 < length xs) (sym text) (letter_some c.flag rest);
      plain = chars_plain (c ∷ chars) are;
      read =
          ap (λ b. cond b (Some []) (chars_from (flat_map char_text (c ∷ chars))))
          (ap (λ xs. bytes_eq xs (codes "-")) text ∙ no_dash c.flag rest)
          ∙ chars_back (c ∷ chars) are;
    }

chars_printed : (chars : List Flagged) → AreBytes chars → CharsPrinted (chars_text chars) chars
chars_printed [] are = record { some = omega arith; plain = refl; read = refl }
chars_printed (c ∷ chars) are =
    let text : flat_map char_text (c ∷ chars) ≡ chars_text (c ∷ chars) =
    sym (ap (λ b. cond b (codes "-") (flat_map char_text (c ∷ chars))) (next_above (length chars))) in
    subst (λ (xs : List ℕ). CharsPrinted xs (c ∷ chars)) text (each_printed c chars are)

-- ---- events

record EventPrinted (callers : PlainCallers) (who : Who) (step : ℕ) (event : PlainEvent) : Type 0 where
  inline : Inline (event_text event)
  read : event_in callers who step (words_of (event_text event)) ≡ Ok event

call_then : {X : Type 0} (read : Read AnswerKind) (kind : AnswerKind) (later : AnswerKind → Read X) (x : X)
    → read ≡ Ok kind
    → later kind ≡ Ok x
    → (read >>= later) ≡ Ok x
call_then read kind later x here there = then_read read later kind x here there

number_end : (event : ℕ → PlainEvent) (n : ℕ) → n ≤ most → ends_in_number event (decimal n ∷ []) ≡ Ok (event n)
number_end event n small = then_read (number_first (decimal n ∷ [])) (λ n. at_end (event n.value) n.rest)
    (in_front [] n) (event n) (number_back n [] small) refl

chars_end : (event : List Flagged → PlainEvent) (text : List ℕ) (chars : List Flagged)
    → chars_of text ≡ Some chars
    → ends_in_chars event (text ∷ []) ≡ Ok (event chars)
chars_end event text chars read = ap
    (λ o. (or_else Hex o >>= λ chars. Ok (in_front [] chars)) >>= λ chars. at_end (event chars.value) chars.rest) read

number_words : (name : List ℕ) (n : ℕ)
    → 0 < length name
    → Plain name
    → n ≤ most
    → words_of (name ++ 32 ∷ decimal n) ≡ name ∷ decimal n ∷ []
number_words name n some plain small =
    word_then name (decimal n) some plain ∙ ap (λ (ws : Line). name ∷ ws) (one_decimal n (omega (arith, small)))

chars_words : (name text : List ℕ) (chars : List Flagged)
    → 0 < length name
    → Plain name
    → CharsPrinted text chars
    → words_of (name ++ 32 ∷ text) ≡ name ∷ text ∷ []
chars_words name text chars some plain printed =
    word_then name text some plain ∙ ap (λ (ws : Line). name ∷ ws) (one_word text printed.some printed.plain)

record BesidePrinted (answer : PlainAnswer) (dropped : List Flagged) : Type 0 where
  rest : Line
  stops : Stops rest
  inline : Inline (beside_text dropped)
  words : words_of (answer_text answer ++ beside_text dropped) ≡ answer_words answer ++ rest
  read : with_dropped answer rest ≡ Ok (answered answer dropped)

beside_printed : (answer : PlainAnswer) (dropped : List Flagged) → AreBytes dropped → BesidePrinted answer dropped
beside_printed answer [] are = record {
  rest = [];
  stops = inl refl;
  inline = refl;
  words = ap words_of (append-nil (answer_text answer)) ∙ sym (append-nil (answer_words answer));
  read = refl;
}
beside_printed answer (c ∷ dropped) are =
    let chars = flat_map char_text (c ∷ dropped) in
    let printed = each_printed c dropped are in
    let text : beside_text (c ∷ dropped) ≡ codes " drop " ++ chars =
    ap (λ b. cond b [] (codes " drop " ++ chars)) (next_above (length dropped)) in
    record {
      rest = codes "drop" ∷ chars ∷ [];
      stops = inr (chars, refl);
      inline = subst Inline (sym text) (inline_append (codes " drop ") chars refl (plain_inline chars printed.plain));
      words =
          ap (λ xs. words_of (answer_text answer ++ xs)) text
          ∙ words_append (answer_text answer) (codes "drop" ++ 32 ∷ chars)
          ∙ ap (λ (ws : Line). answer_words answer ++ ws)
          (chars_words (codes "drop") chars (c ∷ dropped) (omega arith) refl printed);
      read = chars_end (answered answer) chars (c ∷ dropped) printed.read;
    }

event_printed : (callers : PlainCallers) (who : Who) (step : ℕ) (event : PlainEvent)
    → IsEventOf callers who step event
    → EventPrinted callers who step event
event_printed callers who step (answered answer dropped) h =
    let kind = h.0.0 in
    let beside = beside_printed answer dropped h.1 in
    let words : words_of (codes "answer " ++ (answer_text answer ++ beside_text dropped))
    ≡ codes "answer" ∷ (answer_words answer ++ beside.rest) =
    word_then (codes "answer") (answer_text answer ++ beside_text dropped) (omega arith) refl
    ∙ ap (λ (ws : Line). codes "answer" ∷ ws) beside.words in
    record {
      inline = inline_append (codes "answer ") (answer_text answer ++ beside_text dropped) refl
          (inline_append (answer_text answer) (beside_text dropped) (answer_inline kind answer h.0.2) beside.inline);
      read = ap (event_in callers who step) words
          ∙ call_then (call_of_entry callers who step) kind
          (λ kind.
          answer_in kind (answer_words answer ++ beside.rest) >>= λ answer. with_dropped answer.value answer.rest)
          (answered answer dropped) h.0.1
          (then_read (answer_in kind (answer_words answer ++ beside.rest))
          (λ answer. with_dropped answer.value answer.rest) (in_front beside.rest answer) (answered answer dropped)
          (answer_read kind answer beside.rest h.0.2 beside.stops) beside.read);
    }
event_printed callers who step (parted taken) h = record {
  inline = inline_append (codes "part ") (decimal taken) refl (decimal_inline taken (omega (arith, h.1)));
  read = ap (event_in callers who step) (number_words (codes "part") taken (omega arith) refl h.1)
      ∙ call_then (call_of_entry callers who step) h.0.0 (λ kind. ends_in_number parted (decimal taken ∷ []))
      (parted taken) h.0.1 (number_end parted taken h.1);
}
event_printed callers who step waited h = record {
  inline = refl;
  read = call_then (call_of_entry callers who step) h.0 (λ kind. at_end waited []) waited h.1 refl;
}
event_printed callers who step (flushed chars) h =
    let printed = chars_printed chars h in record {
      inline = inline_append (codes "flush ") (chars_text chars) refl (plain_inline (chars_text chars) printed.plain);
      read =
          ap (event_in callers who step)
          (chars_words (codes "flush") (chars_text chars) chars (omega arith) refl printed)
          ∙ chars_end flushed (chars_text chars) chars printed.read;
    }
event_printed callers who step ticked h = record { inline = refl; read = refl }
event_printed callers who step (line_ended sent) h = record {
  inline = inline_append (codes "line_end ") (decimal sent) refl (decimal_inline sent (omega (arith, h)));
  read =
      ap (event_in callers who step) (number_words (codes "line_end") sent (omega arith) refl h)
      ∙ number_end line_ended sent h;
}
event_printed callers who step clock_ended h = record { inline = refl; read = refl }
event_printed callers who step caller_ended h = record { inline = refl; read = refl }
event_printed callers who step phase_ended h = record { inline = refl; read = refl }
event_printed callers who step (hung_up dropped) h =
    let printed = chars_printed dropped h in record {
      inline =
          inline_append (codes "hangup ") (chars_text dropped) refl (plain_inline (chars_text dropped) printed.plain);
      read =
          ap (event_in callers who step)
          (chars_words (codes "hangup") (chars_text dropped) dropped (omega arith) refl printed)
          ∙ chars_end hung_up (chars_text dropped) dropped printed.read;
    }

-- ---- who made an entry

name_byte_above : (byte : ℕ) → is_name_byte byte ≡ true → 32 < byte
name_byte_above byte h = grind (arith)

name_plain : (name : List ℕ) → list_all is_name_byte name ≡ true → Plain name
name_plain [] p = refl
name_plain (byte ∷ name) p =
    let parts = and_parts (is_name_byte byte) (list_all is_name_byte name) p in
    both (is_plain byte) (list_all is_plain name) (lt-ltb 32 byte (name_byte_above byte parts.0))
    (name_plain name parts.1)

record WhoPrinted (callers : PlainCallers) (text : List ℕ) (who : Who) : Type 0 where
  some : 0 < length text
  plain : Plain text
  tells : first_is 35 text ≡ false
  read : who_of callers.names text ≡ Some who

no_sign : (byte : ℕ) → is_lowercase byte ≡ true → (byte == 35) ≡ false
no_sign byte h = grind (arith, nat_tests)

begins_some : (name : List ℕ) → begins_name name ≡ true → (0 < length name) × (first_is 35 name ≡ false)
begins_some [] h = absurd (let e : false ≡ true = h in cc)
begins_some (byte ∷ name) h = (omega arith, no_sign byte h)

no_maker : (name : List ℕ) → is_name name ≡ true → maker_of name ≡ None
no_maker name h =
    let no = λ (text : List ℕ) (other : is_name text ≡ false).
    other_text name text (λ same. let clash = sym h ∙ ap is_name same ∙ other in cc) in
    no_choice (who_text []) makers name
    (no (codes "*flush") refl, (no (codes "*line") refl, (no (codes "*clock") refl, (no (codes "*session") refl, tt))))

caller_printed : (callers : PlainCallers) (name : List ℕ) (caller : ℕ)
    → is_name name ≡ true
    → number_in callers.names name ≡ Some caller
    → WhoPrinted callers name (Caller caller)
caller_printed callers name caller is number =
    let parts = and_parts (begins_name name && list_all is_name_byte name) (nat_le (length name) 16) is in
    let both_parts = and_parts (begins_name name) (list_all is_name_byte name) parts.0 in
    let begins = begins_some name both_parts.0 in record {
      some = begins.0;
      plain = name_plain name both_parts.1;
      tells = begins.1;
      read = ap (λ o. option_or o (option_map Caller (caller_named callers.names name))) (no_maker name is)
          ∙ ap (λ b. option_map Caller (cond b (number_in callers.names name) None)) is ∙ ap (option_map Caller) number;
    }

who_printed : (callers : PlainCallers) (who : Who)
    → OwnNames callers.names
    → IsWhoOf callers who
    → WhoPrinted callers (who_text callers.names who) who
who_printed callers (Caller caller) own h =
    caller_printed callers (slice_index_or callers.names caller []) caller h.1 (own_number callers.names own caller h.0)
who_printed callers Flusher own h = record { some = omega arith; plain = refl; tells = refl; read = refl }
who_printed callers Liner own h = record { some = omega arith; plain = refl; tells = refl; read = refl }
who_printed callers Clock own h = record { some = omega arith; plain = refl; tells = refl; read = refl }
who_printed callers Session own h = record { some = omega arith; plain = refl; tells = refl; read = refl }

-- ---- the line of an entry

pub record LinePrinted (text : List ℕ) (words : Line) : Type 0 where
  pub line : List ℕ
  pub is : text ≡ line ++ newline
  pub inline : Inline line
  pub parted : words_of line ≡ words
  pub tells : says words ≡ true

pub record EntryPrinted (callers : PlainCallers) (e : PlainEntry) : Type 0 where
  pub words : Line
  pub line : LinePrinted (entry_line callers.names e) words
  pub read : entry_in callers words ≡ Ok e

-- one more piece at the front of a line
pub in_line : (piece line text : List ℕ) → text ≡ line ++ newline → piece ++ text ≡ (piece ++ line) ++ newline
in_line piece line text is = ap (λ xs. piece ++ xs) is ∙ sym (append_assoc piece line newline)

pub entry_printed : (callers : PlainCallers) (e : PlainEntry)
    → OwnNames callers.names
    → IsEntryOf callers e
    → EntryPrinted callers e
entry_printed callers e own h =
    let name = who_text callers.names e.who in
    let who = who_printed callers e.who own h.who in
    let event = event_printed callers e.who e.step e.event h.event in
    let words = words_of (event_text e.event) in
    let l1 = decimal e.generation ++ 32 ∷ event_text e.event in
    let l2 = decimal e.part ++ 32 ∷ l1 in
    let l3 = decimal e.step ++ 32 ∷ l2 in
    let i1 : Inline l1 =
    inline_append (decimal e.generation) (32 ∷ event_text e.event)
    (decimal_inline e.generation (omega (arith, h.generation))) event.inline in
    let i2 : Inline l2 = inline_append (decimal e.part) (32 ∷ l1) (decimal_inline e.part (omega (arith, h.part))) i1 in
    let i3 : Inline l3 = inline_append (decimal e.step) (32 ∷ l2) (decimal_inline e.step (omega (arith, h.step))) i2 in
    let w1 : words_of l1 ≡ decimal e.generation ∷ words =
    decimal_then e.generation (event_text e.event) (omega (arith, h.generation)) in
    let w2 : words_of l2 ≡ decimal e.part ∷ decimal e.generation ∷ words =
    decimal_then e.part l1 (omega (arith, h.part)) ∙ ap (λ (ws : Line). decimal e.part ∷ ws) w1 in
    let w3 : words_of l3 ≡ decimal e.step ∷ decimal e.part ∷ decimal e.generation ∷ words =
    decimal_then e.step l2 (omega (arith, h.step)) ∙ ap (λ (ws : Line). decimal e.step ∷ ws) w2 in
    let all = name ∷ decimal e.step ∷ decimal e.part ∷ decimal e.generation ∷ words in
    record {
      words = all;
      line = record {
        line = name ++ 32 ∷ l3;
        is = in_line name (32 ∷ l3) _
            (in_line (codes " ") l3 _
            (in_line (decimal e.step) (32 ∷ l2) _
            (in_line (codes " ") l2 _
            (in_line (decimal e.part) (32 ∷ l1) _
            (in_line (codes " ") l1 _
            (in_line (decimal e.generation) (32 ∷ event_text e.event) _
            (in_line (codes " ") (event_text e.event) _ refl)))))));
        inline = inline_append name (32 ∷ l3) (plain_inline name who.plain) i3;
        parted = word_then name l3 who.some who.plain ∙ ap (λ (ws : Line). name ∷ ws) w3;
        tells = ap not who.tells;
      };
      read =
          then_read (who_in callers.names all) (λ who.
          number_first who.rest
          >>= λ step.
          number_first step.rest
          >>= λ part.
          number_first part.rest
          >>= λ generation.
          event_in callers who.value step.value generation.rest
          >>= λ event. Ok (record {
            who = who.value;
            step = step.value;
            part = part.value;
            generation = generation.value;
            event = event;
          }))
          (in_front (decimal e.step ∷ decimal e.part ∷ decimal e.generation ∷ words) e.who) e
          (ap (λ o.
          or_else Word o >>= λ who. Ok (in_front (decimal e.step ∷ decimal e.part ∷ decimal e.generation ∷ words) who))
          who.read)
          (then_read (number_first (decimal e.step ∷ decimal e.part ∷ decimal e.generation ∷ words))
          (λ step.
          number_first step.rest
          >>= λ part.
          number_first part.rest
          >>= λ generation.
          event_in callers e.who step.value generation.rest
          >>= λ event. Ok
          (record { who = e.who; step = step.value; part = part.value; generation = generation.value; event = event }))
          (in_front (decimal e.part ∷ decimal e.generation ∷ words) e.step) e
          (number_back e.step (decimal e.part ∷ decimal e.generation ∷ words) h.step)
          (then_read (number_first (decimal e.part ∷ decimal e.generation ∷ words))
          (λ part.
          number_first part.rest
          >>= λ generation.
          event_in callers e.who e.step generation.rest
          >>= λ event.
          Ok (record { who = e.who; step = e.step; part = part.value; generation = generation.value; event = event }))
          (in_front (decimal e.generation ∷ words) e.part) e (number_back e.part (decimal e.generation ∷ words) h.part)
          (then_read (number_first (decimal e.generation ∷ words)) (λ generation.
          event_in callers e.who e.step generation.rest
          >>= λ event.
          Ok (record { who = e.who; step = e.step; part = e.part; generation = generation.value; event = event }))
          (in_front words e.generation) e (number_back e.generation words h.generation)
          (then_read (event_in callers e.who e.step words)
          (λ event. Ok (record { who = e.who; step = e.step; part = e.part; generation = e.generation; event = event }))
          e.event e event.read refl))));
    }
