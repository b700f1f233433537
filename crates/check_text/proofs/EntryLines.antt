-- What is read of an entry's line is what is printed of it.
use Rattle.std.proofs.Common.{◌≡◌, ℕ, zero, suc, Bool, true, false, cond, List, [], ◌∷◌, ◌++◌, Option, Some}
use Rattle.std.proofs.Common.{None, Ok, Err, map, codes, decimal, refl, ap, sym, subst, ◌∙◌, slice_get}
use Rattle.std.specs.Prelude.{slice_index_or, option_map}
use Rattle.std.specs.Str.{bytes_eq}
use Rattle.std.specs.Option.{option_or}
use Rattle.std.proofs.lemmas.Slice.Eq.{bytes_eq-Decides}
use Rattle.tty_base.specs.declared.characters.Flagged.{Flagged}
use Rattle.tty_calls.specs.declared.journals.Who.{Who}
use Rattle.tty_calls.specs.declared.journals.Who.TheVariants.{Caller, Flusher, Line as Liner, Clock, Session}
use Rattle.tty_calls.specs.Plain.{PlainCall, PlainAnswer, PlainEvent, answered, parted, waited, flushed, ticked}
use Rattle.tty_calls.specs.Plain.{line_ended, clock_ended, caller_ended, phase_ended, hung_up, PlainEntry}
use Rattle.tty_calls.specs.Sessions.{PlainScript, PlainSession, scripts_over, names_of, number_in, calls_of, call_at}
use Rattle.text_lines.specs.Values.{choice_of}
use Rattle.text_lines.specs.Values.{is_name}
use Rattle.session_text.specs.declared.faults.Reason.{Reason}
use Rattle.session_text.specs.declared.faults.Reason.TheVariants as reason
use Rattle.session_print.specs.Journals.{who_text}
use Rattle.check_text.specs.declared.kinds.AnswerKind.{AnswerKind}
use Rattle.check_text.specs.declared.kinds.EventKind.{EventKind}
use Rattle.check_text.specs.declared.kinds.EventKind.TheVariants as event
use Rattle.check_text.specs.Fields.{Read, Front, in_front, or_else, word_in, number_in as number_first, at_end, ◌>>=◌}
use Rattle.check_text.specs.Callers.{PlainCallers, answer_kind, callers_on, kinds_under, kind_at, caller_named}
use Rattle.check_text.specs.Characters.{chars_of}
use Rattle.check_text.specs.Answers.{answer_meaning, answer_words, words_after, answer_in}
use Rattle.check_text.specs.Entries.{makers, maker_of, who_of, who_in, kind_text, call_kinds}
use Rattle.check_text.specs.Entries.{other_kinds, kind_of, call_of_entry, chars_in, ends_in_chars}
use Rattle.check_text.specs.Entries.{ends_in_number, with_dropped, event_by, event_in, entry_in}
use Rattle.check_text.specs.Printed.{IsBeside, IsEventLine, IsEntryLine}
use Rattle.check_text.proofs.Rows.{name_at_place}
use Rattle.check_text.proofs.Lines.{both_read, number_read, end_read}

abbrev Line : Type 0
Line = List (List ℕ)

-- ---- words

else_read : {X : Type 0} (reason : Reason) (found : Option X) (x : X) → or_else reason found ≡ Ok x → found ≡ Some x
else_read reason None x h = cc
else_read reason (Some y) x h = let same : y ≡ x = cc in ap Some same

word_read : (words : Line) (f : Front (List ℕ)) → word_in words ≡ Ok f → words ≡ f.value ∷ f.rest
word_read [] f h = cc
word_read (word ∷ rest) f h = let same : in_front rest word ≡ f = cc in ap (λ f. f.value ∷ f.rest) same

choice_read : {X : Type 0} (text_of : X → List ℕ) (xs : List X) (word : List ℕ) (x : X)
    → choice_of text_of xs word ≡ Some x
    → word ≡ text_of x
choice_read text_of [] word x h = cc
choice_read text_of (y ∷ xs) word x h = by (bytes_eq word (text_of y)) refl h (choice_read text_of xs word x)
  where
    by : (b : Bool)
        → bytes_eq word (text_of y) ≡ b
        → cond b (Some y) (choice_of text_of xs word) ≡ Some x
        → (choice_of text_of xs word ≡ Some x → word ≡ text_of x)
        → word ≡ text_of x
    by true e k later = let same : y ≡ x = cc in (bytes_eq-Decides word (text_of y)).0 e ∙ ap text_of same
    by false e k later = later k

either_read : {X : Type 0} (P : X → Type 0) (one other : Option X) (x : X)
    → option_or one other ≡ Some x
    → (one ≡ Some x → P x)
    → (other ≡ Some x → P x)
    → P x
either_read P None other x h first second = second h
either_read P (Some y) other x h first second = first h

-- ---- who

maker_text : (names : List (List ℕ)) (word : List ℕ) (who : Who)
    → word ≡ who_text [] who
    → maker_of word ≡ Some who
    → word ≡ who_text names who
maker_text names word Flusher e k = e
maker_text names word Liner e k = e
maker_text names word Clock e k = e
maker_text names word Session e k = e
maker_text names word (Caller c) e k = absurd (let none : maker_of word ≡ None = ap maker_of e in cc)

maker_printed : (names : List (List ℕ)) (word : List ℕ) (who : Who)
    → maker_of word ≡ Some who
    → word ≡ who_text names who
maker_printed names word who h = maker_text names word who (choice_read (who_text []) makers word who h) h

caller_printed : (names : List (List ℕ)) (word : List ℕ) (who : Who) (is : Bool)
    → option_map Caller (cond is (number_in names word) None) ≡ Some who
    → word ≡ who_text names who
caller_printed names word who true h = by (number_in names word) refl h
  where
    by : (o : Option ℕ) → number_in names word ≡ o → option_map Caller o ≡ Some who → word ≡ who_text names who
    by None e k = cc
    by (Some c) e k = let same : Caller c ≡ who = cc in name_at_place names word c e ∙ ap (who_text names) same
caller_printed names word who false h = cc

who_printed : (names : List (List ℕ)) (word : List ℕ) (who : Who)
    → who_of names word ≡ Some who
    → word ≡ who_text names who
who_printed names word who h =
    either_read (λ who. word ≡ who_text names who) (maker_of word) (option_map Caller (caller_named names word)) who h
    (maker_printed names word who) (caller_printed names word who (is_name word))

-- ---- events

kind_read : (word : List ℕ) (kind : EventKind) → kind_of word ≡ Some kind → word ≡ kind_text kind
kind_read word kind h =
    either_read (λ kind. word ≡ kind_text kind) (choice_of kind_text call_kinds word)
    (choice_of kind_text other_kinds word) kind h (choice_read kind_text call_kinds word kind)
    (choice_read kind_text other_kinds word kind)

record CharsRead (words : Line) (f : Front (List Flagged)) : Type 0 where
  text : List ℕ
  is : words ≡ text ∷ f.rest
  read : chars_of text ≡ Some f.value

chars_read : (words : Line) (f : Front (List Flagged)) → chars_in words ≡ Ok f → CharsRead words f
chars_read words f h =
    let one = both_read (word_in words)
    (λ word. or_else reason.Hex (chars_of word.value) >>= λ chars. Ok (in_front word.rest chars)) f h in
    let two = both_read (or_else reason.Hex (chars_of one.value.value)) (λ chars. Ok (in_front one.value.rest chars))
    f one.there in
    let same : in_front one.value.rest two.value ≡ f = (let e = two.there in cc) in
    record {
      text = one.value.value;
      is = word_read words one.value one.here ∙ ap (λ (f : Front (List Flagged)). one.value.value ∷ f.rest) same;
      read =
          else_read reason.Hex (chars_of one.value.value) two.value two.here
          ∙ ap (λ (f : Front (List Flagged)). Some f.value) same;
    }

record CharsEnd (event : List Flagged → PlainEvent) (words : Line) (e : PlainEvent) : Type 0 where
  text : List ℕ
  chars : List Flagged
  is : words ≡ text ∷ []
  read : chars_of text ≡ Some chars
  made : event chars ≡ e

chars_end : (event : List Flagged → PlainEvent) (words : Line) (e : PlainEvent)
    → ends_in_chars event words ≡ Ok e
    → CharsEnd event words e
chars_end event words e h =
    let one = both_read (chars_in words) (λ chars. at_end (event chars.value) chars.rest) e h in
    let chars = chars_read words one.value one.here in
    let end = end_read (event one.value.value) e one.value.rest one.there in
    record {
      text = chars.text;
      chars = one.value.value;
      is = chars.is ∙ ap (λ ws. chars.text ∷ ws) end.0;
      read = chars.read;
      made = end.1;
    }

record NumberEnd (event : ℕ → PlainEvent) (words : Line) (e : PlainEvent) : Type 0 where
  n : ℕ
  is : words ≡ decimal n ∷ []
  made : event n ≡ e

number_end : (event : ℕ → PlainEvent) (words : Line) (e : PlainEvent)
    → ends_in_number event words ≡ Ok e
    → NumberEnd event words e
number_end event words e h =
    let one = both_read (number_first words) (λ n. at_end (event n.value) n.rest) e h in
    let first = number_read words one.value one.here in
    let end = end_read (event one.value.value) e one.value.rest one.there in
    record { n = one.value.value; is = first.is ∙ ap (λ ws. decimal one.value.value ∷ ws) end.0; made = end.1 }

record AnswerRead (words : Line) (f : Front PlainAnswer) : Type 0 where
  is : words ≡ answer_words f.value ++ f.rest

after_read : (printed words rest : Line) → words_after printed words ≡ Some rest → words ≡ printed ++ rest
after_read [] words rest h = cc
after_read (word ∷ printed) [] rest h = cc
after_read (word ∷ printed) (own ∷ words) rest h = by (bytes_eq own word) refl h (after_read printed words rest)
  where
    by : (b : Bool)
        → bytes_eq own word ≡ b
        → cond b (words_after printed words) None ≡ Some rest
        → (words_after printed words ≡ Some rest → words ≡ printed ++ rest)
        → own ∷ words ≡ (word ∷ printed) ++ rest
    by true e k later = ap (λ w. w ∷ words) ((bytes_eq-Decides own word).0 e) ∙ ap (λ ws. word ∷ ws) (later k)
    by false e k later = cc

answer_read : (kind : AnswerKind) (words : Line) (f : Front PlainAnswer)
    → answer_in kind words ≡ Ok f
    → AnswerRead words f
answer_read kind words f h =
    let answer = answer_meaning kind words in
    let one =
    both_read (or_else reason.Word (words_after (answer_words answer) words)) (λ rest. Ok (in_front rest answer)) f h in
    let same : in_front one.value answer ≡ f = (let e = one.there in cc) in
    record {
      is =
          after_read (answer_words answer) words one.value
          (else_read reason.Word (words_after (answer_words answer) words) one.value one.here)
          ∙ ap (λ (f : Front PlainAnswer). answer_words f.value ++ f.rest) same;
    }

dropped_read : (answer : PlainAnswer) (rest : Line) (e : PlainEvent)
    → with_dropped answer rest ≡ Ok e
    → (dropped : List Flagged) × (answered answer dropped ≡ e) × IsBeside dropped rest
dropped_read answer [] e h = ([], cc, refl)
dropped_read answer (word ∷ words) e h = by (bytes_eq word (codes "drop")) refl h
  where
    by : (b : Bool)
        → bytes_eq word (codes "drop") ≡ b
        → (let read : Read PlainEvent = cond b (ends_in_chars (answered answer) words) (Err reason.Word) in read ≡ Ok e)
        → (dropped : List Flagged) × (answered answer dropped ≡ e) × IsBeside dropped (word ∷ words)
    by true eq k =
        let end = chars_end (answered answer) words e k in (
          end.chars,
          end.made,
          subst (λ ws. IsBeside end.chars (word ∷ ws)) (sym end.is)
              ((bytes_eq-Decides word (codes "drop")).0 eq, end.read),
        )
    by false eq k = cc

event_line : (callers : PlainCallers) (who : Who) (step : ℕ) (kind : EventKind) (words : Line) (e : PlainEvent)
    → event_by callers who step kind words ≡ Ok e
    → IsEventLine e (kind_text kind ∷ words)
event_line callers who step event.Answer words e h =
    let one = both_read (call_of_entry callers who step)
    (λ kind. answer_in kind words >>= λ answer. with_dropped answer.value answer.rest) e h in
    let two = both_read (answer_in one.value words) (λ answer. with_dropped answer.value answer.rest) e one.there in
    let answer = answer_read one.value words two.value two.here in
    let dropped = dropped_read two.value.value two.value.rest e two.there in
    subst (λ e. IsEventLine e (codes "answer" ∷ words)) dropped.1
    (two.value.rest, ap (λ ws. codes "answer" ∷ ws) answer.is, dropped.2)
event_line callers who step event.Part words e h =
    let one = both_read (call_of_entry callers who step) (λ kind. ends_in_number parted words) e h in
    let end = number_end parted words e one.there in
    subst (λ e. IsEventLine e (codes "part" ∷ words)) end.made (ap (λ ws. codes "part" ∷ ws) end.is)
event_line callers who step event.Wait words e h =
    let one = both_read (call_of_entry callers who step) (λ kind. at_end waited words) e h in
    let end = end_read waited e words one.there in
    subst (λ e. IsEventLine e (codes "wait" ∷ words)) end.1 (ap (λ ws. codes "wait" ∷ ws) end.0)
event_line callers who step event.Flush words e h =
    let end = chars_end flushed words e h in
    subst (λ e. IsEventLine e (codes "flush" ∷ words)) end.made
    (end.text, ap (λ ws. codes "flush" ∷ ws) end.is, end.read)
event_line callers who step event.Tick words e h =
    let end = end_read ticked e words h in
    subst (λ e. IsEventLine e (codes "tick" ∷ words)) end.1 (ap (λ ws. codes "tick" ∷ ws) end.0)
event_line callers who step event.LineEnd words e h =
    let end = number_end line_ended words e h in
    subst (λ e. IsEventLine e (codes "line_end" ∷ words)) end.made (ap (λ ws. codes "line_end" ∷ ws) end.is)
event_line callers who step event.ClockEnd words e h =
    let end = end_read clock_ended e words h in
    subst (λ e. IsEventLine e (codes "clock_end" ∷ words)) end.1 (ap (λ ws. codes "clock_end" ∷ ws) end.0)
event_line callers who step event.CallerEnd words e h =
    let end = end_read caller_ended e words h in
    subst (λ e. IsEventLine e (codes "caller_end" ∷ words)) end.1 (ap (λ ws. codes "caller_end" ∷ ws) end.0)
event_line callers who step event.PhaseEnd words e h =
    let end = end_read phase_ended e words h in
    subst (λ e. IsEventLine e (codes "phase_end" ∷ words)) end.1 (ap (λ ws. codes "phase_end" ∷ ws) end.0)
event_line callers who step event.Hangup words e h =
    let end = chars_end hung_up words e h in
    subst (λ e. IsEventLine e (codes "hangup" ∷ words)) end.made
    (end.text, ap (λ ws. codes "hangup" ∷ ws) end.is, end.read)

event_read : (callers : PlainCallers) (who : Who) (step : ℕ) (words : Line) (e : PlainEvent)
    → event_in callers who step words ≡ Ok e
    → IsEventLine e words
event_read callers who step words e h =
    let one = both_read (word_in words)
    (λ word. or_else reason.Word (kind_of word.value) >>= λ kind. event_by callers who step kind word.rest) e h in
    let two = both_read (or_else reason.Word (kind_of one.value.value))
    (λ kind. event_by callers who step kind one.value.rest) e one.there in
    let kind =
    kind_read one.value.value two.value (else_read reason.Word (kind_of one.value.value) two.value two.here) in
    subst (IsEventLine e) (sym (word_read words one.value one.here ∙ ap (λ w. w ∷ one.value.rest) kind))
    (event_line callers who step two.value one.value.rest e two.there)

-- ---- the line of an entry

record WhoRead (names : List (List ℕ)) (words : Line) (f : Front Who) : Type 0 where
  is : words ≡ who_text names f.value ∷ f.rest

who_read : (names : List (List ℕ)) (words : Line) (f : Front Who) → who_in names words ≡ Ok f → WhoRead names words f
who_read names words f h =
    let one = both_read (word_in words)
    (λ word. or_else reason.Word (who_of names word.value) >>= λ who. Ok (in_front word.rest who)) f h in
    let two = both_read (or_else reason.Word (who_of names one.value.value)) (λ who. Ok (in_front one.value.rest who))
    f one.there in
    let same : in_front one.value.rest two.value ≡ f = (let e = two.there in cc) in
    let named = who_printed names one.value.value two.value
    (else_read reason.Word (who_of names one.value.value) two.value two.here) in
    record {
      is =
          word_read words one.value one.here
          ∙ ap (λ w. w ∷ one.value.rest) named
          ∙ ap (λ (f : Front Who). who_text names f.value ∷ f.rest) same;
    }

pub entry_line_read : (callers : PlainCallers) (words : Line) (e : PlainEntry)
    → entry_in callers words ≡ Ok e
    → IsEntryLine callers.names words e
entry_line_read callers words e h =
    let one = both_read (who_in callers.names words)
    (λ who.
    number_first who.rest
    >>= λ step.
    number_first step.rest
    >>= λ part.
    number_first part.rest
    >>= λ generation.
    event_in callers who.value step.value generation.rest
    >>= λ event.
    Ok (record { who = who.value; step = step.value; part = part.value; generation = generation.value; event = event }))
    e h in
    let two = both_read (number_first one.value.rest)
    (λ step.
    number_first step.rest
    >>= λ part.
    number_first part.rest
    >>= λ generation.
    event_in callers one.value.value step.value generation.rest
    >>= λ event. Ok (record {
      who = one.value.value;
      step = step.value;
      part = part.value;
      generation = generation.value;
      event = event;
    })) e one.there in
    let three = both_read (number_first two.value.rest)
    (λ part.
    number_first part.rest
    >>= λ generation.
    event_in callers one.value.value two.value.value generation.rest
    >>= λ event. Ok (record {
      who = one.value.value;
      step = two.value.value;
      part = part.value;
      generation = generation.value;
      event = event;
    })) e two.there in
    let four = both_read (number_first three.value.rest)
    (λ generation.
    event_in callers one.value.value two.value.value generation.rest
    >>= λ event. Ok (record {
      who = one.value.value;
      step = two.value.value;
      part = three.value.value;
      generation = generation.value;
      event = event;
    })) e three.there in
    let five = both_read (event_in callers one.value.value two.value.value four.value.rest)
    (λ event. Ok (record {
      who = one.value.value;
      step = two.value.value;
      part = three.value.value;
      generation = four.value.value;
      event = event;
    })) e four.there in
    let made : PlainEntry = record {
      who = one.value.value;
      step = two.value.value;
      part = three.value.value;
      generation = four.value.value;
      event = five.value;
    } in
    let same : made ≡ e = (let k = five.there in cc) in
    let who = who_read callers.names words one.value one.here in
    let step = number_read one.value.rest two.value two.here in
    let part = number_read two.value.rest three.value three.here in
    let generation = number_read three.value.rest four.value four.here in
    let line : IsEntryLine callers.names words made = record {
      event = four.value.rest;
      is =
          who.is
          ∙ ap (λ (ws : Line). who_text callers.names one.value.value ∷ ws)
          (step.is
          ∙ ap (λ (ws : Line). decimal two.value.value ∷ ws)
          (part.is ∙ ap (λ (ws : Line). decimal three.value.value ∷ ws) generation.is));
      tells = event_read callers one.value.value two.value.value four.value.rest five.value five.here;
    } in
    subst (IsEntryLine callers.names words) same line

-- ---- the kinds of a session's calls

kind_in : (calls : List PlainCall) (step : ℕ)
    → slice_get (map answer_kind calls) step ≡ option_map answer_kind (slice_get calls step)
kind_in [] step = refl
kind_in (call ∷ calls) zero = refl
kind_in (call ∷ calls) (suc step) = kind_in calls step

row_at : (scripts : List PlainScript) (names : List (List ℕ)) (caller : ℕ)
    → slice_index_or (map (kinds_under scripts) names) caller []
    ≡ map answer_kind (calls_of scripts (slice_get names caller))
row_at scripts [] caller = refl
row_at scripts (name ∷ names) zero = refl
row_at scripts (name ∷ names) (suc caller) = row_at scripts names caller

pub kind_of_call : (port : ℕ) (session : PlainSession) (caller step : ℕ)
    → kind_at (callers_on port session) caller step ≡ option_map answer_kind (call_at port session caller step)
kind_of_call port session caller step =
    let scripts = scripts_over port session.phases in
    ap (λ row. slice_get row step) (row_at scripts (names_of scripts) caller)
    ∙ kind_in (calls_of scripts (slice_get (names_of scripts) caller)) step
