-- The callers' session of a text is spelled by what is left of it.
use Rattle.std.proofs.Common.{◌≡◌, ℕ, Bool, true, false, if◌then◌else◌, Option, None, Some, Result}
use Rattle.std.proofs.Common.{Ok, Err, List, [], ◌∷◌, ◌++◌, length, refl, sym, ◌∙◌, ap, subst}
use Rattle.std.specs.Prelude.{◌==◌, ◌-◌, ◌&&◌, codes, flat_map}
use Rattle.std.specs.Str.{bytes_eq}
use Rattle.std.proofs.lemmas.Bool.{and_parts, both_ways}
use Rattle.std.proofs.lemmas.Slice.Eq.{bytes_eq-Decides}
use Rattle.tty_calls.specs.Sessions.{PlainSession}
use Rattle.text_lines.specs.Lines.{first_is}
use Rattle.text_lines.specs.Values.{word_at, number_at}
use Rattle.session_text.specs.declared.faults.BadLine.{BadLine}
use Rattle.session_text.specs.declared.faults.Reason.{Reason}
use Rattle.session_text.specs.declared.faults.Reason.TheVariants as reason
use Rattle.session_text.specs.declared.verbs.Verb.{Verb}
use Rattle.session_text.specs.declared.verbs.Verb.TheVariants as verb
use Rattle.session_text.specs.Grammar.{Spells}
use Rattle.session_text.specs.Refusals.{next_line, lines_in}
use Rattle.session_text.specs.Stands.{PlainStand, is_start, is_ended, verdict_on, stand_after}
use Rattle.session_text.specs.Drafts.{session_with}
use Rattle.session_text.specs.Reading.{PlainReading, first_reading, reading_after_item, session_at_end, session_from}
use Rattle.session_text.proofs.Spelled.{read_spells}
use Rattle.further_text.proofs.Items.{Took, item_took, read_on, took_header}
use Rattle.vt_text.specs.declared.sessions.OpCall.TheVariants as op
use Rattle.vt_text.specs.declared.verbs.VtVerb.{VtVerb}
use Rattle.vt_text.specs.declared.verbs.VtVerb.TheVariants as vt
use Rattle.vt_text.specs.Sessions.{PlainVtSession}
use Rattle.vt_text.specs.Verbs.{verb_of}
use Rattle.vt_text.specs.Left.{line_by, callers_line, callers_text}
use Rattle.vt_text.specs.Items.{PlainVtReading, first_vt_reading, in_open_phase, is_caller, keys_fault, operator_fault}
use Rattle.vt_text.specs.Items.{activate_fault, state_fault, with_keys, with_operator, with_call, with_phase_closed}
use Rattle.vt_text.specs.Reading.{bad, ◌>>=◌, unless, after_session_item, is_header, after_header, spend}
use Rattle.vt_text.specs.Reading.{after_border, after_call, after_verb, after_item, after_line, vt_from, vt_in}
use Rattle.vt_text.proofs.Joined.{AreWords, AreLines, lines_again, text_words}
use Rattle.vt_text.proofs.LineLimits.{ok_same, ports_word, header_word, unless_none}

-- what is left of lines reads as this session, whatever their numbers
abbrev Later : PlainReading → List (List (List ℕ)) → PlainSession → Type 0
Later r lines x = (n : ℕ) → session_from r n (flat_map callers_line lines) ≡ Ok x

-- before the first item nothing was read
abbrev Begins : PlainReading → Type 0
Begins r = is_start r.stand.place ≡ true → r ≡ first_reading

record Goes (r next : PlainReading) (words : List (List ℕ)) : Type 0 where
  begins : Begins r → Begins next
  left : (lines : List (List (List ℕ))) (x : PlainSession) → Begins r → Later next lines x → Later r (words ∷ lines) x

-- ---- what went well

record Then {X Y : Type 0} (first : Result X BadLine) (later : X → Result Y BadLine) (y : Y) : Type 0 where
  x : X
  was : first ≡ Ok x
  goes_on : later x ≡ Ok y

then_ok : {X Y : Type 0} (first : Result X BadLine) (later : X → Result Y BadLine) (y : Y)
    → (first >>= later) ≡ Ok y
    → Then first later y
then_ok (Ok x) later y e = record { x = x; was = refl; goes_on = e }
then_ok (Err fault) later y e = absurd (cc)

if_good : {X : Type 0} (n : ℕ) (why : Reason) (b : Bool) (there : Result X BadLine) (x : X)
    → (if b then there else bad n why) ≡ Ok x
    → (b ≡ true) × (there ≡ Ok x)
if_good n why true there x e = (refl, e)
if_good n why false there x e = absurd (cc)

-- an item of the callers' session
item : (r next : PlainVtReading) (n : ℕ) (word : List ℕ) (arguments : List (List ℕ))
    → after_session_item r n word arguments ≡ Ok next
    → Took r.session word arguments next.session
item r next n word arguments e =
    let went = then_ok (reading_after_item r.session n arguments (verdict_on r.session.stand word arguments))
    (λ (session : PlainReading). Ok (record r { session = session })) next e in
    subst (Took r.session word arguments)
    (ap (λ (s : PlainVtReading). s.session) (ok_same (record r { session = went.x }) next went.goes_on))
    (item_took r.session went.x n word arguments went.was)

-- ---- a line that the callers' session has, and one that it has not

past_after : (s : PlainStand) (v : Verb) (arguments : List (List ℕ))
    → is_start s.place ≡ false
    → is_start (stand_after s v arguments).place ≡ false
past_after s verb.Session arguments h = refl
past_after s verb.Ports arguments h = refl
past_after s verb.Flip arguments h = h
past_after s verb.Phase arguments h = refl
past_after s verb.Line arguments h = refl
past_after s verb.Clock arguments h = refl
past_after s verb.Caller arguments h = refl
past_after s verb.Tick arguments h = h
past_after s verb.End arguments h = refl
past_after s (verb.Step l) arguments h = h
past_after s (verb.Call c) arguments h = h

past_begins : (r : PlainReading) → is_start r.stand.place ≡ false → Begins r
past_begins r past first = absurd (both_ways (is_start r.stand.place) past first)

took_past : (r next : PlainReading) (word : List ℕ) (arguments : List (List ℕ))
    → is_start r.stand.place ≡ false
    → Took r word arguments next
    → is_start next.stand.place ≡ false
took_past r next word arguments past took =
    ap (λ (s : PlainReading). is_start s.stand.place) took.is ∙ past_after r.stand took.what arguments past

same_line : (o : Option VtVerb) (word : List ℕ) (arguments : List (List ℕ))
    → first_is 35 word ≡ false
    → verb_of word ≡ o
    → callers_line (word ∷ arguments) ≡ line_by o word arguments
same_line o word arguments says is =
    ap (λ (b : Bool). if b then [] else line_by (verb_of word) word arguments) says
    ∙ ap (λ (v : Option VtVerb). line_by v word arguments) is

has_line : (r next : PlainReading) (word there : List ℕ) (arguments : List (List ℕ))
    → callers_line (word ∷ arguments) ≡ (there ∷ arguments) ∷ []
    → first_is 35 there ≡ false
    → is_start r.stand.place ≡ false
    → Took r there arguments next
    → Goes r next (word ∷ arguments)
has_line r next word there arguments is says past took = record {
  begins = λ h. past_begins next (took_past r next there arguments past took);
  left = λ lines x h later n.
      ap (λ (ws : List (List (List ℕ))). session_from r n (ws ++ flat_map callers_line lines)) is
      ∙ read_on r next there arguments (flat_map callers_line lines) n x says took (later (next_line n));
}

no_line : (r next : PlainReading) (words : List (List ℕ)) → callers_line words ≡ [] → next ≡ r → Goes r next words
no_line r next words is same = record {
  begins = λ h. subst Begins (sym same) h;
  left = λ lines x h later n.
      ap (λ (ws : List (List (List ℕ))). session_from r n (ws ++ flat_map callers_line lines)) is
      ∙ ap (λ (s : PlainReading). session_from s n (flat_map callers_line lines)) (sym same)
      ∙ later n;
}

added : (r made next : PlainVtReading) (n : ℕ) (fault : Option Reason) (words : List (List ℕ))
    → callers_line words ≡ []
    → made.session ≡ r.session
    → unless n fault made ≡ Ok next
    → Goes r.session next.session words
added r made next n fault words is same e =
    no_line r.session next.session words is
    (ap (λ (s : PlainVtReading). s.session) (sym (unless_none n fault made next e).1) ∙ same)

module _ (r next : PlainVtReading) (n : ℕ) (word : List ℕ) (arguments : List (List ℕ)) (says : first_is 35 word ≡ false)
    (past : is_start r.session.stand.place ≡ false) where
  its_own : (v : VtVerb)
      → verb_of word ≡ Some v
      → line_by (Some v) word arguments ≡ (word ∷ arguments) ∷ []
      → Took r.session word arguments next.session
      → Goes r.session next.session (word ∷ arguments)
  its_own v is own took = has_line r.session next.session word word arguments
      (same_line (Some v) word arguments says is ∙ own) says past took

  border : (v : VtVerb)
      → verb_of word ≡ Some v
      → line_by (Some v) word arguments ≡ (word ∷ arguments) ∷ []
      → after_border r n word arguments ≡ Ok next
      → Goes r.session next.session (word ∷ arguments)
  border v is own e =
      let went = then_ok (after_session_item r n word arguments)
      (λ (s : PlainVtReading). Ok (with_phase_closed (in_open_phase r) s)) next e in
      let same =
      ap (λ (s : PlainVtReading). s.session) (ok_same (with_phase_closed (in_open_phase r) went.x) next went.goes_on) in
      its_own v is own (subst (Took r.session word arguments) same (item r went.x n word arguments went.was))

  caller : verb_of word ≡ Some vt.Caller
      → after_verb r n word arguments (Some vt.Caller) ≡ Ok next
      → Goes r.session next.session (word ∷ arguments)
  caller is e =
      let went = then_ok (after_session_item r n word arguments) _ next e in
      let same = ap (λ (s : PlainVtReading). s.session) (ok_same _ next went.goes_on) in
      its_own vt.Caller is refl (subst (Took r.session word arguments) same (item r went.x n word arguments went.was))

  spent : (k : PlainVtReading) → spend n k ≡ Ok next → k.session ≡ next.session
  spent k e = by (k.calls_left == 0) e
    where
      by : (none : Bool)
          → (if none then bad n reason.Limit else Ok (record k { calls_left = k.calls_left - 1 })) ≡ Ok next
          → k.session ≡ next.session
      by true h = absurd (cc)
      by false h = ap (λ (s : PlainVtReading). s.session) (ok_same (record k { calls_left = k.calls_left - 1 }) next h)

  called : verb_of word ≡ Some vt.Call
      → after_call r n word arguments ≡ Ok next
      → Goes r.session next.session (word ∷ arguments)
  called is e =
      let inside =
      if_good n reason.Order (is_caller r.block) (after_session_item r n word arguments >>= spend n) next e in
      let went = then_ok (after_session_item r n word arguments) (spend n) next inside.1 in
      its_own vt.Call is refl
      (subst (Took r.session word arguments) (spent went.x went.goes_on) (item r went.x n word arguments went.was))

  goes_verb : (o : Option VtVerb)
      → verb_of word ≡ o
      → after_verb r n word arguments o ≡ Ok next
      → Goes r.session next.session (word ∷ arguments)
  goes_verb None is e = absurd (cc)
  goes_verb (Some vt.Header) is e = absurd (cc)
  goes_verb (Some vt.Consoles) is e =
      has_line r.session next.session word (codes "ports") arguments
      (same_line (Some vt.Consoles) word arguments says is) refl past (item r next n (codes "ports") arguments e)
  goes_verb (Some vt.Phase) is e = border vt.Phase is refl e
  goes_verb (Some vt.Caller) is e = caller is e
  goes_verb (Some vt.Keys) is e = added r (with_keys r (word_at arguments 0)) next n (keys_fault r arguments)
      (word ∷ arguments) (same_line (Some vt.Keys) word arguments says is) refl e
  goes_verb (Some vt.Operator) is e = added r (with_operator r (word_at arguments 0)) next n
      (operator_fault r arguments) (word ∷ arguments) (same_line (Some vt.Operator) word arguments says is) refl e
  goes_verb (Some vt.Activate) is e = added r (with_call r (op.Activate (number_at arguments 0))) next n
      (activate_fault r arguments) (word ∷ arguments) (same_line (Some vt.Activate) word arguments says is) refl e
  goes_verb (Some vt.State) is e = added r (with_call r op.State) next n (state_fault r arguments) (word ∷ arguments)
      (same_line (Some vt.State) word arguments says is) refl e
  goes_verb (Some vt.End) is e = border vt.End is refl e
  goes_verb (Some vt.Call) is e = called is e

-- the header begins the session
goes_header : (r next : PlainVtReading) (n : ℕ) (word : List ℕ) (arguments : List (List ℕ))
    → first_is 35 word ≡ false
    → is_start r.session.stand.place ≡ true
    → after_header n word arguments ≡ Ok next
    → Goes r.session next.session (word ∷ arguments)
goes_header r next n word arguments says first e =
    let good = if_good n reason.Header (is_header word arguments)
    (after_session_item first_vt_reading n (codes "tty-session") arguments) next e in
    let parts = and_parts (bytes_eq word (codes "vt-session") && length arguments == 1)
    (bytes_eq (word_at arguments 0) (codes "1")) good.0 in
    let word_is = (bytes_eq-Decides word (codes "vt-session")).0
    (and_parts (bytes_eq word (codes "vt-session")) (length arguments == 1) parts.0).0 in
    let took = item first_vt_reading next n (codes "tty-session") arguments good.1 in
    let header = took_header first_reading next.session (codes "tty-session") arguments took refl in
    let past : is_start next.session.stand.place ≡ false =
    ap (λ (s : PlainReading). is_start s.stand.place) took.is
    ∙ ap (λ (v : Verb). is_start (stand_after first_reading.stand v arguments).place) (sym header) in
    let line : callers_line (word ∷ arguments) ≡ (codes "tty-session" ∷ arguments) ∷ [] =
    same_line (Some vt.Header) word arguments says (ap verb_of word_is) in
    record {
      begins = λ h. past_begins next.session past;
      left = λ lines x h later m.
          ap (λ (ws : List (List (List ℕ))). session_from r.session m (ws ++ flat_map callers_line lines)) line
          ∙ ap
          (λ (s : PlainReading). session_from s m ((codes "tty-session" ∷ arguments) ∷ flat_map callers_line lines))
          (h first)
          ∙ read_on first_reading next.session (codes "tty-session") arguments (flat_map callers_line lines) m x refl
          took (later (next_line m));
    }

goes_item : (r next : PlainVtReading) (n : ℕ) (word : List ℕ) (arguments : List (List ℕ)) (start : Bool)
    → first_is 35 word ≡ false
    → is_start r.session.stand.place ≡ start
    → (if start then after_header n word arguments else after_verb r n word arguments (verb_of word)) ≡ Ok next
    → Goes r.session next.session (word ∷ arguments)
goes_item r next n word arguments true says is e = goes_header r next n word arguments says is e
goes_item r next n word arguments false says is e = goes_verb r next n word arguments says is (verb_of word) refl e

goes_words : (r next : PlainVtReading) (n : ℕ) (word : List ℕ) (arguments : List (List ℕ)) (comment : Bool)
    → first_is 35 word ≡ comment
    → (if comment then Ok r else after_item r n word arguments) ≡ Ok next
    → Goes r.session next.session (word ∷ arguments)
goes_words r next n word arguments true is e =
    no_line r.session next.session (word ∷ arguments)
    (ap (λ (b : Bool). if b then [] else line_by (verb_of word) word arguments) is)
    (sym (ap (λ (s : PlainVtReading). s.session) (ok_same r next e)))
goes_words r next n word arguments false is e =
    goes_item r next n word arguments (is_start r.session.stand.place) is refl e

goes_line : (r next : PlainVtReading) (n : ℕ) (words : List (List ℕ))
    → after_line r n words ≡ Ok next
    → Goes r.session next.session words
goes_line r next n [] e =
    no_line r.session next.session [] refl (sym (ap (λ (s : PlainVtReading). s.session) (ok_same r next e)))
goes_line r next n (word ∷ arguments) e = goes_words r next n word arguments (first_is 35 word) refl e

-- ---- the text

end_by : (r : PlainVtReading) (n m : ℕ) (ended : Bool) (x : PlainVtSession)
    → is_ended r.session.stand.place ≡ ended
    → (if ended
    then Ok (record { calls = session_with r.session.stand r.session.draft; phases = r.phases })
    else bad n reason.Order) ≡ Ok x
    → session_at_end r.session m ≡ Ok x.calls
end_by r n m true x is e =
    let made : PlainVtSession = record { calls = session_with r.session.stand r.session.draft; phases = r.phases } in
    ap (λ (b : Bool).
    if b then Ok (session_with r.session.stand r.session.draft) else Err (record { line = m; reason = reason.Order }))
    is
    ∙ ap (λ (s : PlainVtSession). let read : Result PlainSession BadLine = Ok s.calls in read) (ok_same made x e)
end_by r n m false x is e = absurd (cc)

lines_read : (lines : List (List (List ℕ))) (r : PlainVtReading) (n : ℕ) (x : PlainVtSession)
    → Begins r.session
    → vt_from r n lines ≡ Ok x
    → Later r.session lines x.calls
lines_read [] r n x begins e m = end_by r n m (is_ended r.session.stand.place) x refl e
lines_read (words ∷ lines) r n x begins e m =
    let went = then_ok (after_line r n words) (λ (next : PlainVtReading). vt_from next (next_line n) lines) x e in
    let goes = goes_line r went.x n words went.was in
    goes.left lines x.calls begins (lines_read lines went.x (next_line n) x (goes.begins begins) went.goes_on) m

line_words : (o : Option VtVerb) (word : List ℕ) (arguments : List (List ℕ))
    → AreWords (word ∷ arguments)
    → AreLines (line_by o word arguments)
line_words None word arguments h = tt
line_words (Some vt.Header) word arguments h = ((header_word, h.1), tt)
line_words (Some vt.Consoles) word arguments h = ((ports_word, h.1), tt)
line_words (Some vt.Phase) word arguments h = (h, tt)
line_words (Some vt.Caller) word arguments h = (h, tt)
line_words (Some vt.Keys) word arguments h = tt
line_words (Some vt.Operator) word arguments h = tt
line_words (Some vt.Activate) word arguments h = tt
line_words (Some vt.State) word arguments h = tt
line_words (Some vt.End) word arguments h = (h, tt)
line_words (Some vt.Call) word arguments h = (h, tt)

if_words : (comment : Bool) (lines : List (List (List ℕ))) → AreLines lines → AreLines (if comment then [] else lines)
if_words true lines h = tt
if_words false lines h = h

callers_words : (words : List (List ℕ)) → AreWords words → AreLines (callers_line words)
callers_words [] h = tt
callers_words (word ∷ arguments) h =
    if_words (first_is 35 word) (line_by (verb_of word) word arguments) (line_words (verb_of word) word arguments h)

lines_append : (xs ys : List (List (List ℕ))) → AreLines xs → AreLines ys → AreLines (xs ++ ys)
lines_append [] ys h k = k
lines_append (x ∷ xs) ys h k = (h.0, lines_append xs ys h.1 k)

all_words : (lines : List (List (List ℕ))) → AreLines lines → AreLines (flat_map callers_line lines)
all_words [] h = tt
all_words (words ∷ lines) h =
    lines_append (callers_line words) (flat_map callers_line lines) (callers_words words h.0) (all_words lines h.1)

pub callers_spelled : (text : List ℕ) (x : PlainVtSession) → vt_in text ≡ Ok x → Spells (callers_text text) x.calls
callers_spelled text x e =
    read_spells (callers_text text) x.calls
    (ap (λ (lines : List (List (List ℕ))). session_from first_reading 1 lines)
    (lines_again (flat_map callers_line (lines_in text)) (all_words (lines_in text) (text_words text)))
    ∙ lines_read (lines_in text) first_vt_reading 1 x (λ h. refl) e 1)
