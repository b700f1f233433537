-- What items of a session of ports do to what was read of it.
use Rattle.std.proofs.Common.{◌≡◌, ◌⊎◌, inl, inr, ℕ, zero, suc, ◌+◌, ◌-◌, ◌≤◌, Bool, true}
use Rattle.std.proofs.Common.{false, cond, if◌then◌else◌, Option, None, Some, Result, Ok}
use Rattle.std.proofs.Common.{Err, List, [], ◌∷◌, length, refl, sym, ◌∙◌, ap, subst, arith}
use Rattle.std.specs.Prelude.{◌==◌, ◌&&◌, min, codes, filter, not, option_map}
use Rattle.std.specs.Option.{option_or}
use Rattle.std.specs.Str.{bytes_eq}
use Rattle.std.proofs.lemmas.Bool.{both_ways}
use Rattle.std.proofs.lemmas.Slice.Eq.{bytes_eq-Decides}
use Rattle.tty_base.specs.Sizes.{MOST_PORTS}
use Rattle.tty_calls.specs.Sessions.{PlainSession}
use Rattle.text_lines.specs.Lines.{first_is}
use Rattle.text_lines.specs.Values.{number_at, choice_of}
use Rattle.session_text.specs.declared.faults.Reason.{Reason}
use Rattle.session_text.specs.declared.faults.Reason.TheVariants as reason
use Rattle.session_text.specs.declared.faults.BadLine.{BadLine}
use Rattle.session_text.specs.declared.stands.ItemPlace.{ItemPlace}
use Rattle.session_text.specs.declared.stands.ItemPlace.TheVariants as place
use Rattle.session_text.specs.declared.verbs.Verb.{Verb}
use Rattle.session_text.specs.declared.verbs.Verb.TheVariants as verb
use Rattle.session_text.specs.declared.verbs.LineVerb.{LineVerb}
use Rattle.session_text.specs.declared.verbs.LineVerb.TheVariants as line
use Rattle.session_text.specs.declared.verbs.CallVerb.{CallVerb}
use Rattle.session_text.specs.declared.verbs.CallVerb.TheVariants as call
use Rattle.session_text.specs.Kinds.{may_have, fault_from}
use Rattle.session_text.specs.Verbs.{line_text, call_text, verb_text, block_verbs, line_verbs}
use Rattle.session_text.specs.Verbs.{call_verbs, block_verb_of, line_verb_of, call_verb_of, verb_of}
use Rattle.session_text.specs.Stands.{PlainStand, is_start, is_ended, is_good, may_stand, late_fault}
use Rattle.session_text.specs.Stands.{item_fault, unless, verb_verdict, first_verdict, verdict_at, verdict_on}
use Rattle.session_text.specs.Drafts.{all_phases, session_with as session_read}
use Rattle.session_text.specs.Refusals.{next_line}
use Rattle.session_text.specs.Reading.{PlainReading, reading_with, reading_after_item}
use Rattle.session_text.specs.Reading.{then_read, session_at_end, session_from}
use Rattle.further_text.specs.declared.sorts.Sort.{Sort}
use Rattle.further_text.specs.declared.sorts.Sort.TheVariants as sort
use Rattle.further_text.specs.Faults.{bad, wrong_if, wrong_unless, ◌>>=◌}
use Rattle.further_text.specs.Left.{is_shared}
use Rattle.further_text.specs.Reading.{BaseReading, base_after_item, base_after_ports, base_after_step, spend}
use Rattle.further_text.specs.Sorts.{sort_of}

-- ---- what went well

pub record Then {X Y E : Type 0} (first : Result X E) (later : X → Result Y E) (y : Y) : Type 0 where
  pub x : X
  pub was : first ≡ Ok x
  pub goes_on : later x ≡ Ok y

pub then_ok : {X Y E : Type 0} (first : Result X E) (later : X → Result Y E) (y : Y)
    → (first >>= later) ≡ Ok y
    → Then first later y
then_ok (Ok x) later y e = record { x = x; was = refl; goes_on = e }
then_ok (Err fault) later y e = absurd (cc)

abbrev pub good : {X : Type 0} → X → Result X BadLine
good x = Ok x

pub ok_is : {X : Type 0} (x y : X) → good x ≡ good y → x ≡ y
ok_is x y e = cc

pub not_wrong : {X : Type 0} (n : ℕ) (why : Reason) (b : Bool) (later : Result X BadLine) (x : X)
    → wrong_if n why b later ≡ Ok x
    → (b ≡ false) × (later ≡ Ok x)
not_wrong n why true later x e = absurd (cc)
not_wrong n why false later x e = (refl, e)

pub not_wrong_unless : {X : Type 0} (n : ℕ) (why : Reason) (b : Bool) (later : Result X BadLine) (x : X)
    → wrong_unless n why b later ≡ Ok x
    → (b ≡ true) × (later ≡ Ok x)
not_wrong_unless n why true later x e = (refl, e)
not_wrong_unless n why false later x e = absurd (cc)

-- ---- the verb of a word

chosen : {X : Type 0} (b : Bool) (y x : X) (rest : Option X)
    → cond b (Some y) rest ≡ Some x
    → ((b ≡ true) × (y ≡ x)) ⊎ (rest ≡ Some x)
chosen true y x rest h = inl (refl, cc)
chosen false y x rest h = inr h

pub choice_found : {X : Type 0} (text_of : X → List ℕ) (xs : List X) (word : List ℕ) (x : X)
    → choice_of text_of xs word ≡ Some x
    → word ≡ text_of x
choice_found text_of [] word x h = absurd (cc)
choice_found {X} text_of (y ∷ xs) word x h =
    elim (chosen (bytes_eq word (text_of y)) y x (choice_of text_of xs word) h) [
      | inl here ↦ (bytes_eq-Decides word (text_of y)).0 here.0 ∙ ap text_of here.1
      | inr later ↦ choice_found text_of xs word x later
    ]

or_found : {X : Type 0} (a b : Option X) (x : X) → option_or a b ≡ Some x → (a ≡ Some x) ⊎ (b ≡ Some x)
or_found None b x h = inr h
or_found (Some y) b x h = inl h

step_found : (o : Option LineVerb) (word : List ℕ) (v : Verb)
    → ((l : LineVerb) → o ≡ Some l → word ≡ line_text l)
    → option_map verb.Step o ≡ Some v
    → word ≡ verb_text v
step_found None word v says h = absurd (cc)
step_found (Some l) word v says h = let is : verb.Step l ≡ v = cc in says l refl ∙ ap verb_text is

call_found : (o : Option CallVerb) (word : List ℕ) (v : Verb)
    → ((c : CallVerb) → o ≡ Some c → word ≡ call_text c)
    → option_map verb.Call o ≡ Some v
    → word ≡ verb_text v
call_found None word v says h = absurd (cc)
call_found (Some c) word v says h = let is : verb.Call c ≡ v = cc in says c refl ∙ ap verb_text is

flip_found : (second : Bool) (v : Verb)
    → (if second then Some verb.Flip else None) ≡ Some v
    → codes "flip" ≡ verb_text v
flip_found true v h = let is : verb.Flip ≡ v = cc in ap verb_text is
flip_found false v h = absurd (cc)

abbrev other_verb_of : List ℕ → Option Verb
other_verb_of word = option_or (block_verb_of word)
    (option_or (option_map verb.Step (line_verb_of word)) (option_map verb.Call (call_verb_of word)))

other_found : (word : List ℕ) (v : Verb) → other_verb_of word ≡ Some v → word ≡ verb_text v
other_found word v h =
    elim (or_found (block_verb_of word)
    (option_or (option_map verb.Step (line_verb_of word)) (option_map verb.Call (call_verb_of word))) v h) [
      | inl block ↦ choice_found verb_text block_verbs word v block
      | inr other ↦ elim
          (or_found (option_map verb.Step (line_verb_of word)) (option_map verb.Call (call_verb_of word)) v other) [
            | inl step ↦ step_found (line_verb_of word) word v (λ l e. choice_found line_text line_verbs word l e) step
            | inr called ↦
                call_found (call_verb_of word) word v (λ c e. choice_found call_text call_verbs word c e) called
          ]
    ]

found_by : (flip : Bool) (version : ℕ) (word : List ℕ) (v : Verb)
    → (flip ≡ true → word ≡ codes "flip")
    → (if flip then (if version == 2 then Some verb.Flip else None) else other_verb_of word) ≡ Some v
    → word ≡ verb_text v
found_by true version word v is h = is refl ∙ flip_found (version == 2) v h
found_by false version word v is h = other_found word v h

verb_found : (version : ℕ) (word : List ℕ) (v : Verb) → verb_of version word ≡ Some v → word ≡ verb_text v
verb_found version word v h =
    found_by (bytes_eq word (codes "flip")) version word v (λ e. (bytes_eq-Decides word (codes "flip")).0 e) h

-- ---- items that are not wrong

unless_good : (fault : Option Reason) (found v : Verb) → unless fault found ≡ Ok v → (fault ≡ None) × (found ≡ v)
unless_good None found v h = (refl, cc)
unless_good (Some why) found v h = absurd (cc)

fits_if : (b : Bool) (fault : Option Reason) (why : Reason)
    → (if b then fault else Some why) ≡ None
    → (b ≡ true) × (fault ≡ None)
fits_if true fault why h = (refl, h)
fits_if false fault why h = absurd (cc)

-- it stands where it may, with as many arguments as it may have
pub record Fits (s : PlainStand) (v : Verb) (arguments : List (List ℕ)) : Type 0 where
  pub stands : may_stand v s.place ≡ true
  pub has : may_have v (length arguments) ≡ true

fits_by : (s : PlainStand) (v : Verb) (arguments : List (List ℕ)) → item_fault s v arguments ≡ None → Fits s v arguments
fits_by s v arguments h =
    let first = fits_if (may_stand v s.place)
    (if may_have v (length arguments)
    then option_or (fault_from s.ports v 0 arguments) (late_fault s v arguments)
    else Some reason.Word) reason.Order h in
    let second = fits_if (may_have v (length arguments))
    (option_or (fault_from s.ports v 0 arguments) (late_fault s v arguments)) reason.Word first.1 in
    record { stands = first.0; has = second.0 }

verdict_by : (s : PlainStand) (o : Option Verb) (arguments : List (List ℕ)) (v : Verb)
    → verb_verdict s o arguments ≡ Ok v
    → (o ≡ Some v) × Fits s v arguments
verdict_by s None arguments v h = absurd (cc)
verdict_by s (Some found) arguments v h =
    let is = unless_good (item_fault s found arguments) found v h in
    (ap (λ (x : Verb). Some x) is.1, subst (λ (x : Verb). Fits s x arguments) is.1 (fits_by s found arguments is.0))

header_by : (b fits : Bool) (v : Verb)
    → (if b && fits then Ok verb.Session else Err reason.Header) ≡ Ok v
    → (b ≡ true) × (verb.Session ≡ v)
header_by true true v h = (refl, cc)
header_by true false v h = absurd (cc)
header_by false fits v h = absurd (cc)

abbrev HeaderOr : PlainStand → ItemPlace → List ℕ → List (List ℕ) → Verb → Type 0
HeaderOr s at word arguments v =
    ((is_start at ≡ true) × (word ≡ codes "tty-session") × (verb.Session ≡ v))
    ⊎ ((is_start at ≡ false) × (verb_of s.version word ≡ Some v) × Fits s v arguments)

at_header : (s : PlainStand) (word : List ℕ) (arguments : List (List ℕ)) (v : Verb)
    → first_verdict s word arguments ≡ Ok v
    → HeaderOr s place.Start word arguments v
at_header s word arguments v h =
    let is = header_by (bytes_eq word (codes "tty-session")) (is_good s.ports verb.Session arguments) v h in
    inl (refl, (bytes_eq-Decides word (codes "tty-session")).0 is.0, is.1)

at_other : (s : PlainStand) (at : ItemPlace) (word : List ℕ) (arguments : List (List ℕ)) (v : Verb)
    → is_start at ≡ false
    → verb_verdict s (verb_of s.version word) arguments ≡ Ok v
    → HeaderOr s at word arguments v
at_other s at word arguments v past h =
    let is = verdict_by s (verb_of s.version word) arguments v h in inr (past, is.0, is.1)

found_at : (s : PlainStand) (at : ItemPlace) (word : List ℕ) (arguments : List (List ℕ)) (v : Verb)
    → verdict_at s at word arguments ≡ Ok v
    → HeaderOr s at word arguments v
found_at s place.Start word arguments v h = at_header s word arguments v h
found_at s place.Head word arguments v h = at_other s place.Head word arguments v refl h
found_at s place.Before word arguments v h = at_other s place.Before word arguments v refl h
found_at s place.Phase word arguments v h = at_other s place.Phase word arguments v refl h
found_at s place.Line word arguments v h = at_other s place.Line word arguments v refl h
found_at s place.Clock word arguments v h = at_other s place.Clock word arguments v refl h
found_at s place.Caller word arguments v h = at_other s place.Caller word arguments v refl h
found_at s place.Ended word arguments v h = at_other s place.Ended word arguments v refl h

word_is : (s : PlainStand) (at : ItemPlace) (word : List ℕ) (arguments : List (List ℕ)) (v : Verb)
    → HeaderOr s at word arguments v
    → word ≡ verb_text v
word_is s at word arguments v (inl header) = header.1 ∙ ap verb_text header.2
word_is s at word arguments v (inr other) = verb_found s.version word v other.1

-- the sort of a verb
abbrev pub sort_by : Verb → Sort
sort_by verb.Ports = sort.Ports
sort_by verb.Caller = sort.Caller
sort_by verb.Phase = sort.Border
sort_by verb.End = sort.Border
sort_by verb.Tick = sort.Inside
sort_by (verb.Step l) = sort.Inside
sort_by (verb.Call c) = sort.Inside
sort_by other = sort.Other

step_sort : (l : LineVerb) → sort_of (line_text l) ≡ sort.Inside
step_sort line.Rx = refl
step_sort line.Rxp = refl
step_sort line.Rxf = refl
step_sort line.Break = refl
step_sort line.Mask = refl
step_sort line.Unmask = refl
step_sort line.Idle = refl
step_sort line.Trigger = refl

call_sort : (c : CallVerb) → sort_of (call_text c) ≡ sort.Inside
call_sort call.Open = refl
call_sort call.Close = refl
call_sort call.Read = refl
call_sort call.Write = refl
call_sort call.GetModes = refl
call_sort call.SetModes = refl
call_sort call.GetDisc = refl
call_sort call.SetDisc = refl
call_sort call.Flush = refl
call_sort call.Xonc = refl
call_sort call.Inq = refl
call_sort call.Outq = refl
call_sort call.Excl = refl
call_sort call.Nxcl = refl
call_sort call.Drain = refl
call_sort call.Counts = refl
call_sort call.Vhangup = refl
call_sort call.Send = refl
call_sort call.Take = refl

sort_is : (v : Verb) → sort_of (verb_text v) ≡ sort_by v
sort_is verb.Session = refl
sort_is verb.Ports = refl
sort_is verb.Flip = refl
sort_is verb.Phase = refl
sort_is verb.Line = refl
sort_is verb.Clock = refl
sort_is verb.Caller = refl
sort_is verb.Tick = refl
sort_is verb.End = refl
sort_is (verb.Step l) = step_sort l
sort_is (verb.Call c) = call_sort c

-- An item that is read: what it is, and what is read then.
pub record Took (r : PlainReading) (word : List ℕ) (arguments : List (List ℕ)) (next : PlainReading) : Type 0 where
  pub what : Verb
  pub fine : verdict_on r.stand word arguments ≡ Ok what
  pub text : word ≡ verb_text what
  pub is : next ≡ reading_with r what arguments

pub took_sort : (r next : PlainReading) (word : List ℕ) (arguments : List (List ℕ)) (took : Took r word arguments next)
    → sort_of word ≡ sort_by took.what
took_sort r next word arguments took = ap sort_of took.text ∙ sort_is took.what

fits_past : (s : PlainStand) (at : ItemPlace) (word : List ℕ) (arguments : List (List ℕ)) (v : Verb)
    → is_start at ≡ false
    → HeaderOr s at word arguments v
    → Fits s v arguments
fits_past s at word arguments v past (inl header) = absurd (both_ways (is_start at) past header.0)
fits_past s at word arguments v past (inr other) = other.2

header_first : (s : PlainStand) (at : ItemPlace) (word : List ℕ) (arguments : List (List ℕ)) (v : Verb)
    → is_start at ≡ true
    → HeaderOr s at word arguments v
    → verb.Session ≡ v
header_first s at word arguments v first (inl header) = header.2
header_first s at word arguments v first (inr other) = absurd (both_ways (is_start at) other.0 first)

pub took_fits : (r next : PlainReading) (word : List ℕ) (arguments : List (List ℕ)) (took : Took r word arguments next)
    → is_start r.stand.place ≡ false
    → Fits r.stand took.what arguments
took_fits r next word arguments took past = fits_past r.stand r.stand.place word arguments took.what past
    (found_at r.stand r.stand.place word arguments took.what took.fine)

pub took_header : (r next : PlainReading) (word : List ℕ) (arguments : List (List ℕ))
    (took : Took r word arguments next)
    → is_start r.stand.place ≡ true
    → verb.Session ≡ took.what
took_header r next word arguments took first = header_first r.stand r.stand.place word arguments took.what first
    (found_at r.stand r.stand.place word arguments took.what took.fine)

took_by : (r next : PlainReading) (n : ℕ) (word : List ℕ) (arguments : List (List ℕ)) (verdict : Result Verb Reason)
    → verdict_on r.stand word arguments ≡ verdict
    → reading_after_item r n arguments verdict ≡ Ok next
    → Took r word arguments next
took_by r next n word arguments (Ok v) e h = record {
  what = v;
  fine = e;
  text = word_is r.stand r.stand.place word arguments v (found_at r.stand r.stand.place word arguments v e);
  is = sym (ok_is (reading_with r v arguments) next h);
}
took_by r next n word arguments (Err why) e h = absurd (cc)

pub item_took : (r next : PlainReading) (n : ℕ) (word : List ℕ) (arguments : List (List ℕ))
    → reading_after_item r n arguments (verdict_on r.stand word arguments) ≡ Ok next
    → Took r word arguments next
item_took r next n word arguments h = took_by r next n word arguments (verdict_on r.stand word arguments) refl h

-- the line's number is not looked at
took_again : (r next : PlainReading) (n : ℕ) (word : List ℕ) (arguments : List (List ℕ))
    → Took r word arguments next
    → reading_after_item r n arguments (verdict_on r.stand word arguments) ≡ Ok next
took_again r next n word arguments took =
    ap (λ (v : Result Verb Reason). reading_after_item r n arguments v) took.fine
    ∙ ap (λ (x : PlainReading). good x) (sym took.is)

-- ---- what a line makes of what is read of the session of ports, where it is so many steps

pub record Takes (steps : ℕ) (r : BaseReading) (word : List ℕ) (arguments : List (List ℕ))
    (next : BaseReading) : Type 0 where
  pub took : Took r.session word arguments next.session
  pub spent : next.steps_left + steps ≡ r.steps_left

pub base_item : (r next : BaseReading) (n : ℕ) (word : List ℕ) (arguments : List (List ℕ))
    → base_after_item r n word arguments ≡ Ok next
    → Takes 0 r word arguments next
base_item r next n word arguments h =
    let went = then_ok (reading_after_item r.session n arguments (verdict_on r.session.stand word arguments))
    (λ (session : PlainReading). good (record r { session = session })) next h in
    let is = ok_is (record r { session = went.x }) next went.goes_on in
    let same : r.steps_left ≡ next.steps_left = ap (λ (b : BaseReading). b.steps_left) is in
    record {
      took = subst (Took r.session word arguments) (ap (λ (b : BaseReading). b.session) is)
          (item_took r.session went.x n word arguments went.was);
      spent = omega (arith, same);
    }

ports_by : (b : Bool) (ports : ℕ) (r next : BaseReading) (n : ℕ) (word : List ℕ) (arguments : List (List ℕ))
    → (if b
    then (base_after_item r n word arguments >>= λ (x : BaseReading). good (record x { ports = ports }))
    else base_after_item r n word arguments) ≡ Ok next
    → Takes 0 r word arguments next
ports_by true ports r next n word arguments h =
    let went =
    then_ok (base_after_item r n word arguments) (λ (x : BaseReading). good (record x { ports = ports })) next h in
    let is = ok_is (record went.x { ports = ports }) next went.goes_on in
    let takes = base_item r went.x n word arguments went.was in
    let same : went.x.steps_left ≡ next.steps_left = ap (λ (b : BaseReading). b.steps_left) is in
    record {
      took = subst (Took r.session word arguments) (ap (λ (b : BaseReading). b.session) is) takes.took;
      spent = omega (arith, same, takes.spent);
    }
ports_by false ports r next n word arguments h = base_item r next n word arguments h

pub base_ports : (r next : BaseReading) (n : ℕ) (word : List ℕ) (arguments : List (List ℕ))
    → base_after_ports r n word arguments ≡ Ok next
    → Takes 0 r word arguments next
base_ports r next n word arguments h =
    ports_by (length arguments == 1) (min (number_at arguments 0) MOST_PORTS) r next n word arguments h

some_left : (n : ℕ) → (n == 0) ≡ false → 1 ≤ n
some_left zero h = absurd (cc)
some_left (suc n) h = omega arith

pub record Spends (r next : BaseReading) : Type 0 where
  pub session : next.session ≡ r.session
  pub spent : next.steps_left + 1 ≡ r.steps_left

pub step_spent : (r next : BaseReading) (n : ℕ) → spend n r ≡ Ok next → Spends r next
step_spent r next n h =
    let went =
    not_wrong n reason.Limit (r.steps_left == 0) (good (record r { steps_left = r.steps_left - 1 })) next h in
    let is = ok_is (record r { steps_left = r.steps_left - 1 }) next went.1 in
    let left : r.steps_left - 1 ≡ next.steps_left = ap (λ (b : BaseReading). b.steps_left) is in
    record {
      session = sym (ap (λ (b : BaseReading). b.session) is);
      spent = omega (arith, left, some_left r.steps_left went.0);
    }

pub base_step : (r next : BaseReading) (n : ℕ) (word : List ℕ) (arguments : List (List ℕ))
    → base_after_step r n word arguments ≡ Ok next
    → Takes 1 r word arguments next
base_step r next n word arguments h =
    let went = then_ok (base_after_item r n word arguments) (spend n) next h in
    let takes = base_item r went.x n word arguments went.was in
    let spends = step_spent went.x next n went.goes_on in
    record {
      took = subst (Took r.session word arguments) (sym spends.session) takes.took;
      spent = omega (arith, spends.spent, takes.spent);
    }

-- ---- what is left of lines is read as a session of ports, whatever the numbers of its lines

abbrev pub Later : (is_own : List ℕ → Bool) → PlainReading → List (List (List ℕ)) → PlainSession → Type 0
Later is_own r lines x = (n : ℕ) → session_from r n (filter (is_shared is_own) lines) ≡ Ok x

-- a line that is left, or that is left out
either : (b : Bool) (r : PlainReading) (words : List (List ℕ)) (rest : List (List (List ℕ))) (n : ℕ) (x : PlainSession)
    → (b ≡ true → session_from r n (words ∷ rest) ≡ Ok x)
    → (b ≡ false → session_from r n rest ≡ Ok x)
    → session_from r n (cond b (words ∷ rest) rest) ≡ Ok x
either true r words rest n x there out = there refl
either false r words rest n x there out = out refl

pub blank_left : (is_own : List ℕ → Bool) (r : PlainReading) (lines : List (List (List ℕ))) (x : PlainSession)
    → Later is_own r lines x
    → Later is_own r ([] ∷ lines) x
blank_left is_own r lines x later n = later (next_line n)

silent : (r : PlainReading) (word : List ℕ) (arguments : List (List ℕ)) (rest : List (List (List ℕ))) (n : ℕ)
    (x : PlainSession)
    → first_is 35 word ≡ true
    → session_from r (next_line n) rest ≡ Ok x
    → session_from r n ((word ∷ arguments) ∷ rest) ≡ Ok x
silent r word arguments rest n x comment later =
    ap (λ (b : Bool). then_read
    (if b then Ok r else reading_after_item r n arguments (verdict_on r.stand word arguments))
    (λ s. session_from s (next_line n) rest)) comment
    ∙ later

pub comment_left : (is_own : List ℕ → Bool) (r : PlainReading) (word : List ℕ) (arguments : List (List ℕ))
    (lines : List (List (List ℕ))) (x : PlainSession)
    → first_is 35 word ≡ true
    → Later is_own r lines x
    → Later is_own r ((word ∷ arguments) ∷ lines) x
comment_left is_own r word arguments lines x comment later n =
    either (not (is_own word)) r (word ∷ arguments) (filter (is_shared is_own) lines) n x
    (λ there. silent r word arguments (filter (is_shared is_own) lines) n x comment (later (next_line n)))
    (λ out. later n)

pub read_on : (r next : PlainReading) (word : List ℕ) (arguments : List (List ℕ)) (rest : List (List (List ℕ))) (n : ℕ)
    (x : PlainSession)
    → first_is 35 word ≡ false
    → Took r word arguments next
    → session_from next (next_line n) rest ≡ Ok x
    → session_from r n ((word ∷ arguments) ∷ rest) ≡ Ok x
read_on r next word arguments rest n x says took later =
    ap (λ (b : Bool). then_read
    (if b then Ok r else reading_after_item r n arguments (verdict_on r.stand word arguments))
    (λ s. session_from s (next_line n) rest)) says
    ∙ ap (λ (read : Result PlainReading BadLine). then_read read (λ s. session_from s (next_line n) rest))
    (took_again r next n word arguments took)
    ∙ later

pub item_left : (is_own : List ℕ → Bool) (r next : PlainReading) (word : List ℕ) (arguments : List (List ℕ))
    (lines : List (List (List ℕ))) (x : PlainSession)
    → first_is 35 word ≡ false
    → is_own word ≡ false
    → Took r word arguments next
    → Later is_own next lines x
    → Later is_own r ((word ∷ arguments) ∷ lines) x
item_left is_own r next word arguments lines x says shared took later n =
    ap (λ (b : Bool). session_from r n
    (cond (not b) ((word ∷ arguments) ∷ filter (is_shared is_own) lines) (filter (is_shared is_own) lines))) shared
    ∙ read_on r next word arguments (filter (is_shared is_own) lines) n x says took (later (next_line n))

pub own_left : (is_own : List ℕ → Bool) (r next : PlainReading) (word : List ℕ) (arguments : List (List ℕ))
    (lines : List (List (List ℕ))) (x : PlainSession)
    → is_own word ≡ true
    → next ≡ r
    → Later is_own next lines x
    → Later is_own r ((word ∷ arguments) ∷ lines) x
own_left is_own r next word arguments lines x own same later n =
    ap (λ (b : Bool). session_from r n
    (cond (not b) ((word ∷ arguments) ∷ filter (is_shared is_own) lines) (filter (is_shared is_own) lines))) own
    ∙ ap (λ (s : PlainReading). session_from s n (filter (is_shared is_own) lines)) (sym same)
    ∙ later n

end_if : (b : Bool) (n m : ℕ) (why : Reason) (here x : PlainSession)
    → (if b then Ok here else bad n why) ≡ Ok x
    → (if b then Ok here else bad m why) ≡ Ok x
end_if true n m why here x e = e
end_if false n m why here x e = absurd (cc)

pub end_left : (is_own : List ℕ → Bool) (r : PlainReading) (n : ℕ) (x : PlainSession)
    → session_at_end r n ≡ Ok x
    → Later is_own r [] x
end_left is_own r n x h m = end_if (is_ended r.stand.place) n m reason.Order (session_read r.stand r.draft) x h

-- the header is a line of every session
pub header_left : (is_own : List ℕ → Bool) (r next : PlainReading) (word : List ℕ) (arguments : List (List ℕ))
    → is_own (codes "tty-session") ≡ false
    → is_start r.stand.place ≡ true
    → Took r word arguments next
    → is_own word ≡ false
header_left is_own r next word arguments none first took =
    ap is_own (took.text ∙ ap verb_text (sym (took_header r next word arguments took first))) ∙ none

-- and has the phases that were read
ended_by : (b : Bool) (n : ℕ) (here x : PlainSession) → (if b then Ok here else bad n reason.Order) ≡ Ok x → here ≡ x
ended_by true n here x e = ok_is here x e
ended_by false n here x e = absurd (cc)

pub ended_is : (r : PlainReading) (n : ℕ) (x : PlainSession) → session_at_end r n ≡ Ok x → x.phases ≡ all_phases r.draft
ended_is r n x h =
    sym (ap (λ (s : PlainSession). s.phases) (ended_by (is_ended r.stand.place) n (session_read r.stand r.draft) x h))
