-- What is judged good where the reader stands, each way.
use Rattle.std.proofs.Common.{◌≡◌, ◌⊎◌, inl, inr, ℕ, ◌==◌, ◌&&◌, Bool, true, false, cond, List, [], ◌∷◌}
use Rattle.std.proofs.Common.{length, Option, Some, None, Result, Ok, Err, refl, ap, sym, subst, ◌∙◌}
use Rattle.std.specs.Prelude.{option_map, codes}
use Rattle.std.specs.Option.{option_or}
use Rattle.std.specs.Str.{bytes_eq}
use Rattle.std.proofs.lemmas.Bool.{and_parts}
use Rattle.std.proofs.lemmas.Slice.Eq.{bytes_eq-Decides}
use Rattle.text_lines.specs.Values.{choice_of}
use Rattle.session_text.specs.declared.faults.Reason.{Reason}
use Rattle.session_text.specs.declared.faults.Reason.TheVariants as reason
use Rattle.session_text.specs.declared.verbs.Verb.{Verb}
use Rattle.session_text.specs.declared.verbs.Verb.TheVariants.{Session, Flip, Step, Call}
use Rattle.session_text.specs.declared.verbs.LineVerb.{LineVerb}
use Rattle.session_text.specs.declared.verbs.LineVerb.TheVariants.{Rx, Rxp, Rxf, Break, Mask, Unmask, Idle, Trigger}
use Rattle.session_text.specs.declared.verbs.CallVerb.{CallVerb}
use Rattle.session_text.specs.declared.verbs.CallVerb.TheVariants as call
use Rattle.session_text.specs.declared.stands.ItemPlace.{ItemPlace}
use Rattle.session_text.specs.declared.stands.ItemPlace.TheVariants as place
use Rattle.session_text.specs.Verbs.{verb_of, verb_text, block_verbs, line_verbs, call_verbs}
use Rattle.session_text.specs.Verbs.{line_text, call_text, block_verb_of, line_verb_of, call_verb_of}
use Rattle.session_text.specs.Kinds.{may_have, fault_from}
use Rattle.session_text.specs.Stands.{PlainStand, may_stand, is_good, has_stood, is_over, item_fault}
use Rattle.session_text.specs.Stands.{unless, verdict_on, verdict_at, first_verdict, verb_verdict, in_phase}
use Rattle.session_text.proofs.Bounds.{passes_from, verdict_passes}
use Rattle.session_text.proofs.Fits.{item_good, good_parts, judged_verb_good}
use Rattle.session_text.proofs.Rests.{Fits}

-- ---- words and verbs

chosen : {X : Type 0} (b : Bool) (y x : X) (rest : Option X)
    → cond b (Some y) rest ≡ Some x
    → ((b ≡ true) × (y ≡ x)) ⊎ (rest ≡ Some x)
chosen true y x rest h = inl (refl, cc)
chosen false y x rest h = inr h

choice_found : {X : Type 0} (text_of : X → List ℕ) (xs : List X) (word : List ℕ) (x : X)
    → choice_of text_of xs word ≡ Some x
    → word ≡ text_of x
choice_found text_of [] word x h = cc
choice_found {X} text_of (y ∷ xs) word x h =
    elim (chosen (bytes_eq word (text_of y)) y x (choice_of text_of xs word) h) [
      | inl here ↦ (bytes_eq-Decides word (text_of y)).0 here.0 ∙ ap text_of here.1
      | inr later ↦ choice_found text_of xs word x later
    ]

or_found : {X : Type 0} (a b : Option X) (x : X) → option_or a b ≡ Some x → (a ≡ Some x) ⊎ (b ≡ Some x)
or_found None b x h = inr h
or_found (Some y) b x h = inl h

line_found : (verb : Option LineVerb) (found : Verb) (word : List ℕ)
    → ((v : LineVerb) → verb ≡ Some v → word ≡ line_text v)
    → option_map Step verb ≡ Some found
    → word ≡ verb_text found
line_found None found word text h = cc
line_found (Some v) found word text h = let same : Step v ≡ found = cc in text v refl ∙ ap verb_text same

call_found : (verb : Option CallVerb) (found : Verb) (word : List ℕ)
    → ((v : CallVerb) → verb ≡ Some v → word ≡ call_text v)
    → option_map Call verb ≡ Some found
    → word ≡ verb_text found
call_found None found word text h = cc
call_found (Some v) found word text h = let same : Call v ≡ found = cc in text v refl ∙ ap verb_text same

flip_found : (b : Bool) (found : Verb) → cond b (Some Flip) None ≡ Some found → (b ≡ true) × (Flip ≡ found)
flip_found true found h = (refl, cc)
flip_found false found h = cc

verb_found_by : (version : ℕ) (word : List ℕ) (found : Verb) (flip : Bool)
    → bytes_eq word (codes "flip") ≡ flip
    → cond flip (cond (version == 2) (Some Flip) None)
    (option_or (block_verb_of word)
    (option_or (option_map Step (line_verb_of word)) (option_map Call (call_verb_of word)))) ≡ Some found
    → word ≡ verb_text found
verb_found_by version word found true e h =
    (bytes_eq-Decides word (codes "flip")).0 e ∙ ap verb_text (flip_found (version == 2) found h).1
verb_found_by version word found false e h =
    elim (or_found (block_verb_of word)
    (option_or (option_map Step (line_verb_of word)) (option_map Call (call_verb_of word))) found h) [
      | inl block ↦ choice_found verb_text block_verbs word found block
      | inr other ↦
          elim (or_found (option_map Step (line_verb_of word)) (option_map Call (call_verb_of word)) found other) [
            | inl line ↦
                line_found (line_verb_of word) found word (λ v e. choice_found line_text line_verbs word v e) line
            | inr called ↦
                call_found (call_verb_of word) found word (λ v e. choice_found call_text call_verbs word v e) called
          ]
    ]

-- a word is what its verb is written as
pub verb_found : (version : ℕ) (word : List ℕ) (found : Verb)
    → verb_of version word ≡ Some found
    → word ≡ verb_text found
verb_found version word found h = verb_found_by version word found (bytes_eq word (codes "flip")) refl h

pub line_verb_read : (version : ℕ) (verb : LineVerb) → verb_of version (line_text verb) ≡ Some (Step verb)
line_verb_read version Rx = refl
line_verb_read version Rxp = refl
line_verb_read version Rxf = refl
line_verb_read version Break = refl
line_verb_read version Mask = refl
line_verb_read version Unmask = refl
line_verb_read version Idle = refl
line_verb_read version Trigger = refl

pub call_verb_read : (version : ℕ) (verb : CallVerb) → verb_of version (call_text verb) ≡ Some (Call verb)
call_verb_read version call.Open = refl
call_verb_read version call.Close = refl
call_verb_read version call.Read = refl
call_verb_read version call.Write = refl
call_verb_read version call.GetModes = refl
call_verb_read version call.SetModes = refl
call_verb_read version call.GetDisc = refl
call_verb_read version call.SetDisc = refl
call_verb_read version call.Flush = refl
call_verb_read version call.Xonc = refl
call_verb_read version call.Inq = refl
call_verb_read version call.Outq = refl
call_verb_read version call.Excl = refl
call_verb_read version call.Nxcl = refl
call_verb_read version call.Drain = refl
call_verb_read version call.Counts = refl
call_verb_read version call.Vhangup = refl
call_verb_read version call.Send = refl
call_verb_read version call.Take = refl

-- `flip` is a verb in version 2 alone
pub flip_version : (version : ℕ) → verb_of version (codes "flip") ≡ Some Flip → (version == 2) ≡ true
flip_version version h = (flip_found (version == 2) Flip h).0

-- ---- judged good

abbrev pub is_start : ItemPlace → Bool
is_start place.Start = true
is_start other = false

pub judged_other : (s : PlainStand) (at : ItemPlace) (word : List ℕ) (arguments : List (List ℕ))
    → is_start at ≡ false
    → verdict_at s at word arguments ≡ verb_verdict s (verb_of s.version word) arguments
judged_other s place.Start word arguments h = cc
judged_other s place.Head word arguments h = refl
judged_other s place.Before word arguments h = refl
judged_other s place.Phase word arguments h = refl
judged_other s place.Line word arguments h = refl
judged_other s place.Clock word arguments h = refl
judged_other s place.Caller word arguments h = refl
judged_other s place.Ended word arguments h = refl

-- what is judged good past the first item is a verb that passes the tests
pub good_fits : (s : PlainStand) (word : List ℕ) (arguments : List (List ℕ)) (verb : Verb)
    → is_start s.place ≡ false
    → verdict_on s word arguments ≡ Ok verb
    → (verb_of s.version word ≡ Some verb) × Fits s verb arguments
good_fits s word arguments verb past h =
    let found =
    judged_verb_good s (verb_of s.version word) arguments verb (sym (judged_other s s.place word arguments past) ∙ h) in
    let passes = passes_from (may_stand verb s.place) (may_have verb (length arguments))
    (fault_from s.ports verb 0 arguments) (has_stood s verb arguments) (is_over s verb arguments)
    reason.Word reason.Order reason.Limit found.1 in (
      found.0,
      record {
        at = passes.0.at;
        good = item_good s verb arguments found.1;
        once = passes.0.once;
        within = passes.0.fits;
      },
    )

fits_fault : (s : PlainStand) (verb : Verb) (arguments : List (List ℕ))
    → Fits s verb arguments
    → item_fault s verb arguments ≡ None
fits_fault s verb arguments fits =
    let good = good_parts s.ports verb arguments fits.good in
    verdict_passes (may_stand verb s.place) (may_have verb (length arguments)) (fault_from s.ports verb 0 arguments)
    (has_stood s verb arguments) (is_over s verb arguments) reason.Word reason.Order reason.Limit
    (record { at = fits.at; count = good.0; once = fits.once; fits = fits.within }) good.1

-- .. and such a verb is judged good
pub fits_good : (s : PlainStand) (word : List ℕ) (arguments : List (List ℕ)) (verb : Verb)
    → is_start s.place ≡ false
    → verb_of s.version word ≡ Some verb
    → Fits s verb arguments
    → verdict_on s word arguments ≡ Ok verb
fits_good s word arguments verb past known fits =
    judged_other s s.place word arguments past
    ∙ ap (λ (v : Option Verb). verb_verdict s v arguments) known
    ∙ ap (λ (f : Option Reason). unless f verb) (fits_fault s verb arguments fits)

-- what is judged good is what its verb is written as
first_found : (b : Bool) (found : Verb)
    → (let r : Result Verb Reason = cond b (Ok Session) (Err reason.Header) in r ≡ Ok found)
    → (b ≡ true) × (Session ≡ found)
first_found true found h = (refl, cc)
first_found false found h = cc

start_found : (s : PlainStand) (word : List ℕ) (arguments : List (List ℕ)) (found : Verb)
    → first_verdict s word arguments ≡ Ok found
    → (word ≡ codes "tty-session") × (is_good s.ports Session arguments ≡ true) × (Session ≡ found)
start_found s word arguments found h =
    let parts = first_found (bytes_eq word (codes "tty-session") && is_good s.ports Session arguments) found h in
    let both = and_parts (bytes_eq word (codes "tty-session")) (is_good s.ports Session arguments) parts.0 in
    ((bytes_eq-Decides word (codes "tty-session")).0 both.0, both.1, parts.1)

word_found_at : (s : PlainStand) (at : ItemPlace) (word : List ℕ) (arguments : List (List ℕ)) (found : Verb)
    (start : Bool)
    → is_start at ≡ start
    → verdict_at s at word arguments ≡ Ok found
    → word ≡ verb_text found
word_found_at s place.Start word arguments found start e h =
    let parts = start_found s word arguments found h in parts.0 ∙ ap verb_text parts.2
word_found_at s place.Head word arguments found start e h =
    verb_found s.version word found (judged_verb_good s (verb_of s.version word) arguments found h).0
word_found_at s place.Before word arguments found start e h =
    verb_found s.version word found (judged_verb_good s (verb_of s.version word) arguments found h).0
word_found_at s place.Phase word arguments found start e h =
    verb_found s.version word found (judged_verb_good s (verb_of s.version word) arguments found h).0
word_found_at s place.Line word arguments found start e h =
    verb_found s.version word found (judged_verb_good s (verb_of s.version word) arguments found h).0
word_found_at s place.Clock word arguments found start e h =
    verb_found s.version word found (judged_verb_good s (verb_of s.version word) arguments found h).0
word_found_at s place.Caller word arguments found start e h =
    verb_found s.version word found (judged_verb_good s (verb_of s.version word) arguments found h).0
word_found_at s place.Ended word arguments found start e h =
    verb_found s.version word found (judged_verb_good s (verb_of s.version word) arguments found h).0

pub word_found : (s : PlainStand) (word : List ℕ) (arguments : List (List ℕ)) (found : Verb)
    → verdict_on s word arguments ≡ Ok found
    → word ≡ verb_text found
word_found s word arguments found h = word_found_at s s.place word arguments found (is_start s.place) refl h

-- the header
pub header_found : (s : PlainStand) (word : List ℕ) (arguments : List (List ℕ)) (found : Verb)
    → s.place ≡ place.Start
    → verdict_on s word arguments ≡ Ok found
    → (is_good s.ports Session arguments ≡ true) × (Session ≡ found)
header_found s word arguments found at h =
    let parts =
    start_found s word arguments found (subst (λ (p : ItemPlace). verdict_at s p word arguments ≡ Ok found) at h) in
    (parts.1, parts.2)

pub header_good : (s : PlainStand) (arguments : List (List ℕ))
    → s.place ≡ place.Start
    → is_good s.ports Session arguments ≡ true
    → verdict_on s (codes "tty-session") arguments ≡ Ok Session
header_good s arguments at good =
    subst (λ (p : ItemPlace). verdict_at s p (codes "tty-session") arguments ≡ Ok Session) (sym at)
    (let e : (bytes_eq (codes "tty-session") (codes "tty-session") && is_good s.ports Session arguments)
    ≡ true = good in
    ap (λ (b : Bool). let r : Result Verb Reason = cond b (Ok Session) (Err reason.Header) in r) e)

pub past_in_phase : (at : ItemPlace) → in_phase at ≡ true → is_start at ≡ false
past_in_phase place.Start h = cc
past_in_phase place.Head h = refl
past_in_phase place.Before h = refl
past_in_phase place.Phase h = refl
past_in_phase place.Line h = refl
past_in_phase place.Clock h = refl
past_in_phase place.Caller h = refl
past_in_phase place.Ended h = refl
