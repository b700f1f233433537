-- The verb of a word, by its slot.
use Rattle.std.proofs.Common.{◌≡◌, ◌<◌, ℕ, true, false, List, get_or, Option}
use Rattle.std.proofs.Common.{Some, None, refl, sym, ap, ◌∙◌, arith, bytes_eq}
use Rattle.std.proofs.lemmas.Slice.Eq.{bytes_eq-Decides}
use Rattle.tty_modes.proofs.NameSlots.{entries_below}
use Rattle.session_text.specs.declared.verbs.TheConstants.{VERBS, VERB_SLOTS}
use Rattle.session_text.specs.declared.verbs.Verb.{Verb}
use Rattle.session_text.specs.declared.verbs.Verb.TheVariants.{Session, Ports, Flip, Phase, Line}
use Rattle.session_text.specs.declared.verbs.Verb.TheVariants.{Clock, Caller, Tick, End, Step, Call}
use Rattle.session_text.specs.declared.verbs.LineVerb.{LineVerb}
use Rattle.session_text.specs.declared.verbs.LineVerb.TheVariants.{Rx, Rxp, Rxf, Break, Mask, Unmask, Idle, Trigger}
use Rattle.session_text.specs.declared.verbs.CallVerb.{CallVerb}
use Rattle.session_text.specs.declared.verbs.CallVerb.TheVariants as call
use Rattle.session_text.specs.Verbs.{line_text, call_text, verb_text, verb_of}
use Rattle.session_text.specs.VerbSlots.{slot_of}
use Rattle.session_text.proofs.Judged.{verb_found, line_verb_read, call_verb_read}

abbrev near : List ℕ → Verb
near word = get_or VERBS (get_or VERB_SLOTS (slot_of word) 0) Session

line_near : (verb : LineVerb) → near (line_text verb) ≡ Step verb
line_near Rx = refl
line_near Rxp = refl
line_near Rxf = refl
line_near Break = refl
line_near Mask = refl
line_near Unmask = refl
line_near Idle = refl
line_near Trigger = refl

call_near : (verb : CallVerb) → near (call_text verb) ≡ Call verb
call_near call.Open = refl
call_near call.Close = refl
call_near call.Read = refl
call_near call.Write = refl
call_near call.GetModes = refl
call_near call.SetModes = refl
call_near call.GetDisc = refl
call_near call.SetDisc = refl
call_near call.Flush = refl
call_near call.Xonc = refl
call_near call.Inq = refl
call_near call.Outq = refl
call_near call.Excl = refl
call_near call.Nxcl = refl
call_near call.Drain = refl
call_near call.Counts = refl
call_near call.Vhangup = refl
call_near call.Send = refl
call_near call.Take = refl

-- each verb stands where the slot of its text says
verb_near : (verb : Verb) → near (verb_text verb) ≡ verb
verb_near Session = refl
verb_near Ports = refl
verb_near Flip = refl
verb_near Phase = refl
verb_near Line = refl
verb_near Clock = refl
verb_near Caller = refl
verb_near Tick = refl
verb_near End = refl
verb_near (Step verb) = line_near verb
verb_near (Call verb) = call_near verb

missed : (version : ℕ) (text word : List ℕ) (verb : Verb) (o : Option Verb)
    → verb_of version word ≡ o
    → verb ≡ near word
    → text ≡ verb_text verb
    → bytes_eq text word ≡ false
    → None ≡ o
missed version text word verb None read by written other = refl
missed version text word verb (Some found) read by written other =
    let is : word ≡ verb_text found = verb_found version word found read in
    let same : verb ≡ found = by ∙ ap near is ∙ verb_near found in
    let equal : text ≡ word = written ∙ ap verb_text same ∙ sym is in
    let tested : bytes_eq text word ≡ true = (bytes_eq-Decides text word).1 equal in
    absurd (cc)

-- a word that is not the text of the verb where its slot says is no verb
pub verb_missed : (version : ℕ) (text word : List ℕ) (verb : Verb)
    → verb ≡ near word
    → text ≡ verb_text verb
    → bytes_eq text word ≡ false
    → None ≡ verb_of version word
verb_missed version text word verb by written other =
    missed version text word verb (verb_of version word) refl by written other

-- .. and one that is that text is read as the text
pub verb_hit : (version : ℕ) (text word : List ℕ) (verb : Verb) (r : Option Verb)
    → text ≡ verb_text verb
    → bytes_eq text word ≡ true
    → r ≡ verb_of version (verb_text verb)
    → r ≡ verb_of version word
verb_hit version text word verb r written same read =
    read ∙ ap (verb_of version) (sym written ∙ (bytes_eq-Decides text word).0 same)

-- a verb's own text
pub own_verb : (version : ℕ) (verb : Verb) → (verb ≡ Flip → version ≡ 2) → Some verb ≡ verb_of version (verb_text verb)
own_verb version Session good = refl
own_verb version Ports good = refl
own_verb version Phase good = refl
own_verb version Line good = refl
own_verb version Clock good = refl
own_verb version Caller good = refl
own_verb version Tick good = refl
own_verb version End good = refl
own_verb version Flip good = let two : version ≡ 2 = good refl in sym (ap (λ (n : ℕ). verb_of n (verb_text Flip)) two)
own_verb version (Step verb) good = sym (line_verb_read version verb)
own_verb version (Call verb) good = sym (call_verb_read version verb)

pub places_small : (slot : ℕ) → get_or VERB_SLOTS slot 0 < 36
places_small slot = entries_below 36 VERB_SLOTS slot (omega arith) refl
