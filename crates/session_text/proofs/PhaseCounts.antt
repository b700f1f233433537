-- How many phases a session has as far as it was read, item by item; and its limits, by its lines.
use Rattle.std.proofs.Common.{◌≡◌, ℕ, ◌+◌, Bool, true, false, Option, None, Some, Result, Ok, Err, List, []}
use Rattle.std.proofs.Common.{◌∷◌, ◌++◌, length, refl, sym, ◌∙◌, ap, subst, length-append, option_to_list}
use Rattle.std.specs.Prelude.{codes, option_map}
use Rattle.std.specs.Str.{bytes_eq}
use Rattle.tty_calls.specs.Limits.{IsWithinLimits}
use Rattle.tty_calls.specs.Sessions.{PlainPhase, PlainSession}
use Rattle.session_text.specs.declared.faults.Reason.{Reason}
use Rattle.session_text.specs.declared.faults.BadLine.{BadLine}
use Rattle.session_text.specs.declared.stands.ItemPlace.{ItemPlace}
use Rattle.session_text.specs.declared.stands.ItemPlace.TheVariants as place
use Rattle.session_text.specs.declared.verbs.Verb.{Verb}
use Rattle.session_text.specs.declared.verbs.Verb.TheVariants.{Session, Ports, Flip, Phase, Line}
use Rattle.session_text.specs.declared.verbs.Verb.TheVariants.{Clock, Caller, Tick, End, Step, Call}
use Rattle.session_text.specs.Verbs.{verb_text, verb_of}
use Rattle.session_text.specs.Stands.{PlainStand, is_start, is_head, is_ended}
use Rattle.session_text.specs.Stands.{in_phase, may_stand, verdict_on, stand_after}
use Rattle.session_text.specs.Drafts.{PlainDraft, all_phases, with_open, phase_after, draft_after}
use Rattle.session_text.specs.Reading.{PlainReading, first_reading, reading_with, reading_after_item, session_from}
use Rattle.session_text.specs.Grammar.{session_meaning}
use Rattle.session_text.proofs.Judged.{is_start as stands_at_start, good_fits, word_found, header_found}
use Rattle.session_text.proofs.Runs.{session_read}
use Rattle.session_text.proofs.Heads.{run_written, written_taken}
use Rattle.session_text.proofs.Spelled.{lines_read}
use Rattle.session_text.proofs.Within.{written_within}

-- ---- places

head_no_phase : (at : ItemPlace) → is_head at ≡ true → in_phase at ≡ false
head_no_phase place.Head e = refl
head_no_phase place.Start e = absurd (cc)
head_no_phase place.Ended e = absurd (cc)
head_no_phase place.Before e = absurd (cc)
head_no_phase place.Phase e = absurd (cc)
head_no_phase place.Line e = absurd (cc)
head_no_phase place.Clock e = absurd (cc)
head_no_phase place.Caller e = absurd (cc)

past_start : (at : ItemPlace) → is_start at ≡ false → stands_at_start at ≡ false
past_start place.Start h = absurd (cc)
past_start place.Head h = refl
past_start place.Ended h = refl
past_start place.Before h = refl
past_start place.Phase h = refl
past_start place.Line h = refl
past_start place.Clock h = refl
past_start place.Caller h = refl

start_is : (at : ItemPlace) → stands_at_start at ≡ true → at ≡ place.Start
start_is place.Start h = refl
start_is place.Head h = absurd (cc)
start_is place.Ended h = absurd (cc)
start_is place.Before h = absurd (cc)
start_is place.Phase h = absurd (cc)
start_is place.Line h = absurd (cc)
start_is place.Clock h = absurd (cc)
start_is place.Caller h = absurd (cc)

pub ended_no_phase : (at : ItemPlace) → is_ended at ≡ true → in_phase at ≡ false
ended_no_phase place.Ended h = refl
ended_no_phase place.Start h = absurd (cc)
ended_no_phase place.Head h = absurd (cc)
ended_no_phase place.Before h = absurd (cc)
ended_no_phase place.Phase h = absurd (cc)
ended_no_phase place.Line h = absurd (cc)
ended_no_phase place.Clock h = absurd (cc)
ended_no_phase place.Caller h = absurd (cc)

-- ---- items inside a phase, and at its ends

opened_by : (phases : List PlainPhase) (o : Option PlainPhase) (change : PlainPhase → PlainPhase)
    → length (phases ++ option_to_list (option_map change o)) ≡ length (phases ++ option_to_list o)
opened_by phases None change = refl
opened_by phases (Some x) change = length-append phases (change x ∷ []) ∙ sym (length-append phases (x ∷ []))

opened : (d : PlainDraft) (change : PlainPhase → PlainPhase)
    → length (all_phases (with_open d change)) ≡ length (all_phases d)
opened d change = opened_by d.phases d.open_phase change

abbrev is_border : Verb → Bool
is_border Phase = true
is_border End = true
is_border other = false

abbrev Stays : PlainStand → PlainDraft → Verb → List (List ℕ) → Type 0
Stays s d verb arguments =
    (length (all_phases (draft_after s d verb arguments)) ≡ length (all_phases d))
    × (in_phase (stand_after s verb arguments).place ≡ in_phase s.place)

stays : (s : PlainStand) (d : PlainDraft) (verb : Verb) (arguments : List (List ℕ))
    → may_stand verb s.place ≡ true
    → is_border verb ≡ false
    → Stays s d verb arguments
stays s d Session arguments h b = absurd (cc)
stays s d Ports arguments h b = (refl, sym (head_no_phase s.place h))
stays s d Flip arguments h b = (refl, refl)
stays s d Phase arguments h b = absurd (cc)
stays s d Line arguments h b = (refl, sym h)
stays s d Clock arguments h b = (refl, sym h)
stays s d Caller arguments h b = (opened d (phase_after s Caller arguments), sym h)
stays s d Tick arguments h b = (opened d (phase_after s Tick arguments), refl)
stays s d End arguments h b = absurd (cc)
stays s d (Step verb) arguments h b = (opened d (phase_after s (Step verb) arguments), refl)
stays s d (Call verb) arguments h b = (opened d (phase_after s (Call verb) arguments), refl)

stays_at_start : (s : PlainStand) (d : PlainDraft) (verb : Verb) (arguments : List (List ℕ))
    → s.place ≡ place.Start
    → Session ≡ verb
    → Stays s d verb arguments
stays_at_start s d verb arguments at e = subst (λ (v : Verb). Stays s d v arguments) e (refl, sym (ap in_phase at))

stays_by : (s : PlainStand) (d : PlainDraft) (word : List ℕ) (arguments : List (List ℕ)) (verb : Verb) (start : Bool)
    → stands_at_start s.place ≡ start
    → verdict_on s word arguments ≡ Ok verb
    → is_border verb ≡ false
    → Stays s d verb arguments
stays_by s d word arguments verb true e good border =
    let at = start_is s.place e in
    stays_at_start s d verb arguments at (header_found s word arguments verb at good).1
stays_by s d word arguments verb false e good border =
    stays s d verb arguments (good_fits s word arguments verb e good).1.at border

no_border : (verb : Verb) (word : List ℕ)
    → word ≡ verb_text verb
    → bytes_eq word (codes "phase") ≡ false
    → bytes_eq word (codes "end") ≡ false
    → is_border verb ≡ false
no_border Session word e p q = refl
no_border Ports word e p q = refl
no_border Flip word e p q = refl
no_border Phase word e p q =
    let k : true ≡ false = subst (λ (w : List ℕ). bytes_eq w (codes "phase") ≡ false) e p in absurd (cc)
no_border Line word e p q = refl
no_border Clock word e p q = refl
no_border Caller word e p q = refl
no_border Tick word e p q = refl
no_border End word e p q =
    let k : true ≡ false = subst (λ (w : List ℕ). bytes_eq w (codes "end") ≡ false) e q in absurd (cc)
no_border (Step verb) word e p q = refl
no_border (Call verb) word e p q = refl

-- ---- what an item does

record Takes (r : PlainReading) (word : List ℕ) (arguments : List (List ℕ)) (next : PlainReading) : Type 0 where
  verb : Verb
  good : verdict_on r.stand word arguments ≡ Ok verb
  is : next ≡ reading_with r verb arguments

ok_same : {X : Type 0} (a b : X) → (let r : Result X BadLine = Ok a in r) ≡ Ok b → a ≡ b
ok_same a b h = cc

takes_by : (r : PlainReading) (n : ℕ) (word : List ℕ) (arguments : List (List ℕ)) (verdict : Result Verb Reason)
    (next : PlainReading)
    → verdict_on r.stand word arguments ≡ verdict
    → reading_after_item r n arguments verdict ≡ Ok next
    → Takes r word arguments next
takes_by r n word arguments (Ok verb) next e h =
    record { verb = verb; good = e; is = sym (ok_same (reading_with r verb arguments) next h) }
takes_by r n word arguments (Err fault) next e h = absurd (cc)

takes : (r : PlainReading) (n : ℕ) (word : List ℕ) (arguments : List (List ℕ)) (next : PlainReading)
    → reading_after_item r n arguments (verdict_on r.stand word arguments) ≡ Ok next
    → Takes r word arguments next
takes r n word arguments next h = takes_by r n word arguments (verdict_on r.stand word arguments) next refl h

-- an item that is neither `phase` nor `end` leaves the phases as many as they were, and a phase open or not
pub item_stays : (r : PlainReading) (n : ℕ) (word : List ℕ) (arguments : List (List ℕ)) (next : PlainReading)
    → reading_after_item r n arguments (verdict_on r.stand word arguments) ≡ Ok next
    → bytes_eq word (codes "phase") ≡ false
    → bytes_eq word (codes "end") ≡ false
    → (length (all_phases next.draft) ≡ length (all_phases r.draft))
    × (in_phase next.stand.place ≡ in_phase r.stand.place)
item_stays r n word arguments next h p q =
    let t = takes r n word arguments next h in
    let border = no_border t.verb word (word_found r.stand word arguments t.verb t.good) p q in
    subst (λ (k : PlainReading).
    (length (all_phases k.draft) ≡ length (all_phases r.draft)) × (in_phase k.stand.place ≡ in_phase r.stand.place))
    (sym t.is)
    (stays_by r.stand r.draft word arguments t.verb (stands_at_start r.stand.place) refl t.good border)

some_same : {X : Type 0} (a b : X) → Some a ≡ Some b → a ≡ b
some_same a b h = cc

phase_added : (r : PlainReading) (arguments : List (List ℕ)) (verb : Verb)
    → Phase ≡ verb
    → (length (all_phases (reading_with r verb arguments).draft) ≡ length (all_phases r.draft) + 1)
    × (in_phase (reading_with r verb arguments).stand.place ≡ true)
phase_added r arguments verb e =
    subst (λ (v : Verb).
    (length (all_phases (reading_with r v arguments).draft) ≡ length (all_phases r.draft) + 1)
    × (in_phase (reading_with r v arguments).stand.place ≡ true)) e
    (length-append (all_phases r.draft) _, refl)

-- `phase` adds one, which is open
pub phase_more : (r : PlainReading) (n : ℕ) (arguments : List (List ℕ)) (next : PlainReading)
    → is_start r.stand.place ≡ false
    → reading_after_item r n arguments (verdict_on r.stand (codes "phase") arguments) ≡ Ok next
    → (length (all_phases next.draft) ≡ length (all_phases r.draft) + 1) × (in_phase next.stand.place ≡ true)
phase_more r n arguments next past h =
    let t = takes r n (codes "phase") arguments next h in
    let found : verb_of r.stand.version (codes "phase") ≡ Some t.verb =
    (good_fits r.stand (codes "phase") arguments t.verb (past_start r.stand.place past) t.good).0 in
    subst (λ (k : PlainReading).
    (length (all_phases k.draft) ≡ length (all_phases r.draft) + 1) × (in_phase k.stand.place ≡ true))
    (sym t.is)
    (phase_added r arguments t.verb (some_same Phase t.verb found))

end_added : (r : PlainReading) (arguments : List (List ℕ)) (verb : Verb)
    → End ≡ verb
    → (length (all_phases (reading_with r verb arguments).draft) ≡ length (all_phases r.draft))
    × (in_phase (reading_with r verb arguments).stand.place ≡ false)
end_added r arguments verb e =
    subst (λ (v : Verb).
    (length (all_phases (reading_with r v arguments).draft) ≡ length (all_phases r.draft))
    × (in_phase (reading_with r v arguments).stand.place ≡ false)) e
    (refl, refl)

-- `end` adds none, and none is open then
pub end_stays : (r : PlainReading) (n : ℕ) (arguments : List (List ℕ)) (next : PlainReading)
    → is_start r.stand.place ≡ false
    → reading_after_item r n arguments (verdict_on r.stand (codes "end") arguments) ≡ Ok next
    → (length (all_phases next.draft) ≡ length (all_phases r.draft)) × (in_phase next.stand.place ≡ false)
end_stays r n arguments next past h =
    let t = takes r n (codes "end") arguments next h in
    let found : verb_of r.stand.version (codes "end") ≡ Some t.verb =
    (good_fits r.stand (codes "end") arguments t.verb (past_start r.stand.place past) t.good).0 in
    subst (λ (k : PlainReading).
    (length (all_phases k.draft) ≡ length (all_phases r.draft)) × (in_phase k.stand.place ≡ false))
    (sym t.is)
    (end_added r arguments t.verb (some_same End t.verb found))

-- ---- limits

pub lines_within : (lines : List (List (List ℕ))) (n : ℕ) (x : PlainSession)
    → session_from first_reading n lines ≡ Ok x
    → IsWithinLimits x
lines_within lines n x h =
    let reads = lines_read lines first_reading n x h in
    let is = run_written reads.items reads.run in
    let taken = written_taken is.written is.good in
    let means : x ≡ session_meaning is.written =
    reads.session ∙ ap (session_read first_reading.stand first_reading.draft) is.items_are ∙ taken.meant in
    subst IsWithinLimits (sym means) (written_within is.written is.good)
