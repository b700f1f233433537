-- What good arguments are: numbers in their ranges, names, and the verbs that were judged.
use Rattle.std.proofs.Common.{◌≡◌, ℕ, ◌+◌, ◌<◌, ◌≤◌, ◌==◌, ◌&&◌, ◌/◌, nat_le, nat_lt, Bool, true}
use Rattle.std.proofs.Common.{false, cond, List, [], ◌∷◌, length, Option, Some, None, Result, Ok}
use Rattle.std.proofs.Common.{Err, refl, sym, ◌∙◌, ap, subst, arith, zero, suc, leb-true, ltb-true}
use Rattle.std.specs.Prelude.{is_none}
use Rattle.std.specs.Option.{option_or}
use Rattle.std.specs.Str.{bytes_eq}
use Rattle.std.specs.Prelude.{codes}
use Rattle.std.proofs.lemmas.Bool.{and_parts}
use Rattle.std.proofs.lemmas.Bool.Decides.{Decides-eqb}
use Rattle.tty_base.specs.Sizes.{MOST_ASKED}
use Rattle.text_lines.specs.Values.{is_number, is_hex, number_of, word_at, number_at}
use Rattle.session_text.specs.declared.faults.Reason.{Reason}
use Rattle.session_text.specs.declared.faults.Reason.TheVariants as reason
use Rattle.session_text.specs.declared.kinds.ArgumentKind.{ArgumentKind}
use Rattle.session_text.specs.declared.kinds.ArgumentKind.TheVariants as kind
use Rattle.session_text.specs.declared.verbs.Verb.{Verb}
use Rattle.session_text.specs.declared.verbs.Verb.TheVariants.{Session, Call}
use Rattle.session_text.specs.declared.verbs.CallVerb.{CallVerb}
use Rattle.session_text.specs.declared.verbs.CallVerb.TheVariants as call
use Rattle.session_text.specs.declared.stands.ItemPlace.{ItemPlace}
use Rattle.session_text.specs.declared.stands.ItemPlace.TheVariants as place
use Rattle.session_text.specs.Verbs.{verb_of}
use Rattle.session_text.specs.Kinds.{may_have, kind_at, fault_of, fault_from, limit_fault, word_fault}
use Rattle.session_text.specs.Meaning.{hands_over}
use Rattle.session_text.specs.Stands.{PlainStand, may_stand, is_good, late_fault, item_fault}
use Rattle.session_text.specs.Stands.{unless, verdict_on, verdict_at, first_verdict, verb_verdict}

pub left_none : {X : Type 0} (a b : Option X) → option_or a b ≡ None → a ≡ None
left_none None b h = refl
left_none (Some x) b h = cc

pub right_none : {X : Type 0} (a b : Option X) → option_or a b ≡ None → b ≡ None
right_none None b h = h
right_none (Some x) b h = cc

pub is_none-None : {X : Type 0} (o : Option X) → is_none o ≡ true → o ≡ None
is_none-None None h = refl
is_none-None (Some x) h = cc

pub limit_none : (fits : Bool) → limit_fault fits ≡ None → fits ≡ true
limit_none true h = refl
limit_none false h = cc

pub word_none : (fits : Bool) → word_fault fits ≡ None → fits ≡ true
word_none true h = refl
word_none false h = cc

-- the arguments are as many as they may be, each of its kind
pub good_parts : (ports : ℕ) (verb : Verb) (words : List (List ℕ))
    → is_good ports verb words ≡ true
    → (may_have verb (length words) ≡ true) × (fault_from ports verb 0 words ≡ None)
good_parts ports verb words h =
    let both = and_parts (may_have verb (length words)) (is_none (fault_from ports verb 0 words)) h in
    (both.0, is_none-None (fault_from ports verb 0 words) both.1)

in_range : (number : Bool) (n least most : ℕ)
    → cond number (limit_fault (nat_le least n && nat_le n most)) (Some reason.Number) ≡ None
    → cond number n 0 ≤ most
in_range true n least most h =
    leb-true n most (and_parts (nat_le least n) (nat_le n most) (limit_none (nat_le least n && nat_le n most) h)).1
in_range false n least most h = cc

below : (number : Bool) (n ports : ℕ)
    → cond number (limit_fault (nat_lt n ports)) (Some reason.Number) ≡ None
    → cond number n 0 ≤ ports
below true n ports h = let lt = ltb-true n ports (limit_none (nat_lt n ports) h) in omega (arith, lt)
below false n ports h = cc

-- the fault of the argument at a place
pub no_fault_at : (ports : ℕ) (verb : Verb) (words : List (List ℕ)) (from at : ℕ)
    → fault_from ports verb from words ≡ None
    → at < length words
    → fault_of ports (kind_at verb (from + at)) (word_at words at) ≡ None
no_fault_at ports verb [] from at h lt = absurd (omega (arith, lt))
no_fault_at ports verb (word ∷ words) from zero h lt =
    let here : from ≡ from + 0 = omega arith in
    subst (λ (n : ℕ). fault_of ports (kind_at verb n) word ≡ None) here
    (left_none (fault_of ports (kind_at verb from) word) (fault_from ports verb (from + 1) words) h)
no_fault_at ports verb (word ∷ words) from (suc at) h lt =
    let here : from + 1 + at ≡ from + suc at = omega arith in
    subst (λ (n : ℕ). fault_of ports (kind_at verb n) (word_at words at) ≡ None) here
    (no_fault_at ports verb words (from + 1) at
    (right_none (fault_of ports (kind_at verb from) word) (fault_from ports verb (from + 1) words) h)
    (omega (arith, lt)))

range_from : (ports : ℕ) (verb : Verb) (words : List (List ℕ)) (from at least most : ℕ)
    → fault_from ports verb from words ≡ None
    → kind_at verb (from + at) ≡ kind.Number least most
    → number_at words at ≤ most
range_from ports verb [] from at least most h k = omega arith
range_from ports verb (word ∷ words) from zero least most h k =
    let here : kind_at verb from ≡ kind.Number least most =
    let same : from + 0 ≡ from = omega arith in subst (λ (n : ℕ). kind_at verb n ≡ kind.Number least most) same k in
    in_range (is_number word) (number_of word) least most
    (subst (λ (k : ArgumentKind). fault_of ports k word ≡ None) here
    (left_none (fault_of ports (kind_at verb from) word) (fault_from ports verb (from + 1) words) h))
range_from ports verb (word ∷ words) from (suc at) least most h k =
    let same : from + suc at ≡ from + 1 + at = omega arith in
    range_from ports verb words (from + 1) at least most
    (right_none (fault_of ports (kind_at verb from) word) (fault_from ports verb (from + 1) words) h)
    (subst (λ (n : ℕ). kind_at verb n ≡ kind.Number least most) same k)

-- a number of good arguments is at most as large as its kind says
pub good_number : (ports : ℕ) (verb : Verb) (words : List (List ℕ)) (at least most : ℕ)
    → is_good ports verb words ≡ true
    → kind_at verb (0 + at) ≡ kind.Number least most
    → number_at words at ≤ most
good_number ports verb words at least most h k =
    range_from ports verb words 0 at least most (good_parts ports verb words h).1 k

number_none : (number fits : Bool) → cond number (limit_fault fits) (Some reason.Number) ≡ None → number ≡ true
number_none true fits h = refl
number_none false fits h = cc

-- the second of two good arguments is a number where its kind says so
pub second_is_number : (ports : ℕ) (verb : Verb) (words : List (List ℕ)) (least most : ℕ)
    → is_good ports verb words ≡ true
    → may_have verb (length words) ≡ (length words == 2)
    → kind_at verb 1 ≡ kind.Number least most
    → is_number (word_at words 1) ≡ true
second_is_number ports verb words least most good two k =
    let parts = good_parts ports verb words good in
    let both : length words ≡ 2 = (Decides-eqb (length words) 2).0 (sym two ∙ parts.0) in
    let word = word_at words 1 in
    number_none (is_number word) (nat_le least (number_of word) && nat_le (number_of word) most)
    (subst (λ (k : ArgumentKind). fault_of ports k word ≡ None) k
    (no_fault_at ports verb words 0 1 parts.1 (omega (arith, both))))

hex_none : (hex fits : Bool) → cond hex (limit_fault fits) (Some reason.Hex) ≡ None → hex ≡ true
hex_none true fits h = refl
hex_none false fits h = cc

-- the second of two good arguments is HEX where its kind says so
second_is_hex : (ports : ℕ) (verb : Verb) (words : List (List ℕ)) (most : ℕ)
    → is_good ports verb words ≡ true
    → may_have verb (length words) ≡ (length words == 2)
    → kind_at verb 1 ≡ kind.Hex most
    → is_hex (word_at words 1) ≡ true
second_is_hex ports verb words most good two k =
    let parts = good_parts ports verb words good in
    let both : length words ≡ 2 = (Decides-eqb (length words) 2).0 (sym two ∙ parts.0) in
    let word = word_at words 1 in
    hex_none (is_hex word) (nat_le (length word / 2) most)
    (subst (λ (k : ArgumentKind). fault_of ports k word ≡ None) k
    (no_fault_at ports verb words 0 1 parts.1 (omega (arith, both))))

-- what is written or sent is HEX
pub handed_is_hex : (ports : ℕ) (verb : CallVerb) (words : List (List ℕ))
    → hands_over verb ≡ true
    → is_good ports (Call verb) words ≡ true
    → is_hex (word_at words 1) ≡ true
handed_is_hex ports call.Write words over good = second_is_hex ports (Call call.Write) words MOST_ASKED good refl refl
handed_is_hex ports call.Send words over good = second_is_hex ports (Call call.Send) words MOST_ASKED good refl refl
handed_is_hex ports call.Open words over good = absurd (cc)
handed_is_hex ports call.Close words over good = absurd (cc)
handed_is_hex ports call.Read words over good = absurd (cc)
handed_is_hex ports call.GetModes words over good = absurd (cc)
handed_is_hex ports call.SetModes words over good = absurd (cc)
handed_is_hex ports call.GetDisc words over good = absurd (cc)
handed_is_hex ports call.SetDisc words over good = absurd (cc)
handed_is_hex ports call.Flush words over good = absurd (cc)
handed_is_hex ports call.Xonc words over good = absurd (cc)
handed_is_hex ports call.Inq words over good = absurd (cc)
handed_is_hex ports call.Outq words over good = absurd (cc)
handed_is_hex ports call.Excl words over good = absurd (cc)
handed_is_hex ports call.Nxcl words over good = absurd (cc)
handed_is_hex ports call.Drain words over good = absurd (cc)
handed_is_hex ports call.Counts words over good = absurd (cc)
handed_is_hex ports call.Vhangup words over good = absurd (cc)
handed_is_hex ports call.Take words over good = absurd (cc)

port_from : (ports : ℕ) (verb : Verb) (words : List (List ℕ)) (from at : ℕ)
    → fault_from ports verb from words ≡ None
    → kind_at verb (from + at) ≡ kind.Port
    → number_at words at ≤ ports
port_from ports verb [] from at h k = omega arith
port_from ports verb (word ∷ words) from zero h k =
    let here : kind_at verb from ≡ kind.Port =
    let same : from + 0 ≡ from = omega arith in subst (λ (n : ℕ). kind_at verb n ≡ kind.Port) same k in
    below (is_number word) (number_of word) ports
    (subst (λ (k : ArgumentKind). fault_of ports k word ≡ None) here
    (left_none (fault_of ports (kind_at verb from) word) (fault_from ports verb (from + 1) words) h))
port_from ports verb (word ∷ words) from (suc at) h k =
    let same : from + suc at ≡ from + 1 + at = omega arith in
    port_from ports verb words (from + 1) at
    (right_none (fault_of ports (kind_at verb from) word) (fault_from ports verb (from + 1) words) h)
    (subst (λ (n : ℕ). kind_at verb n ≡ kind.Port) same k)

-- a port of good arguments
pub good_port : (ports : ℕ) (verb : Verb) (words : List (List ℕ)) (at : ℕ)
    → is_good ports verb words ≡ true
    → kind_at verb (0 + at) ≡ kind.Port
    → number_at words at ≤ ports
good_port ports verb words at h k = port_from ports verb words 0 at (good_parts ports verb words h).1 k

-- ---- what was judged good

fault_good : (s : PlainStand) (verb : Verb) (words : List (List ℕ)) (stands has : Bool) (fault late : Option Reason)
    → cond stands (cond has (option_or fault late) (Some reason.Word)) (Some reason.Order) ≡ None
    → (has && is_none fault) ≡ true
fault_good s verb words true true None late h = refl
fault_good s verb words true true (Some r) late h = cc
fault_good s verb words true false fault late h = cc
fault_good s verb words false has fault late h = cc

unless_none : (fault : Option Reason) (verb other : Verb)
    → unless fault verb ≡ Ok other
    → (fault ≡ None) × (verb ≡ other)
unless_none None verb other h = (refl, cc)
unless_none (Some r) verb other h = cc

pub judged_verb_good : (s : PlainStand) (verb : Option Verb) (words : List (List ℕ)) (found : Verb)
    → verb_verdict s verb words ≡ Ok found
    → (verb ≡ Some found) × (item_fault s found words ≡ None)
judged_verb_good s None words found h = cc
judged_verb_good s (Some verb) words found h =
    let parts = unless_none (item_fault s verb words) verb found h in
    (ap Some parts.1, subst (λ (v : Verb). item_fault s v words ≡ None) parts.1 parts.0)

-- an item without a fault has good arguments
pub item_good : (s : PlainStand) (verb : Verb) (words : List (List ℕ))
    → item_fault s verb words ≡ None
    → is_good s.ports verb words ≡ true
item_good s verb words h = fault_good s verb words (may_stand verb s.place) (may_have verb (length words))
    (fault_from s.ports verb 0 words) (late_fault s verb words) h

first_good : (b : Bool) (found : Verb)
    → (let r : Result Verb Reason = cond b (Ok Session) (Err reason.Header) in r ≡ Ok found)
    → (b ≡ true) × (Session ≡ found)
first_good true found h = (refl, cc)
first_good false found h = cc

judged_first_good : (s : PlainStand) (word : List ℕ) (words : List (List ℕ)) (found : Verb)
    → first_verdict s word words ≡ Ok found
    → is_good s.ports found words ≡ true
judged_first_good s word words found h =
    let parts = first_good (bytes_eq word (codes "tty-session") && is_good s.ports Session words) found h in
    subst (λ (v : Verb). is_good s.ports v words ≡ true) parts.1
    (and_parts (bytes_eq word (codes "tty-session")) (is_good s.ports Session words) parts.0).1

judged_other_good : (s : PlainStand) (word : List ℕ) (words : List (List ℕ)) (found : Verb)
    → verb_verdict s (verb_of s.version word) words ≡ Ok found
    → is_good s.ports found words ≡ true
judged_other_good s word words found h =
    item_good s found words (judged_verb_good s (verb_of s.version word) words found h).1

good_at : (s : PlainStand) (at : ItemPlace) (word : List ℕ) (words : List (List ℕ)) (found : Verb)
    → verdict_at s at word words ≡ Ok found
    → is_good s.ports found words ≡ true
good_at s place.Start word words found h = judged_first_good s word words found h
good_at s place.Head word words found h = judged_other_good s word words found h
good_at s place.Before word words found h = judged_other_good s word words found h
good_at s place.Phase word words found h = judged_other_good s word words found h
good_at s place.Line word words found h = judged_other_good s word words found h
good_at s place.Clock word words found h = judged_other_good s word words found h
good_at s place.Caller word words found h = judged_other_good s word words found h
good_at s place.Ended word words found h = judged_other_good s word words found h

-- what was judged good has good arguments
pub judged_good : (s : PlainStand) (word : List ℕ) (words : List (List ℕ)) (found : Verb)
    → verdict_on s word words ≡ Ok found
    → is_good s.ports found words ≡ true
judged_good s word words found h = good_at s s.place word words found h
