-- A session that a text spells keeps the limits of every session.
use Rattle.std.proofs.Common.{◌≡◌, ◌≢◌, ◌⊎◌, inl, inr, ℕ, ◌+◌, ◌/◌, ◌<◌, ◌≤◌, ◌==◌, ◌&&◌, nat_le, nat_lt}
use Rattle.std.proofs.Common.{Bool, true, false, cond, List, [], ◌∷◌, ◌++◌, length, map, replicate, Some, None}
use Rattle.std.proofs.Common.{Result, Ok, Err, refl, ap, sym, subst, ◌∙◌, append_assoc, append-nil, arith}
use Rattle.std.proofs.Common.{zero, suc, leb-true, ltb-true, ltb-false, get_or, set, eq-eqb}
use Rattle.std.specs.Prelude.{All, IsTrue, flat_map, sum_by, fold, slice_index}
use Rattle.std.specs.List.{AllByRecursion}
use Rattle.std.specs.Result.{result_unwrap_or}
use Rattle.std.proofs.lemmas.Bool.{and_parts, eqb-true}
use Rattle.std.proofs.lemmas.List.{length-append, length-replicate, length-set, length-map}
use Rattle.std.proofs.lemmas.List.{get_or-set_same, get_or-set_other, map-append}
use Rattle.std.proofs.lemmas.List.Elements.{All-replicate, All-append, All-nil, All-cons, All-set}
use Rattle.std.proofs.lemmas.List.Sums.{sum_by-cons, sum_by-append}
use Rattle.tty_base.specs.Sizes.{DEFAULT_FLIP, LAST_HANDLE, LEAST_FLIP, MOST_ASKED, MOST_FLIP, MOST_PORTS}
use Rattle.hex.specs.declared.error.FromHexError.{FromHexError}
use Rattle.hex.specs.Hex.{decode_of}
use Rattle.hex.proofs.HexLemmas.{decode_of-ok}
use Rattle.tty_base.specs.Lines.{arrival_count, is_step}
use Rattle.tty_base.specs.declared.characters.Flag.{Flag}
use Rattle.tty_base.specs.declared.characters.Flag.TheVariants as flag
use Rattle.tty_base.specs.declared.lines.LineStep.{LineStep}
use Rattle.tty_calls.specs.Plain.{handle_of}
use Rattle.tty_calls.specs.Sessions.{PlainScript, PlainPhase, PlainSession, line_on, ticks_on}
use Rattle.tty_calls.specs.Limits.{byte_count, IsCallWithin, IsScriptWithin, IsPhaseWithin}
use Rattle.tty_calls.specs.Limits.{call_count, character_count, tick_count, IsWithinLimits}
use Rattle.text_lines.specs.Values.{is_number, number_of, is_hex, bytes_of, word_at, number_at}
use Rattle.session_text.specs.declared.faults.Reason.TheVariants as reason
use Rattle.session_text.specs.declared.kinds.ArgumentKind.{ArgumentKind}
use Rattle.session_text.specs.declared.kinds.ArgumentKind.TheVariants as kind
use Rattle.session_text.specs.declared.verbs.Verb.{Verb}
use Rattle.session_text.specs.declared.verbs.Verb.TheVariants.{Session, Ports, Flip, Phase, Line}
use Rattle.session_text.specs.declared.verbs.Verb.TheVariants.{Clock, Caller, Tick, End, Step, Call}
use Rattle.session_text.specs.declared.verbs.LineVerb.{LineVerb}
use Rattle.session_text.specs.declared.verbs.LineVerb.TheVariants.{Rx, Rxp, Rxf, Break, Mask, Unmask, Idle, Trigger}
use Rattle.session_text.specs.declared.verbs.CallVerb.{CallVerb}
use Rattle.session_text.specs.declared.verbs.CallVerb.TheVariants as call
use Rattle.session_text.specs.Kinds.{kind_at, fault_of, limit_fault, is_trigger}
use Rattle.session_text.specs.Stands.{PlainKey, arrivals, is_good}
use Rattle.line_steps.specs.Steps.{rx_step}
use Rattle.session_text.specs.Meaning.{steps_in, call_on, call_in, empty_phase}
use Rattle.session_text.specs.Grammar.{WrittenItem, WrittenBlock, Written, steps_by, ticks_by, calls_by, arrivals_by}
use Rattle.session_text.specs.Grammar.{with_block, phase_meaning, with_flip, session_meaning, version_of}
use Rattle.session_text.specs.Grammar.{ports_of, opens_block, IsGoodItem, IsGoodBlock, IsGoodPhase}
use Rattle.session_text.specs.Grammar.{IsGoodFlip, IsWellWritten, CallersFit, caller_key, caller_keys, steps_count}
use Rattle.session_text.specs.Grammar.{block_characters, characters_count, block_ticks, ticks_count, Spells}
use Rattle.session_text.proofs.Bounds.{on_port}
use Rattle.session_text.proofs.CallerNames.{key_of_script, callers_few, count_by_keys, own_names}
use Rattle.session_text.proofs.Fits.{good_parts, no_fault_at, good_number, limit_none}
use Rattle.session_text.proofs.Heads.{block_port_below}

-- ---- numbers and HEX of good arguments

between : (number : Bool) (n least most : ℕ)
    → cond number (limit_fault (nat_le least n && nat_le n most)) (Some reason.Number) ≡ None
    → (least ≤ cond number n 0) × (cond number n 0 ≤ most)
between true n least most h =
    let both = and_parts (nat_le least n) (nat_le n most) (limit_none (nat_le least n && nat_le n most) h) in
    (leb-true least n both.0, leb-true n most both.1)
between false n least most h = cc

-- a number that stands is within its range
number_between : (ports : ℕ) (verb : Verb) (words : List (List ℕ)) (at least most : ℕ)
    → is_good ports verb words ≡ true
    → at < length words
    → kind_at verb (0 + at) ≡ kind.Number least most
    → (least ≤ number_at words at) × (number_at words at ≤ most)
number_between ports verb words at least most good within k =
    let fault = no_fault_at ports verb words 0 at (good_parts ports verb words good).1 within in
    between (is_number (word_at words at)) (number_of (word_at words at)) least most
    (subst (λ (k : ArgumentKind). fault_of ports k (word_at words at) ≡ None) k fault)

bytes_by : (digits : List ℕ) (read : Result (List ℕ) FromHexError)
    → decode_of digits ≡ read
    → length (result_unwrap_or read []) ≤ length digits / 2
bytes_by digits (Ok bytes) h = let parts = decode_of-ok digits bytes h in let twice = parts.2 in omega (arith, twice)
bytes_by digits (Err e) h = omega arith

-- two digits write a byte
pub length-bytes_of : (digits : List ℕ) → length (bytes_of digits) ≤ length digits / 2
length-bytes_of digits = bytes_by digits (decode_of digits) refl

hex_by : (hex : Bool) (n most : ℕ) → cond hex (limit_fault (nat_le n most)) (Some reason.Hex) ≡ None → n ≤ most
hex_by true n most h = leb-true n most (limit_none (nat_le n most) h)
hex_by false n most h = cc

hex_within : (ports : ℕ) (verb : Verb) (words : List (List ℕ)) (at most : ℕ)
    → is_good ports verb words ≡ true
    → at < length words
    → kind_at verb (0 + at) ≡ kind.Hex most
    → length (bytes_of (word_at words at)) ≤ most
hex_within ports verb words at most good within k =
    let fault = no_fault_at ports verb words 0 at (good_parts ports verb words good).1 within in
    let few = hex_by (is_hex (word_at words at)) (length (word_at words at) / 2) most
    (subst (λ (k : ArgumentKind). fault_of ports k (word_at words at) ≡ None) k fault) in
    let half = length-bytes_of (word_at words at) in
    omega (arith, few, half)

-- ---- the steps of a line

abbrev pub AreSteps : List LineStep → Type 0
AreSteps steps = All (λ step. IsTrue (is_step step)) steps

one_step : (step : LineStep) → is_step step ≡ true → AreSteps (step ∷ [])
one_step step h = All-cons (λ step. IsTrue (is_step step)) step [] h (All-nil (λ step. IsTrue (is_step step)))

rx_steps : (f : Flag)
    → ((byte : ℕ) → is_step (rx_step f byte) ≡ true)
    → (bytes : List ℕ)
    → AreSteps (map (rx_step f) bytes)
rx_steps f good [] = All-nil (λ step. IsTrue (is_step step))
rx_steps f good (byte ∷ bytes) = All-cons (λ step. IsTrue (is_step step)) (rx_step f byte) (map (rx_step f) bytes)
    (good byte) (rx_steps f good bytes)

trigger_by : (number : Bool) (n : ℕ)
    → cond number (limit_fault (is_trigger n)) (Some reason.Number) ≡ None
    → is_trigger (cond number n 0) ≡ true
trigger_by true n h = limit_none (is_trigger n) h
trigger_by false n h = cc

trigger_good : (ports : ℕ) (words : List (List ℕ))
    → is_good ports (Step Trigger) words ≡ true
    → is_trigger (number_at words 0) ≡ true
trigger_good ports words good =
    let count = eqb-true (length words) 1 (good_parts ports (Step Trigger) words good).0 in
    let fault =
    no_fault_at ports (Step Trigger) words 0 0 (good_parts ports (Step Trigger) words good).1 (omega (arith, count)) in
    trigger_by (is_number (word_at words 0)) (number_of (word_at words 0)) fault

verb_steps : (ports : ℕ) (verb : LineVerb) (words : List (List ℕ))
    → is_good ports (Step verb) words ≡ true
    → AreSteps (steps_in verb words)
verb_steps ports Rx words good = rx_steps flag.Normal (λ byte. refl) (bytes_of (word_at words 0))
verb_steps ports Rxp words good = rx_steps flag.Parity (λ byte. refl) (bytes_of (word_at words 0))
verb_steps ports Rxf words good = rx_steps flag.Frame (λ byte. refl) (bytes_of (word_at words 0))
verb_steps ports Break words good = one_step _ refl
verb_steps ports Mask words good = one_step _ refl
verb_steps ports Unmask words good = one_step _ refl
verb_steps ports Idle words good = one_step _ refl
verb_steps ports Trigger words good = one_step _ (trigger_good ports words good)

pub count_rx : (f : Flag) (bytes : List ℕ) → arrival_count (map (rx_step f) bytes) ≡ length bytes
count_rx f [] = refl
count_rx f (byte ∷ bytes) = let rest = count_rx f bytes in omega (arith, rest)

verb_arrivals : (verb : LineVerb) (words : List (List ℕ)) → arrival_count (steps_in verb words) ≤ arrivals verb words
verb_arrivals Rx words =
    let all = count_rx flag.Normal (bytes_of (word_at words 0)) in
    let half = length-bytes_of (word_at words 0) in omega (arith, all, half)
verb_arrivals Rxp words =
    let all = count_rx flag.Parity (bytes_of (word_at words 0)) in
    let half = length-bytes_of (word_at words 0) in omega (arith, all, half)
verb_arrivals Rxf words =
    let all = count_rx flag.Frame (bytes_of (word_at words 0)) in
    let half = length-bytes_of (word_at words 0) in omega (arith, all, half)
verb_arrivals Break words = omega arith
verb_arrivals Mask words = omega arith
verb_arrivals Unmask words = omega arith
verb_arrivals Idle words = omega arith
verb_arrivals Trigger words = omega arith

pub count-append : (xs ys : List LineStep) → arrival_count (xs ++ ys) ≡ arrival_count xs + arrival_count ys
count-append [] ys = omega arith
count-append (x ∷ xs) ys = let rest = count-append xs ys in omega (arith, rest)

item_steps : (ports : ℕ) (verb : Verb) (words : List (List ℕ))
    → is_good ports verb words ≡ true
    → AreSteps (steps_by (record { verb = verb; arguments = words }))
item_steps ports (Step verb) words good = verb_steps ports verb words good
item_steps ports Session words good = All-nil (λ step. IsTrue (is_step step))
item_steps ports Ports words good = All-nil (λ step. IsTrue (is_step step))
item_steps ports Flip words good = All-nil (λ step. IsTrue (is_step step))
item_steps ports Phase words good = All-nil (λ step. IsTrue (is_step step))
item_steps ports Line words good = All-nil (λ step. IsTrue (is_step step))
item_steps ports Clock words good = All-nil (λ step. IsTrue (is_step step))
item_steps ports Caller words good = All-nil (λ step. IsTrue (is_step step))
item_steps ports Tick words good = All-nil (λ step. IsTrue (is_step step))
item_steps ports End words good = All-nil (λ step. IsTrue (is_step step))
item_steps ports (Call verb) words good = All-nil (λ step. IsTrue (is_step step))

item_arrivals : (verb : Verb) (words : List (List ℕ))
    → arrival_count (steps_by (record { verb = verb; arguments = words }))
    ≤ arrivals_by (record { verb = verb; arguments = words })
item_arrivals (Step verb) words = verb_arrivals verb words
item_arrivals Session words = omega arith
item_arrivals Ports words = omega arith
item_arrivals Flip words = omega arith
item_arrivals Phase words = omega arith
item_arrivals Line words = omega arith
item_arrivals Clock words = omega arith
item_arrivals Caller words = omega arith
item_arrivals Tick words = omega arith
item_arrivals End words = omega arith
item_arrivals (Call verb) words = omega arith

items_steps : (ports : ℕ) (opening : Verb) (items : List WrittenItem)
    → AllByRecursion (IsGoodItem ports opening) items
    → AreSteps (flat_map steps_by items)
items_steps ports opening [] good = All-nil (λ step. IsTrue (is_step step))
items_steps ports opening (item ∷ items) good =
    All-append (λ step. IsTrue (is_step step)) (steps_by item) (flat_map steps_by items)
    (item_steps ports item.verb item.arguments good.0.good) (items_steps ports opening items good.1)

items_arrivals : (items : List WrittenItem) → arrival_count (flat_map steps_by items) ≤ sum_by arrivals_by items
items_arrivals [] = omega arith
items_arrivals (item ∷ items) =
    let both = count-append (steps_by item) (flat_map steps_by items) in
    let here = item_arrivals item.verb item.arguments in
    let rest = items_arrivals items in
    let cons = sum_by-cons arrivals_by item items in
    omega (arith, both, here, rest, cons)

-- ---- calls

handle_is : (verb : CallVerb) (h : ℕ) (words : List (List ℕ)) → handle_of (call_on verb h words) ≡ h
handle_is call.Open h words = refl
handle_is call.Close h words = refl
handle_is call.Read h words = refl
handle_is call.Write h words = refl
handle_is call.GetModes h words = refl
handle_is call.SetModes h words = refl
handle_is call.GetDisc h words = refl
handle_is call.SetDisc h words = refl
handle_is call.Flush h words = refl
handle_is call.Xonc h words = refl
handle_is call.Inq h words = refl
handle_is call.Outq h words = refl
handle_is call.Excl h words = refl
handle_is call.Nxcl h words = refl
handle_is call.Drain h words = refl
handle_is call.Counts h words = refl
handle_is call.Vhangup h words = refl
handle_is call.Send h words = refl
handle_is call.Take h words = refl

bytes_within : (ports : ℕ) (verb : CallVerb) (words : List (List ℕ))
    → is_good ports (Call verb) words ≡ true
    → byte_count (call_in verb words) ≤ MOST_ASKED
bytes_within ports call.Write words good =
    let count = eqb-true (length words) 2 (good_parts ports (Call call.Write) words good).0 in
    hex_within ports (Call call.Write) words 1 MOST_ASKED good (omega (arith, count)) refl
bytes_within ports call.Send words good =
    let count = eqb-true (length words) 2 (good_parts ports (Call call.Send) words good).0 in
    hex_within ports (Call call.Send) words 1 MOST_ASKED good (omega (arith, count)) refl
bytes_within ports call.Open words good = omega arith
bytes_within ports call.Close words good = omega arith
bytes_within ports call.Read words good = omega arith
bytes_within ports call.GetModes words good = omega arith
bytes_within ports call.SetModes words good = omega arith
bytes_within ports call.GetDisc words good = omega arith
bytes_within ports call.SetDisc words good = omega arith
bytes_within ports call.Flush words good = omega arith
bytes_within ports call.Xonc words good = omega arith
bytes_within ports call.Inq words good = omega arith
bytes_within ports call.Outq words good = omega arith
bytes_within ports call.Excl words good = omega arith
bytes_within ports call.Nxcl words good = omega arith
bytes_within ports call.Drain words good = omega arith
bytes_within ports call.Counts words good = omega arith
bytes_within ports call.Vhangup words good = omega arith
bytes_within ports call.Take words good = omega arith

call_within : (ports : ℕ) (verb : CallVerb) (words : List (List ℕ))
    → is_good ports (Call verb) words ≡ true
    → IsCallWithin (call_in verb words)
call_within ports verb words good = record {
  handle =
      let h = good_number ports (Call verb) words 0 0 LAST_HANDLE good refl in
      let same = handle_is verb (number_at words 0) words in omega (arith, h, same);
  bytes = bytes_within ports verb words good;
}

item_calls : (ports : ℕ) (verb : Verb) (words : List (List ℕ))
    → is_good ports verb words ≡ true
    → All IsCallWithin (calls_by (record { verb = verb; arguments = words }))
    × (length (calls_by (record { verb = verb; arguments = words })) ≤ 1)
item_calls ports (Call verb) words good = (
  All-cons IsCallWithin (call_in verb words) [] (call_within ports verb words good) (All-nil IsCallWithin),
  omega arith,
)
item_calls ports Session words good = (All-nil IsCallWithin, omega arith)
item_calls ports Ports words good = (All-nil IsCallWithin, omega arith)
item_calls ports Flip words good = (All-nil IsCallWithin, omega arith)
item_calls ports Phase words good = (All-nil IsCallWithin, omega arith)
item_calls ports Line words good = (All-nil IsCallWithin, omega arith)
item_calls ports Clock words good = (All-nil IsCallWithin, omega arith)
item_calls ports Caller words good = (All-nil IsCallWithin, omega arith)
item_calls ports Tick words good = (All-nil IsCallWithin, omega arith)
item_calls ports End words good = (All-nil IsCallWithin, omega arith)
item_calls ports (Step verb) words good = (All-nil IsCallWithin, omega arith)

items_calls : (ports : ℕ) (opening : Verb) (items : List WrittenItem)
    → AllByRecursion (IsGoodItem ports opening) items
    → All IsCallWithin (flat_map calls_by items) × (length (flat_map calls_by items) ≤ length items)
items_calls ports opening [] good = (All-nil IsCallWithin, omega arith)
items_calls ports opening (item ∷ items) good =
    let here = item_calls ports item.verb item.arguments good.0.good in
    let rest = items_calls ports opening items good.1 in
    let both = length-append (calls_by item) (flat_map calls_by items) in
    let few = here.1 in let more = rest.1 in
    (All-append IsCallWithin (calls_by item) (flat_map calls_by items) here.0 rest.0, omega (arith, both, few, more))

-- ---- a phase, block by block

abbrev pub Counts : Type 0
Counts = ℕ → ℕ

past : {X : Type 0} (lines : List (List X)) (i : ℕ) → length lines ≤ i → get_or lines i [] ≡ []
past [] i h = refl
past (line ∷ lines) zero h = absurd (omega (arith, h))
past (line ∷ lines) (suc i) h = past lines i (omega (arith, h))

-- what is known of a phase so far: its callers' keys, and at most how many calls, characters and ticks it has
pub record Holds (ports : ℕ) (phase : PlainPhase) (keys : List PlainKey) (calls : ℕ)
    (characters_most ticks_most : Counts) : Type 0 where
  pub lines : length phase.lines ≡ ports
  pub ticks : length phase.ticks ≡ ports
  pub steps : All AreSteps phase.lines
  pub scripts : All (IsScriptWithin ports) phase.callers
  pub keys_are : map key_of_script phase.callers ≡ keys
  pub few_calls : sum_by (λ script. length script.calls) phase.callers ≤ calls
  pub few_characters : (p : ℕ) → arrival_count (line_on p phase) ≤ characters_most p
  pub few_ticks : (p : ℕ) → ticks_on p phase ≤ ticks_most p

steps_at : (lines : List (List LineStep)) (i : ℕ) → All AreSteps lines → AreSteps (get_or lines i [])
steps_at lines i good =
    elim (nat_lt i (length lines)) as (λ b. nat_lt i (length lines) ≡ b → AreSteps (get_or lines i [])) [
      | true ↦ λ e. good i [] (ltb-true i (length lines) e)
      | false ↦ λ e.
          subst AreSteps (sym (past lines i (ltb-false i (length lines) e))) (All-nil (λ step. IsTrue (is_step step)))
    ] refl

past_number : (ticks : List ℕ) (i : ℕ) → length ticks ≤ i → get_or ticks i 0 ≡ 0
past_number [] i h = refl
past_number (n ∷ ticks) zero h = absurd (omega (arith, h))
past_number (n ∷ ticks) (suc i) h = past_number ticks i (omega (arith, h))

side : (i n : ℕ) → (i < n) ⊎ (n ≤ i)
side i n = elim (nat_lt i n) as (λ b. nat_lt i n ≡ b → (i < n) ⊎ (n ≤ i)) [
  | true ↦ λ e. inl (ltb-true i n e)
  | false ↦ λ e. inr (ltb-false i n e)
] refl

here_or : (q p : ℕ) (b : Bool) → (q == p) ≡ b → ((b ≡ true) × (q ≡ p)) ⊎ ((b ≡ false) × (p ≢ q))
here_or q p true e = inl (refl, eqb-true q p e)
here_or q p false e = inr (refl, λ same. let yes = eq-eqb q p (sym same) in cc)

-- a line with steps more
line_more : (lines : List (List LineStep)) (q p : ℕ) (steps : List LineStep)
    → arrival_count (get_or (set lines q (get_or lines q [] ++ steps)) p [])
    ≤ arrival_count (get_or lines p []) + on_port q p (arrival_count steps)
line_more lines q p steps =
    let added = get_or lines q [] ++ steps in
    elim (here_or q p (q == p) refl) [
      | inl same ↦
          let most : on_port q p (arrival_count steps) ≡ arrival_count steps =
          ap (λ b. cond b (arrival_count steps) 0) same.0 in
          let goal : arrival_count (get_or (set lines q added) q [])
          ≤ arrival_count (get_or lines q []) + arrival_count steps =
          elim (side q (length lines)) [
            | inl lt ↦
                let is = ap arrival_count (get_or-set_same lines q added [] lt) in
                let both = count-append (get_or lines q []) steps in
                omega (arith, is, both)
            | inr ge ↦
                let none : arrival_count (get_or (set lines q added) q []) ≡ 0 =
                ap arrival_count (past (set lines q added) q
                (let same_length = length-set lines q added in omega (arith, same_length, ge))) in
                omega (arith, none)
          ] in
          let at_p : arrival_count (get_or (set lines q added) p [])
          ≤ arrival_count (get_or lines p []) + arrival_count steps =
          subst (λ (r : ℕ).
          arrival_count (get_or (set lines q added) r []) ≤ arrival_count (get_or lines r []) + arrival_count steps)
          same.1 goal in
          omega (arith, at_p, most)
      | inr other ↦
          let is = ap arrival_count (get_or-set_other lines q p added [] other.1) in
          omega (arith, is)
    ]

ticks_more_at : (ticks : List ℕ) (q p n : ℕ)
    → get_or (set ticks q (get_or ticks q 0 + n)) p 0 ≤ get_or ticks p 0 + on_port q p n
ticks_more_at ticks q p n =
    let added = get_or ticks q 0 + n in
    elim (here_or q p (q == p) refl) [
      | inl same ↦
          let most : on_port q p n ≡ n = ap (λ b. cond b n 0) same.0 in
          let goal : get_or (set ticks q added) q 0 ≤ get_or ticks q 0 + n =
          elim (side q (length ticks)) [
            | inl lt ↦ let is = get_or-set_same ticks q added 0 lt in omega (arith, is)
            | inr ge ↦
                let none = past_number (set ticks q added) q
                (let same_length = length-set ticks q added in omega (arith, same_length, ge)) in
                omega (arith, none)
          ] in
          let at_p : get_or (set ticks q added) p 0 ≤ get_or ticks p 0 + n =
          subst (λ (r : ℕ). get_or (set ticks q added) r 0 ≤ get_or ticks r 0 + n) same.1 goal in
          omega (arith, at_p, most)
      | inr other ↦ let is = get_or-set_other ticks q p added 0 other.1 in omega (arith, is)
    ]

more_at : (b : Bool) (m n : ℕ) → m ≤ n → cond b m 0 ≤ cond b n 0
more_at true m n h = h
more_at false m n h = omega arith

abbrev pub block_with : Verb → List (List ℕ) → List WrittenItem → WrittenBlock
block_with verb words items = record { opening = record { verb = verb; arguments = words }; items = items }

holds_more : (verb : Verb) (words : List (List ℕ)) (items : List WrittenItem) (ports : ℕ) (phase : PlainPhase)
    (keys : List PlainKey) (calls : ℕ) (characters_most ticks_most : Counts)
    → opens_block verb ≡ true
    → is_good ports verb words ≡ true
    → AllByRecursion (IsGoodItem ports verb) items
    → Holds ports phase keys calls characters_most ticks_most
    → Holds ports (with_block phase (block_with verb words items)) (keys ++ caller_key verb words)
    (calls + length items) (λ p. characters_most p + block_characters p (block_with verb words items))
    (λ p. ticks_most p + block_ticks p (block_with verb words items))
holds_more Line words items ports phase keys calls characters_most ticks_most one good each h =
    let q = number_at words 0 in
    let steps = flat_map steps_by items in record {
      lines =
          let same = length-set phase.lines q (get_or phase.lines q [] ++ steps) in
          let was = h.lines in omega (arith, same, was);
      ticks = h.ticks;
      steps = All-set AreSteps phase.lines q (get_or phase.lines q [] ++ steps)
          (All-append (λ step. IsTrue (is_step step)) (get_or phase.lines q []) steps (steps_at phase.lines q h.steps)
          (items_steps ports Line items each)) h.steps;
      scripts = h.scripts;
      keys_are = h.keys_are ∙ sym (append-nil keys);
      few_calls = let few = h.few_calls in omega (arith, few);
      few_characters = λ p.
          let few = h.few_characters p in
          let more = line_more phase.lines q p steps in
          let all = more_at (q == p) (arrival_count steps) (sum_by arrivals_by items) (items_arrivals items) in
          omega (arith, few, more, all);
      few_ticks = λ p. let few = h.few_ticks p in omega (arith, few);
    }
holds_more Clock words items ports phase keys calls characters_most ticks_most one good each h =
    let q = number_at words 0 in
    let n = sum_by ticks_by items in record {
      lines = h.lines;
      ticks =
          let same = length-set phase.ticks q (get_or phase.ticks q 0 + n) in
          let was = h.ticks in omega (arith, same, was);
      steps = h.steps;
      scripts = h.scripts;
      keys_are = h.keys_are ∙ sym (append-nil keys);
      few_calls = let few = h.few_calls in omega (arith, few);
      few_characters = λ p. let few = h.few_characters p in omega (arith, few);
      few_ticks = λ p.
          let few = h.few_ticks p in
          let more = ticks_more_at phase.ticks q p n in
          omega (arith, few, more);
    }
holds_more Caller words items ports phase keys calls characters_most ticks_most one good each h =
    let script : PlainScript =
    record { port = number_at words 1; name = word_at words 0; calls = flat_map calls_by items } in
    let called = items_calls ports Caller items each in record {
      lines = h.lines;
      ticks = h.ticks;
      steps = h.steps;
      scripts = All-append (IsScriptWithin ports) phase.callers (script ∷ []) h.scripts
          (All-cons (IsScriptWithin ports) script []
          (record { port = block_port_below ports Caller words refl good; calls = called.0 })
          (All-nil (IsScriptWithin ports)));
      keys_are =
          map-append key_of_script phase.callers (script ∷ [])
          ∙ ap (λ (ks : List PlainKey). ks ++ key_of_script script ∷ []) h.keys_are;
      few_calls =
          let few = h.few_calls in
          let both = sum_by-append (λ (s : PlainScript). length s.calls) phase.callers (script ∷ []) in
          let last = called.1 in
          omega (arith, few, both, last);
      few_characters = λ p. let few = h.few_characters p in omega (arith, few);
      few_ticks = λ p. let few = h.few_ticks p in omega (arith, few);
    }
holds_more Session words items ports phase keys calls characters_most ticks_most one good each h = cc
holds_more Ports words items ports phase keys calls characters_most ticks_most one good each h = cc
holds_more Flip words items ports phase keys calls characters_most ticks_most one good each h = cc
holds_more Phase words items ports phase keys calls characters_most ticks_most one good each h = cc
holds_more Tick words items ports phase keys calls characters_most ticks_most one good each h = cc
holds_more End words items ports phase keys calls characters_most ticks_most one good each h = cc
holds_more (Step verb) words items ports phase keys calls characters_most ticks_most one good each h = cc
holds_more (Call verb) words items ports phase keys calls characters_most ticks_most one good each h = cc

-- after all blocks of a phase
pub record HoldsAll (ports : ℕ) (phase : PlainPhase) (keys : List PlainKey) (calls : ℕ)
    (characters_most ticks_most : Counts) (blocks : List WrittenBlock) : Type 0 where
  pub all : Holds ports (fold with_block phase blocks) (keys ++ caller_keys blocks) (calls + steps_count blocks)
      (λ p. characters_most p + characters_count p blocks) (λ p. ticks_most p + ticks_count p blocks)

holds_all : (blocks : List WrittenBlock) (ports : ℕ) (phase : PlainPhase) (keys : List PlainKey) (calls : ℕ)
    (characters_most ticks_most : Counts)
    → AllByRecursion (IsGoodBlock ports) blocks
    → Holds ports phase keys calls characters_most ticks_most
    → HoldsAll ports phase keys calls characters_most ticks_most blocks
holds_all [] ports phase keys calls characters_most ticks_most good h = record {
  all = record {
    lines = h.lines;
    ticks = h.ticks;
    steps = h.steps;
    scripts = h.scripts;
    keys_are = h.keys_are ∙ sym (append-nil keys);
    few_calls = let few = h.few_calls in omega (arith, few);
    few_characters = λ p. let few = h.few_characters p in omega (arith, few);
    few_ticks = λ p. let few = h.few_ticks p in omega (arith, few);
  };
}
holds_all (block ∷ blocks) ports phase keys calls characters_most ticks_most good h =
    let one = holds_more block.opening.verb block.opening.arguments block.items ports phase keys calls characters_most
    ticks_most good.0.opens_one good.0.good good.0.each h in
    let r = (holds_all blocks ports (with_block phase block)
    (keys ++ caller_key block.opening.verb block.opening.arguments) (calls + length block.items)
    (λ p. characters_most p + block_characters p block) (λ p. ticks_most p + block_ticks p block) good.1 one).all
    in record {
      all = record {
        lines = r.lines;
        ticks = r.ticks;
        steps = r.steps;
        scripts = r.scripts;
        keys_are =
            r.keys_are ∙ append_assoc keys (caller_key block.opening.verb block.opening.arguments) (caller_keys blocks);
        few_calls =
            let few = r.few_calls in
            let cons = sum_by-cons (λ (b : WrittenBlock). length b.items) block blocks in omega (arith, few, cons);
        few_characters = λ p.
            let few = r.few_characters p in
            let cons = sum_by-cons (block_characters p) block blocks in omega (arith, few, cons);
        few_ticks = λ p.
            let few = r.few_ticks p in let cons = sum_by-cons (block_ticks p) block blocks in omega (arith, few, cons);
      };
    }

empty_lines : (n p : ℕ) → arrival_count (get_or (replicate n []) p []) ≡ 0
empty_lines zero p = refl
empty_lines (suc n) zero = refl
empty_lines (suc n) (suc p) = empty_lines n p

no_ticks_at : (n p : ℕ) → slice_index (replicate n 0) p ≡ 0
no_ticks_at zero p = refl
no_ticks_at (suc n) zero = refl
no_ticks_at (suc n) (suc p) = no_ticks_at n p

no_lines : (n : ℕ) → length (replicate n (let none : List LineStep = [] in none)) ≡ n
no_lines n = length-replicate n (let none : List LineStep = [] in none)

holds_empty : (ports : ℕ) → Holds ports (empty_phase ports) [] 0 (λ p. 0) (λ p. 0)
holds_empty ports = record {
  lines = no_lines ports;
  ticks = length-replicate ports 0;
  steps = All-replicate AreSteps ports [] (All-nil (λ step. IsTrue (is_step step)));
  scripts = All-nil (IsScriptWithin ports);
  keys_are = refl;
  few_calls = omega arith;
  few_characters = λ p. let none = empty_lines ports p in omega (arith, none);
  few_ticks = λ p. let none = no_ticks_at ports p in omega (arith, none);
}

-- ---- a phase, and all phases

phase_within : (ports : ℕ) (blocks : List WrittenBlock)
    → IsGoodPhase ports blocks
    → Holds ports (phase_meaning ports blocks) (caller_keys blocks) (steps_count blocks)
    (λ p. characters_count p blocks) (λ p. ticks_count p blocks)
    → IsPhaseWithin ports (phase_meaning ports blocks)
phase_within ports blocks good h =
    let phase = phase_meaning ports blocks in
    let fit : CallersFit [] (map key_of_script phase.callers) =
    subst (CallersFit []) (sym h.keys_are) good.callers_fit in record {
      lines = h.lines;
      ticks = h.ticks;
      steps = h.steps;
      scripts = h.scripts;
      few_callers = λ p.
          let count = count_by_keys phase.callers p in
          let few = callers_few (map key_of_script phase.callers) [] p fit (omega arith) in
          omega (arith, count, few);
      own_names = λ p. own_names phase.callers [] p fit;
    }

phase_holds : (ports : ℕ) (blocks : List WrittenBlock)
    → IsGoodPhase ports blocks
    → Holds ports (phase_meaning ports blocks) (caller_keys blocks) (steps_count blocks)
    (λ p. characters_count p blocks) (λ p. ticks_count p blocks)
phase_holds ports blocks good =
    let r = (holds_all blocks ports (empty_phase ports) [] 0 (λ p. 0) (λ p. 0) good.each (holds_empty ports)).all in
    record {
      lines = r.lines;
      ticks = r.ticks;
      steps = r.steps;
      scripts = r.scripts;
      keys_are = r.keys_are;
      few_calls = let few = r.few_calls in omega (arith, few);
      few_characters = λ p. let few = r.few_characters p in omega (arith, few);
      few_ticks = λ p. let few = r.few_ticks p in omega (arith, few);
    }

pub record PhasesWithin (ports : ℕ) (phases : List (List WrittenBlock)) : Type 0 where
  pub each : All (IsPhaseWithin ports) (map (phase_meaning ports) phases)
  pub few_calls : call_count (map (phase_meaning ports) phases) ≤ sum_by steps_count phases
  pub few_characters : (p : ℕ)
      → character_count p (map (phase_meaning ports) phases) ≤ sum_by (characters_count p) phases
  pub few_ticks : (p : ℕ) → tick_count p (map (phase_meaning ports) phases) ≤ sum_by (ticks_count p) phases

abbrev pub calls_in_phase : PlainPhase → ℕ
calls_in_phase phase = sum_by (λ (script : PlainScript). length script.calls) phase.callers

phases_within : (ports : ℕ) (phases : List (List WrittenBlock))
    → AllByRecursion (IsGoodPhase ports) phases
    → PhasesWithin ports phases
phases_within ports [] good = record {
  each = All-nil (IsPhaseWithin ports);
  few_calls = omega arith;
  few_characters = λ p. omega arith;
  few_ticks = λ p. omega arith;
}
phases_within ports (blocks ∷ phases) good =
    let h = phase_holds ports blocks good.0 in
    let rest = phases_within ports phases good.1 in
    let phase = phase_meaning ports blocks in
    let others = map (phase_meaning ports) phases in record {
      each = All-cons (IsPhaseWithin ports) phase others (phase_within ports blocks good.0 h) rest.each;
      few_calls =
          let a = sum_by-cons calls_in_phase phase others in
          let b = sum_by-cons steps_count blocks phases in
          let here = h.few_calls in
          let there = rest.few_calls in
          omega (arith, a, b, here, there);
      few_characters = λ p.
          let a = sum_by-cons (λ (ph : PlainPhase). arrival_count (line_on p ph)) phase others in
          let b = sum_by-cons (characters_count p) blocks phases in
          let here = h.few_characters p in
          let there = rest.few_characters p in
          omega (arith, a, b, here, there);
      few_ticks = λ p.
          let a = sum_by-cons (ticks_on p) phase others in
          let b = sum_by-cons (ticks_count p) blocks phases in
          let here = h.few_ticks p in
          let there = rest.few_ticks p in
          omega (arith, a, b, here, there);
    }

-- ---- flips

pub record FlipsWithin (ports : ℕ) (flips : List ℕ) : Type 0 where
  pub count : length flips ≡ ports
  pub least : All (λ n. LEAST_FLIP ≤ n) flips
  pub most : All (λ n. n ≤ MOST_FLIP) flips

flips_within : (arguments : List (List (List ℕ))) (version ports : ℕ) (flips : List ℕ)
    → AllByRecursion (IsGoodFlip version ports) arguments
    → FlipsWithin ports flips
    → FlipsWithin ports (fold with_flip flips arguments)
flips_within [] version ports flips good h = h
flips_within (words ∷ arguments) version ports flips good h =
    let q = number_at words 0 in
    let n = number_at words 1 in
    let count = eqb-true (length words) 2 (good_parts ports Flip words good.0.good).0 in
    let range = number_between ports Flip words 1 LEAST_FLIP MOST_FLIP good.0.good (omega (arith, count)) refl in
    flips_within arguments version ports (set flips q n) good.1 (record {
      count = length-set flips q n ∙ h.count;
      least = All-set (λ n. LEAST_FLIP ≤ n) flips q n range.0 h.least;
      most = All-set (λ n. n ≤ MOST_FLIP) flips q n range.1 h.most;
    })

-- ---- the session

pub written_within : (w : Written) → IsWellWritten w → IsWithinLimits (session_meaning w)
written_within w good =
    let ports = ports_of w in
    let range = number_between 0 Ports (w.ports ∷ []) 0 1 MOST_PORTS good.ports (omega arith) refl in
    let flips = flips_within w.flips (version_of w) ports (replicate ports DEFAULT_FLIP) good.flips (record {
      count = length-replicate ports DEFAULT_FLIP;
      least = All-replicate (λ n. LEAST_FLIP ≤ n) ports DEFAULT_FLIP (omega arith);
      most = All-replicate (λ n. n ≤ MOST_FLIP) ports DEFAULT_FLIP (omega arith);
    }) in
    let all = phases_within ports w.phases good.phases in record {
      some_ports = let least = range.0 in omega (arith, least);
      few_ports = range.1;
      flips = flips.count;
      some_flip = flips.least;
      few_flip = flips.most;
      few_phases =
          let same = length-map w.phases (phase_meaning ports) in let few = good.few_phases in omega (arith, same, few);
      phases = all.each;
      few_calls = let some = all.few_calls in let few = good.few_steps in omega (arith, some, few);
      few_characters = λ p.
          let some = all.few_characters p in let few = good.few_characters p in omega (arith, some, few);
      few_ticks = λ p. let some = all.few_ticks p in let few = good.few_ticks p in omega (arith, some, few);
    }

-- a spelled session keeps the limits of every session
pub spelled_within : (text : List ℕ) (session : PlainSession) → Spells text session → IsWithinLimits session
spelled_within text session h = subst IsWithinLimits (sym h.means) (written_within h.written h.good)
