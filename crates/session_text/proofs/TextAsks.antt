-- What the items of a text ask of a port: no more than they are long.
use Rattle.std.proofs.Common.{◌≡◌, ℕ, zero, suc, ◌+◌, ◌*◌, ◌/◌, ◌≤◌, ◌==◌, Bool, true, false, cond, List, [], ◌∷◌}
use Rattle.std.proofs.Common.{◌++◌, length, map, replicate, get_or, set, refl, ap, ◌∙◌, arith, length-append}
use Rattle.std.specs.Prelude.{flat_map, sum_by, filter, fold}
use Rattle.std.proofs.lemmas.List.Sums.{sum_by-cons, sum_by-append}
use Rattle.tty_base.specs.Lines.{arrival_count}
use Rattle.tty_base.specs.declared.characters.Flag.{Flag}
use Rattle.tty_base.specs.declared.characters.Flag.TheVariants as flag
use Rattle.tty_base.specs.declared.lines.LineStep.{LineStep}
use Rattle.tty_calls.specs.Plain.{PlainCall}
use Rattle.tty_calls.specs.Sessions.{PlainScript, PlainPhase, PlainSession, line_on, scripts_on, scripts_over}
use Rattle.tty_calls.specs.Limits.{byte_count}
use Rattle.line_steps.specs.Steps.{rx_step}
use Rattle.text_lines.specs.Values.{bytes_of, word_at, number_at}
use Rattle.session_text.specs.declared.verbs.Verb.{Verb}
use Rattle.session_text.specs.declared.verbs.Verb.TheVariants.{Session, Ports, Flip, Phase, Line}
use Rattle.session_text.specs.declared.verbs.Verb.TheVariants.{Clock, Caller, Tick, End, Step, Call}
use Rattle.session_text.specs.declared.verbs.LineVerb.TheVariants.{Rx, Rxp, Rxf, Break, Mask, Unmask, Idle, Trigger}
use Rattle.session_text.specs.declared.verbs.CallVerb.{CallVerb}
use Rattle.session_text.specs.declared.verbs.CallVerb.TheVariants as call
use Rattle.session_text.specs.Asked.{asked_of}
use Rattle.session_text.specs.Verbs.{call_text, verb_text}
use Rattle.session_text.specs.Meaning.{call_in, empty_phase}
use Rattle.session_text.specs.Grammar.{WrittenItem, WrittenBlock, Written, item_words, flip_item, block_items}
use Rattle.session_text.specs.Grammar.{phase_items, end_item, session_items, steps_by, calls_by}
use Rattle.session_text.specs.Grammar.{with_block_of, with_block, phase_meaning, ports_of, Spells}
use Rattle.session_text.proofs.TextSizes.{size, sizes, text_size}
use Rattle.session_text.proofs.Within.{length-bytes_of, count_rx, count-append}

-- ---- an item

-- two digits write a byte
two_digits : (digits : List ℕ) → 2 * length (bytes_of digits) ≤ length digits
two_digits digits = twice (length (bytes_of digits)) (length digits) (length-bytes_of digits)
  where
    twice : (n m : ℕ) → n ≤ m / 2 → 2 * n ≤ m
    twice n m h = omega (arith, h)

word_small : (words : List (List ℕ)) (i : ℕ) → length (word_at words i) ≤ size words
word_small [] i = omega arith
word_small (word ∷ words) zero = omega arith
word_small (word ∷ words) (suc i) = (let rest = word_small words i in omega (arith, rest))

hex_size : (words : List (List ℕ)) (i : ℕ) → 2 * length (bytes_of (word_at words i)) ≤ size words
hex_size words i = omega (arith, two_digits (word_at words i), word_small words i)

-- what these calls and steps ask
abbrev asked : List PlainCall → List LineStep → ℕ
asked calls steps = 2 * sum_by byte_count calls + 3 * length calls + 2 * arrival_count steps

handed_size : (verb : CallVerb) (words : List (List ℕ)) → 2 * byte_count (call_in verb words) ≤ size words
handed_size call.Write words = hex_size words 1
handed_size call.Open words = omega arith
handed_size call.Close words = omega arith
handed_size call.Read words = omega arith
handed_size call.GetModes words = omega arith
handed_size call.SetModes words = omega arith
handed_size call.GetDisc words = omega arith
handed_size call.SetDisc words = omega arith
handed_size call.Flush words = omega arith
handed_size call.Xonc words = omega arith
handed_size call.Inq words = omega arith
handed_size call.Outq words = omega arith
handed_size call.Excl words = omega arith
handed_size call.Nxcl words = omega arith
handed_size call.Drain words = omega arith
handed_size call.Counts words = omega arith
handed_size call.Vhangup words = omega arith
handed_size call.Send words = hex_size words 1
handed_size call.Take words = omega arith

three_letters : (verb : CallVerb) → 3 ≤ length (call_text verb)
three_letters call.Write = omega arith
three_letters call.Open = omega arith
three_letters call.Close = omega arith
three_letters call.Read = omega arith
three_letters call.GetModes = omega arith
three_letters call.SetModes = omega arith
three_letters call.GetDisc = omega arith
three_letters call.SetDisc = omega arith
three_letters call.Flush = omega arith
three_letters call.Xonc = omega arith
three_letters call.Inq = omega arith
three_letters call.Outq = omega arith
three_letters call.Excl = omega arith
three_letters call.Nxcl = omega arith
three_letters call.Drain = omega arith
three_letters call.Counts = omega arith
three_letters call.Vhangup = omega arith
three_letters call.Send = omega arith
three_letters call.Take = omega arith

rx_size : (f : Flag) (words : List (List ℕ)) (name : ℕ)
    → asked [] (map (rx_step f) (bytes_of (word_at words 0))) ≤ name + size words
rx_size f words name = omega (arith, count_rx f (bytes_of (word_at words 0)), hex_size words 0)

-- an item asks no more than its words are long
item_size : (verb : Verb) (words : List (List ℕ))
    → asked (calls_by (record { verb = verb; arguments = words }))
    (steps_by (record { verb = verb; arguments = words }))
    ≤ length (verb_text verb) + size words
item_size (Call verb) words =
    omega (arith, sum_by-cons byte_count (call_in verb words) [], handed_size verb words, three_letters verb)
item_size (Step Rx) words = rx_size flag.Normal words (length (verb_text (Step Rx)))
item_size (Step Rxp) words = rx_size flag.Parity words (length (verb_text (Step Rxp)))
item_size (Step Rxf) words = rx_size flag.Frame words (length (verb_text (Step Rxf)))
item_size (Step Break) words = omega arith
item_size (Step Mask) words = omega arith
item_size (Step Unmask) words = omega arith
item_size (Step Idle) words = omega arith
item_size (Step Trigger) words = omega arith
item_size Session words = omega arith
item_size Ports words = omega arith
item_size Flip words = omega arith
item_size Phase words = omega arith
item_size Line words = omega arith
item_size Clock words = omega arith
item_size Caller words = omega arith
item_size Tick words = omega arith
item_size End words = omega arith

-- ---- items

abbrev items_size : List WrittenItem → ℕ
items_size [] = 0
items_size (item ∷ items) = size (item_words item) + items_size items

same_sizes : (items : List WrittenItem) → sizes (map item_words items) ≡ items_size items
same_sizes [] = refl
same_sizes (item ∷ items) = ap (λ (n : ℕ). size (item_words item) + n) (same_sizes items)

items_append : (xs ys : List WrittenItem) → items_size (xs ++ ys) ≡ items_size xs + items_size ys
items_append [] ys = omega arith
items_append (x ∷ xs) ys = (let rest = items_append xs ys in omega (arith, rest))

items_ask : (items : List WrittenItem) → asked (flat_map calls_by items) (flat_map steps_by items) ≤ items_size items
items_ask [] = omega arith
items_ask (item ∷ items) =
    let here = item_size item.verb item.arguments in
    let rest = items_ask items in
    let written = sum_by-append byte_count (calls_by item) (flat_map calls_by items) in
    let calls = length-append (calls_by item) (flat_map calls_by items) in
    let steps = count-append (steps_by item) (flat_map steps_by items) in
    omega (arith, here, rest, written, calls, steps)

-- ---- a phase

abbrev asks : ℕ → PlainPhase → ℕ
asks p phase =
    2 * sum_by (λ script. sum_by byte_count script.calls) (scripts_on p phase)
    + 3 * sum_by (λ script. length script.calls) (scripts_on p phase) + 2 * arrival_count (line_on p phase)

grows_at : (lines : List (List LineStep)) (q p : ℕ) (steps : List LineStep)
    → arrival_count (get_or (set lines q (get_or lines q [] ++ steps)) p [])
    ≤ arrival_count (get_or lines p []) + arrival_count steps
grows_at [] q p steps = omega arith
grows_at (line ∷ lines) zero zero steps = omega (arith, count-append line steps)
grows_at (line ∷ lines) zero (suc p) steps = omega arith
grows_at (line ∷ lines) (suc q) zero steps = omega arith
grows_at (line ∷ lines) (suc q) (suc p) steps = grows_at lines q p steps

last_either : (f : PlainScript → ℕ) (b : Bool) (script : PlainScript)
    → sum_by f (cond b (script ∷ []) []) ≤ 0 + f script
last_either f true script = omega (arith, sum_by-cons f script [])
last_either f false script = omega arith

first_either : (f : PlainScript → ℕ) (b : Bool) (x : PlainScript) (xs ys : List PlainScript) (n : ℕ)
    → sum_by f xs ≤ sum_by f ys + n
    → sum_by f (cond b (x ∷ xs) xs) ≤ sum_by f (cond b (x ∷ ys) ys) + n
first_either f true x xs ys n h = omega (arith, sum_by-cons f x xs, sum_by-cons f x ys, h)
first_either f false x xs ys n h = h

one_script : (f : PlainScript → ℕ) (p : ℕ) (scripts : List PlainScript) (script : PlainScript)
    → sum_by f (filter (λ s. s.port == p) (scripts ++ script ∷ []))
    ≤ sum_by f (filter (λ s. s.port == p) scripts) + f script
one_script f p [] script = last_either f (script.port == p) script
one_script f p (x ∷ xs) script = first_either f (x.port == p) x (filter (λ s. s.port == p) (xs ++ script ∷ []))
    (filter (λ s. s.port == p) xs) (f script) (one_script f p xs script)

block_asks : (verb : Verb) (words : List (List ℕ)) (items : List WrittenItem) (phase : PlainPhase) (p : ℕ)
    → asks p (with_block_of verb words items phase) ≤ asks p phase + items_size items
block_asks Line words items phase p =
    omega (arith, grows_at phase.lines (number_at words 0) p (flat_map steps_by items), items_ask items)
block_asks Caller words items phase p =
    let script : PlainScript =
    record { port = number_at words 1; name = word_at words 0; calls = flat_map calls_by items } in
    omega (
      arith,
      one_script (λ (s : PlainScript). sum_by byte_count s.calls) p phase.callers script,
      one_script (λ (s : PlainScript). length s.calls) p phase.callers script,
      items_ask items,
    )
block_asks Clock words items phase p = omega arith
block_asks Session words items phase p = omega arith
block_asks Ports words items phase p = omega arith
block_asks Flip words items phase p = omega arith
block_asks Phase words items phase p = omega arith
block_asks Tick words items phase p = omega arith
block_asks End words items phase p = omega arith
block_asks (Step verb) words items phase p = omega arith
block_asks (Call verb) words items phase p = omega arith

blocks_ask : (blocks : List WrittenBlock) (phase : PlainPhase) (p : ℕ)
    → asks p (fold with_block phase blocks) ≤ asks p phase + items_size (flat_map block_items blocks)
blocks_ask [] phase p = omega arith
blocks_ask (block ∷ blocks) phase p =
    let here = block_asks block.opening.verb block.opening.arguments block.items phase p in
    let rest = blocks_ask blocks (with_block phase block) p in
    let both = items_append block.items (flat_map block_items blocks) in
    omega (arith, here, rest, both)

none_at : (n p : ℕ) → arrival_count (get_or (replicate n []) p []) ≡ 0
none_at zero p = refl
none_at (suc n) zero = refl
none_at (suc n) (suc p) = none_at n p

phase_asks : (ports : ℕ) (blocks : List WrittenBlock) (p : ℕ)
    → asks p (phase_meaning ports blocks) ≤ items_size (phase_items blocks)
phase_asks ports blocks p =
    (let none = none_at ports p in let all = blocks_ask blocks (empty_phase ports) p in omega (arith, none, all))

-- ---- all phases

phases_ask : (ports : ℕ) (phases : List (List WrittenBlock)) (p : ℕ)
    → asked_of p (map (phase_meaning ports) phases) ≤ items_size (flat_map phase_items phases)
phases_ask ports [] p = omega arith
phases_ask ports (blocks ∷ phases) p =
    let phase = phase_meaning ports blocks in
    let others = map (phase_meaning ports) phases in
    let here = phase_asks ports blocks p in
    let rest = phases_ask ports phases p in
    let written =
    sum_by-append (λ (s : PlainScript). sum_by byte_count s.calls) (scripts_on p phase) (scripts_over p others) in
    let calls = sum_by-append (λ (s : PlainScript). length s.calls) (scripts_on p phase) (scripts_over p others) in
    let characters = sum_by-cons (λ (ph : PlainPhase). arrival_count (line_on p ph)) phase others in
    let both = items_append (phase_items blocks) (flat_map phase_items phases) in
    omega (arith, here, rest, written, calls, characters, both)

session_size : (w : Written) → items_size (flat_map phase_items w.phases) ≤ items_size (session_items w)
session_size w = omega (
  arith,
  items_append (map flip_item w.flips) (flat_map phase_items w.phases ++ end_item ∷ []),
  items_append (flat_map phase_items w.phases) (end_item ∷ []),
)

-- a text is as long as what it asks
pub text_asks : (text : List ℕ) (session : PlainSession) (p : ℕ)
    → Spells text session
    → asked_of p session.phases ≤ length text
text_asks text session p h =
    let all = phases_ask (ports_of h.written) h.written.phases p in
    let same = ap (λ (s : PlainSession). asked_of p s.phases) h.means in
    let words = ap sizes h.words ∙ same_sizes (session_items h.written) in
    omega (arith, all, same, words, session_size h.written, text_size text)
