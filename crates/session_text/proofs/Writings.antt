-- What the words of a session write: names of callers, characters that are bytes, and mode words.
use Rattle.std.proofs.Common.{◌≡◌, ℕ, zero, suc, ◌+◌, ◌<◌, true, Option, None, Some, Result, Ok, Err, List, []}
use Rattle.std.proofs.Common.{◌∷◌, ◌++◌, length, map, drop, fold, replicate, refl, sym, subst, arith, get_or, set}
use Rattle.std.specs.Prelude.{IfSome, flat_map, slice_index_or}
use Rattle.std.specs.List.{AllByRecursion, filter_map, cons_option}
use Rattle.std.specs.Result.{result_unwrap_or}
use Rattle.std.proofs.lemmas.Bool.{eqb-true}
use Rattle.hex.specs.declared.error.FromHexError.{FromHexError}
use Rattle.hex.specs.Hex.{IsBytes, decode_of}
use Rattle.hex.proofs.HexLemmas.{decode_of-ok}
use Rattle.tty_base.specs.declared.characters.Flag.{Flag}
use Rattle.tty_base.specs.declared.characters.Flag.TheVariants as flag
use Rattle.tty_modes.specs.Reading.{word_of as mode_of}
use Rattle.tty_modes.specs.Word.{IsModeWord, word_text}
use Rattle.tty_modes.specs.declared.words.Word.{Word}
use Rattle.tty_modes.proofs.WordTexts.{word_of-spelled}
use Rattle.line_steps.specs.Steps.{rx_step}
use Rattle.tty_calls.specs.Sessions.{PlainScript, PlainPhase, PlainSession}
use Rattle.text_lines.specs.Values.{is_name, word_at, number_at, bytes_of}
use Rattle.session_text.specs.declared.verbs.Verb.{Verb}
use Rattle.session_text.specs.declared.verbs.Verb.TheVariants.{Session, Ports, Flip, Phase, Line}
use Rattle.session_text.specs.declared.verbs.Verb.TheVariants.{Clock, Caller, Tick, End, Step, Call}
use Rattle.session_text.specs.declared.verbs.LineVerb.{LineVerb}
use Rattle.session_text.specs.declared.verbs.LineVerb.TheVariants.{Rx, Rxp, Rxf, Break, Mask, Unmask, Idle, Trigger}
use Rattle.session_text.specs.declared.verbs.CallVerb.{CallVerb}
use Rattle.session_text.specs.declared.verbs.CallVerb.TheVariants as call
use Rattle.session_text.specs.Stands.{is_good}
use Rattle.session_text.specs.Meaning.{steps_in, call_on, empty_phase}
use Rattle.session_text.specs.Grammar.{WrittenItem, WrittenBlock, steps_by, calls_by, with_block}
use Rattle.session_text.specs.Grammar.{phase_meaning, IsGoodBlock, IsGoodPhase, ports_of, Spells}
use Rattle.session_text.proofs.Fits.{good_parts, no_fault_at, word_none}
use Rattle.session_text.specs.Writable.{IsByteStep, SetsModeWords, IsWrittenScript, IsWrittenPhase}

-- ---- lists of which each item is something

module _ {A : Type 0} (P : A → Type 0) where
  each_of_both : (xs ys : List A) → AllByRecursion P xs → AllByRecursion P ys → AllByRecursion P (xs ++ ys)
  each_of_both [] ys h k = k
  each_of_both (x ∷ xs) ys h k = (h.0, each_of_both xs ys h.1 k)

  each_set : (xs : List A) (i : ℕ) (x : A) → AllByRecursion P xs → P x → AllByRecursion P (set xs i x)
  each_set [] i x h k = tt
  each_set (y ∷ xs) zero x h k = (k, h.1)
  each_set (y ∷ xs) (suc i) x h k = (h.0, each_set xs i x h.1 k)

  -- also past the list, where the default is one
  each_at : (xs : List A) (i : ℕ) (d : A) → AllByRecursion P xs → P d → P (get_or xs i d)
  each_at [] i d h k = k
  each_at (x ∷ xs) zero d h k = h.0
  each_at (x ∷ xs) (suc i) d h k = each_at xs i d h.1 k

  each_flat : {B : Type 0} (f : B → List A)
      → ((b : B) → AllByRecursion P (f b))
      → (xs : List B)
      → AllByRecursion P (flat_map f xs)
  each_flat f h [] = tt
  each_flat f h (x ∷ xs) = each_of_both (f x) (flat_map f xs) (h x) (each_flat f h xs)

  each_mapped : {B : Type 0} (f : B → A) (xs : List B) → AllByRecursion (λ b. P (f b)) xs → AllByRecursion P (map f xs)
  each_mapped f [] h = tt
  each_mapped f (x ∷ xs) h = (h.0, each_mapped f xs h.1)

abbrev AllBytes : List ℕ → Type 0
AllBytes bytes = AllByRecursion (λ b. b < 256) bytes

-- ---- a line's item

all_bytes : (bytes : List ℕ) → IsBytes bytes → AllBytes bytes
all_bytes [] h = tt
all_bytes (b ∷ bytes) h = (h 0, all_bytes bytes (λ i. h (suc i)))

decoded : (digits : List ℕ) (read : Result (List ℕ) FromHexError)
    → decode_of digits ≡ read
    → AllBytes (result_unwrap_or read [])
decoded digits (Ok bytes) h = all_bytes bytes (decode_of-ok digits bytes h).3
decoded digits (Err e) h = tt

characters : (f : Flag) (digits : List ℕ) → AllByRecursion IsByteStep (map (rx_step f) (bytes_of digits))
characters f digits = each_mapped IsByteStep (rx_step f) (bytes_of digits) (decoded digits (decode_of digits) refl)

verb_steps : (verb : LineVerb) (words : List (List ℕ)) → AllByRecursion IsByteStep (steps_in verb words)
verb_steps Rx words = characters flag.Normal (word_at words 0)
verb_steps Rxp words = characters flag.Parity (word_at words 0)
verb_steps Rxf words = characters flag.Frame (word_at words 0)
verb_steps Break words = (tt, tt)
verb_steps Mask words = (tt, tt)
verb_steps Unmask words = (tt, tt)
verb_steps Idle words = (tt, tt)
verb_steps Trigger words = (tt, tt)

item_steps : (verb : Verb) (words : List (List ℕ))
    → AllByRecursion IsByteStep (steps_by (record { verb = verb; arguments = words }))
item_steps (Step verb) words = verb_steps verb words
item_steps Session words = tt
item_steps Ports words = tt
item_steps Flip words = tt
item_steps Phase words = tt
item_steps Line words = tt
item_steps Clock words = tt
item_steps Caller words = tt
item_steps Tick words = tt
item_steps End words = tt
item_steps (Call verb) words = tt

-- ---- a call

mode_words : (texts : List (List ℕ)) → AllByRecursion IsModeWord (filter_map mode_of texts)
mode_words [] = tt
mode_words (text ∷ texts) = one (mode_of text) (word_of-spelled text) (mode_words texts)
  where
    one : (word : Option Word)
        → (IfSome word (λ w. IsModeWord w × (word_text w ≡ text)))
        → AllByRecursion IsModeWord (filter_map mode_of texts)
        → AllByRecursion IsModeWord (cons_option word (filter_map mode_of texts))
    one None h k = k
    one (Some word) h k = (h.0, k)

call_sets : (verb : CallVerb) (h : ℕ) (words : List (List ℕ)) → SetsModeWords (call_on verb h words)
call_sets call.Open h words = tt
call_sets call.Close h words = tt
call_sets call.Read h words = tt
call_sets call.Write h words = tt
call_sets call.GetModes h words = tt
call_sets call.SetModes h words = mode_words (drop 2 words)
call_sets call.GetDisc h words = tt
call_sets call.SetDisc h words = tt
call_sets call.Flush h words = tt
call_sets call.Xonc h words = tt
call_sets call.Inq h words = tt
call_sets call.Outq h words = tt
call_sets call.Excl h words = tt
call_sets call.Nxcl h words = tt
call_sets call.Drain h words = tt
call_sets call.Counts h words = tt
call_sets call.Vhangup h words = tt
call_sets call.Send h words = tt
call_sets call.Take h words = tt

item_calls : (verb : Verb) (words : List (List ℕ))
    → AllByRecursion SetsModeWords (calls_by (record { verb = verb; arguments = words }))
item_calls (Call verb) words = (call_sets verb (number_at words 0) words, tt)
item_calls Session words = tt
item_calls Ports words = tt
item_calls Flip words = tt
item_calls Phase words = tt
item_calls Line words = tt
item_calls Clock words = tt
item_calls Caller words = tt
item_calls Tick words = tt
item_calls End words = tt
item_calls (Step verb) words = tt

-- ---- a block, a phase, a session

caller_named : (ports : ℕ) (words : List (List ℕ))
    → is_good ports Caller words ≡ true
    → is_name (word_at words 0) ≡ true
caller_named ports words good =
    let parts = good_parts ports Caller words good in
    let count : length words ≡ 2 = eqb-true (length words) 2 parts.0 in
    word_none (is_name (word_at words 0)) (no_fault_at ports Caller words 0 0 parts.1 (omega (arith, count)))

with_block_written : (ports : ℕ) (verb : Verb) (words : List (List ℕ)) (items : List WrittenItem) (phase : PlainPhase)
    → is_good ports verb words ≡ true
    → IsWrittenPhase phase
    → IsWrittenPhase (with_block phase (record { opening = record { verb = verb; arguments = words }; items = items }))
with_block_written ports Line words items phase good h =
    let steps : AllByRecursion IsByteStep (flat_map steps_by items) =
    each_flat IsByteStep steps_by (λ item. item_steps item.verb item.arguments) items in
    record {
      lines = each_set (AllByRecursion IsByteStep) phase.lines (number_at words 0)
          (slice_index_or phase.lines (number_at words 0) [] ++ flat_map steps_by items) h.lines
          (each_of_both IsByteStep (slice_index_or phase.lines (number_at words 0) []) (flat_map steps_by items)
          (each_at (AllByRecursion IsByteStep) phase.lines (number_at words 0) [] h.lines tt) steps);
      scripts = h.scripts;
    }
with_block_written ports Clock words items phase good h = record { lines = h.lines; scripts = h.scripts }
with_block_written ports Caller words items phase good h =
    let calls : AllByRecursion SetsModeWords (flat_map calls_by items) =
    each_flat SetsModeWords calls_by (λ item. item_calls item.verb item.arguments) items in
    let script : PlainScript =
    record { port = number_at words 1; name = word_at words 0; calls = flat_map calls_by items } in
    let written : IsWrittenScript script = record { named = caller_named ports words good; calls = calls } in
    record {
      lines = h.lines;
      scripts = each_of_both IsWrittenScript phase.callers (script ∷ []) h.scripts (written, tt);
    }
with_block_written ports Session words items phase good h = h
with_block_written ports Ports words items phase good h = h
with_block_written ports Flip words items phase good h = h
with_block_written ports Phase words items phase good h = h
with_block_written ports Tick words items phase good h = h
with_block_written ports End words items phase good h = h
with_block_written ports (Step verb) words items phase good h = h
with_block_written ports (Call verb) words items phase good h = h

blocks_written : (ports : ℕ) (blocks : List WrittenBlock) (phase : PlainPhase)
    → AllByRecursion (IsGoodBlock ports) blocks
    → IsWrittenPhase phase
    → IsWrittenPhase (fold with_block phase blocks)
blocks_written ports [] phase good h = h
blocks_written ports (block ∷ blocks) phase good h =
    blocks_written ports blocks (with_block phase block) good.1
    (with_block_written ports block.opening.verb block.opening.arguments block.items phase good.0.good h)

no_lines : (ports : ℕ) → AllByRecursion (AllByRecursion IsByteStep) (replicate ports [])
no_lines zero = tt
no_lines (suc n) = (tt, no_lines n)

phases_written : (ports : ℕ) (phases : List (List WrittenBlock))
    → AllByRecursion (IsGoodPhase ports) phases
    → AllByRecursion IsWrittenPhase (map (phase_meaning ports) phases)
phases_written ports [] good = tt
phases_written ports (blocks ∷ phases) good = (
  blocks_written ports blocks (empty_phase ports) good.0.each (record { lines = no_lines ports; scripts = tt }),
  phases_written ports phases good.1,
)

pub spelled_written : (text : List ℕ) (session : PlainSession)
    → Spells text session
    → AllByRecursion IsWrittenPhase session.phases
spelled_written text session h = subst (λ (s : PlainSession). AllByRecursion IsWrittenPhase s.phases) (sym h.means)
    (phases_written (ports_of h.written) h.written.phases h.good.phases)
