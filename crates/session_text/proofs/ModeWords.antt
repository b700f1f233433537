-- The arguments of `modes` behind the second are good where all of them are mode words.
use Rattle.std.proofs.Common.{◌≡◌, ℕ, ◌+◌, ◌-◌, suc, ◌≤◌, ◌==◌, false, List, [], ◌∷◌, length}
use Rattle.std.proofs.Common.{Option, None, Some, is_some, refl, sym, ap, ◌∙◌, arith, drop}
use Rattle.std.proofs.lemmas.Bool.Decides.{nat_tests}
use Rattle.std.proofs.lemmas.List.{length-drop}
use Rattle.std.specs.List.{filter_map, cons_option}
use Rattle.std.specs.Option.{option_or}
use Rattle.tty_modes.specs.declared.words.Word.{Word}
use Rattle.tty_modes.specs.Reading.{word_of as mode_of}
use Rattle.session_text.specs.declared.verbs.Verb.TheVariants.{Call}
use Rattle.session_text.specs.declared.verbs.CallVerb.TheVariants.{SetModes}
use Rattle.session_text.specs.declared.faults.Reason.{Reason}
use Rattle.session_text.specs.declared.kinds.ArgumentKind.TheVariants as kind
use Rattle.session_text.specs.Kinds.{modes_in, kind_at, fault_of, fault_from, word_fault}

mode_kind : (place : ℕ) → 2 ≤ place → kind_at (Call SetModes) place ≡ kind.Mode
mode_kind place two = grind (arith, nat_tests)

few_by : (words : List (List ℕ)) (o : Option Word)
    → length (filter_map mode_of words) ≤ length words
    → length (cons_option o (filter_map mode_of words)) ≤ suc (length words)
few_by words None rest = omega (arith, rest)
few_by words (Some mode) rest = omega (arith, rest)

few : (words : List (List ℕ)) → length (filter_map mode_of words) ≤ length words
few [] = omega arith
few (word ∷ words) = few_by words (mode_of word) (few words)

not_more : (m n : ℕ) → m ≤ n → (m == suc n) ≡ false
not_more m n small = grind (arith, nat_tests)

both_more : (m n : ℕ) → (suc m == suc n) ≡ (m == n)
both_more m n = grind (arith, nat_tests)

fault_by : (words : List (List ℕ)) (o : Option Word) (later : Option Reason)
    → length (filter_map mode_of words) ≤ length words
    → word_fault (length (filter_map mode_of words) == length words) ≡ later
    → word_fault (length (cons_option o (filter_map mode_of words)) == suc (length words))
    ≡ option_or (word_fault (is_some o)) later
fault_by words None later small rest = ap word_fault (not_more (length (filter_map mode_of words)) (length words) small)
fault_by words (Some mode) later small rest =
    ap word_fault (both_more (length (filter_map mode_of words)) (length words)) ∙ rest

mode_faults : (ports place : ℕ) (words : List (List ℕ))
    → 2 ≤ place
    → word_fault (length (filter_map mode_of words) == length words) ≡ fault_from ports (Call SetModes) place words
mode_faults ports place [] two = refl
mode_faults ports place (word ∷ words) two =
    fault_by words (mode_of word) (fault_from ports (Call SetModes) (place + 1) words) (few words)
    (mode_faults ports (place + 1) words (omega (arith, two)))
    ∙ ap (λ k. option_or (fault_of ports k word) (fault_from ports (Call SetModes) (place + 1) words))
    (sym (mode_kind place two))

-- the same of an item's arguments
pub modes_fault : (ports : ℕ) (arguments : List (List ℕ)) (r : Option Reason) (modes count : ℕ)
    → modes ≡ length (modes_in arguments)
    → count ≡ length arguments
    → r ≡ word_fault (modes == count - 2)
    → r ≡ fault_from ports (Call SetModes) 2 (drop 2 arguments)
modes_fault ports arguments r modes count read counted told =
    told
    ∙ ap (λ n. word_fault (n == count - 2)) read
    ∙ ap (λ n. word_fault (length (modes_in arguments) == n)) (ap (λ n. n - 2) counted ∙ sym (length-drop 2 arguments))
    ∙ mode_faults ports 2 (drop 2 arguments) (omega arith)
