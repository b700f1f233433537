-- What is left of a text, and three letters for each thing that only its own lines say, are no longer than the text.
use Rattle.std.proofs.Common.{◌≡◌, ◌⊎◌, inl, inr, ℕ, suc, ◌+◌, ◌*◌, ◌≤◌, Bool, true, false, cond, Option, None}
use Rattle.std.proofs.Common.{Some, List, [], ◌∷◌, length, map, refl, ap, ◌∙◌, subst, arith, length-append}
use Rattle.std.specs.Prelude.{filter, flat_map, is_some, not, if◌then◌else◌}
use Rattle.std.specs.List.{slice_split, onto_first}
use Rattle.std.specs.Str.{bytes_eq}
use Rattle.std.proofs.lemmas.Slice.Eq.{bytes_eq-Decides}
use Rattle.text_lines.specs.Lines.{is_newline, is_blank, lines_of, has_bytes, words_of, first_is}
use Rattle.text_lines.specs.Values.{choice_of}
use Rattle.session_text.specs.Refusals.{lines_in}
use Rattle.further_text.specs.Left.{is_shared, text_of, text_left}

-- ---- lines, with their ends

abbrev costs : List (List ℕ) → ℕ
costs [] = 0
costs (line ∷ lines) = suc (length line) + costs lines

onto_costs : (b : ℕ) (lines : List (List ℕ)) (n : ℕ) → costs lines ≤ suc n → costs (onto_first b lines) ≤ suc (suc n)
onto_costs b [] n h = omega arith
onto_costs b (line ∷ lines) n h = omega (arith, h)

line_either : (t : Bool) (b : ℕ) (lines : List (List ℕ)) (n : ℕ)
    → costs lines ≤ suc n
    → costs (cond t ([] ∷ lines) (onto_first b lines)) ≤ suc (suc n)
line_either true b lines n h = omega (arith, h)
line_either false b lines n h = onto_costs b lines n h

text_costs : (text : List ℕ) → costs (lines_of text) ≤ suc (length text)
text_costs [] = omega arith
text_costs (b ∷ bs) = line_either (is_newline b) b (lines_of bs) (length bs) (text_costs bs)

text_long : (lines : List (List ℕ)) → length (text_of lines) ≡ costs lines
text_long [] = refl
text_long (line ∷ lines) = omega (arith, length-append line (10 ∷ text_of lines), text_long lines)

-- ---- words are no longer than their line

abbrev AreShort : ℕ → List (List ℕ) → Type 0
AreShort n [] = Unit {0}
AreShort n (w ∷ ws) = (length w ≤ n) × AreShort n ws

shorter : (n : ℕ) (ws : List (List ℕ)) → AreShort n ws → AreShort (suc n) ws
shorter n [] h = tt
shorter n (w ∷ ws) h = (omega (arith, h.0), shorter n ws h.1)

onto_short : (b n : ℕ) (ws : List (List ℕ)) → AreShort n ws → AreShort (suc n) (onto_first b ws)
onto_short b n [] h = (omega arith, tt)
onto_short b n (w ∷ ws) h = (omega (arith, h.0), shorter n ws h.1)

split_either : (t : Bool) (b n : ℕ) (ws : List (List ℕ))
    → AreShort n ws
    → AreShort (suc n) (cond t ([] ∷ ws) (onto_first b ws))
split_either true b n ws h = (omega arith, shorter n ws h)
split_either false b n ws h = onto_short b n ws h

split_short : (line : List ℕ) → AreShort (length line) (slice_split is_blank line)
split_short [] = (omega arith, tt)
split_short (b ∷ bs) = split_either (is_blank b) b (length bs) (slice_split is_blank bs) (split_short bs)

kept_either : (t : Bool) (n : ℕ) (w : List ℕ) (ws : List (List ℕ))
    → length w ≤ n
    → AreShort n ws
    → AreShort n (cond t (w ∷ ws) ws)
kept_either true n w ws few h = (few, h)
kept_either false n w ws few h = h

kept_short : (n : ℕ) (ws : List (List ℕ)) → AreShort n ws → AreShort n (filter has_bytes ws)
kept_short n [] h = tt
kept_short n (w ∷ ws) h = kept_either (has_bytes w) n w (filter has_bytes ws) h.0 (kept_short n ws h.1)

-- ---- verbs

-- what holds of all that a word may be holds of the one that it is
abbrev pub Each : {X : Type 0} → (X → Type 0) → List X → Type 0
Each P [] = Unit {0}
Each P (x ∷ xs) = P x × Each P xs

chosen : {X : Type 0} (b : Bool) (x v : X) (rest : Option X)
    → cond b (Some x) rest ≡ Some v
    → ((b ≡ true) × (x ≡ v)) ⊎ (rest ≡ Some v)
chosen true x v rest h = inl (refl, cc)
chosen false x v rest h = inr h

choice_has : {X : Type 0} (P : X → Type 0) (text_of : X → List ℕ) (xs : List X) (word : List ℕ) (v : X)
    → Each P xs
    → choice_of text_of xs word ≡ Some v
    → P v
choice_has P text_of [] word v each h = absurd (cc)
choice_has P text_of (x ∷ xs) word v each h =
    elim (chosen (bytes_eq word (text_of x)) x v (choice_of text_of xs word) h) [
      | inl here ↦ subst P here.1 each.0
      | inr later ↦ choice_has P text_of xs word v each.1 later
    ]

choice_is : {X : Type 0} (text_of : X → List ℕ) (xs : List X) (word : List ℕ) (v : X)
    → choice_of text_of xs word ≡ Some v
    → word ≡ text_of v
choice_is text_of [] word v h = absurd (cc)
choice_is text_of (x ∷ xs) word v h =
    elim (chosen (bytes_eq word (text_of x)) x v (choice_of text_of xs word) h) [
      | inl here ↦ (bytes_eq-Decides word (text_of x)).0 here.0 ∙ ap text_of here.1
      | inr later ↦ choice_is text_of xs word v later
    ]

-- ---- a line that only this text has

unless_comment : {X : Type 0} (b : Bool) (xs : List X) (n : ℕ) → length xs ≤ n → length (if b then [] else xs) ≤ n
unless_comment true xs n h = omega arith
unless_comment false xs n h = h

line_by : {V : Type 0} (o : Option V) (said : Option V → ℕ) (word : List ℕ) (line : List ℕ) (left : List (List ℕ))
    → said None ≤ 0
    → ((v : V) → o ≡ Some v → (said (Some v) ≤ 1) × (2 ≤ length word))
    → length word ≤ length line
    → costs (cond (not (is_some o)) (line ∷ left) left) + 3 * said o ≤ suc (length line) + costs left
line_by None said word line left none own short = omega (arith, none)
line_by (Some v) said word line left none own short = (let long = own v refl in omega (arith, long.0, long.1, short))

-- What is left of a text, and three letters for each thing that its own lines say, are no longer than the text, where
-- each such line begins with a verb of two letters at least, and says one thing at most.
module _ {V X : Type 0} (verb_text : V → List ℕ) (all_verbs : List V) (by_verb : Option V → List (List ℕ) → List X)
    (said : List (List ℕ) → List X) (nothing : said [] ≡ [])
    (by_first : (word : List ℕ) (arguments : List (List ℕ))
    → said (word ∷ arguments) ≡ (if first_is 35 word then [] else by_verb (choice_of verb_text all_verbs word)
    arguments))
    (none : (arguments : List (List ℕ)) → length (by_verb None arguments) ≤ 0)
    (few : (arguments : List (List ℕ)) → Each (λ v. length (by_verb (Some v) arguments) ≤ 1) all_verbs)
    (long : Each (λ v. 2 ≤ length (verb_text v)) all_verbs) where
  abbrev verb_of : List ℕ → Option V
  verb_of word = choice_of verb_text all_verbs word

  abbrev is_own : List ℕ → Bool
  is_own word = is_some (verb_of word)

  line_asks : (words : List (List ℕ)) (line : List ℕ) (left : List (List ℕ))
      → AreShort (length line) words
      → costs (cond (is_shared is_own words) (line ∷ left) left) + 3 * length (said words)
      ≤ suc (length line) + costs left
  line_asks [] line left h = omega (arith, ap (λ (xs : List X). length xs) nothing)
  line_asks (word ∷ arguments) line left h =
      omega (
        arith,
        ap (λ (xs : List X). length xs) (by_first word arguments),
        line_by (verb_of word) (λ o. length (if first_is 35 word then [] else by_verb o arguments)) word line left
            (unless_comment (first_is 35 word) (by_verb None arguments) 0 (none arguments))
            (λ v e. (
              unless_comment (first_is 35 word) (by_verb (Some v) arguments) 1
                  (choice_has (λ u. length (by_verb (Some u) arguments) ≤ 1) verb_text all_verbs word v (few arguments)
                  e),
              (let same = ap (λ (w : List ℕ). length w) (choice_is verb_text all_verbs word v e) in
                  omega (arith, same, choice_has (λ u. 2 ≤ length (verb_text u)) verb_text all_verbs word v long e)),
            )) h.0,
      )

  abbrev is_left : List ℕ → Bool
  is_left line = is_shared is_own (words_of line)

  lines_ask : (lines : List (List ℕ))
      → costs (filter is_left lines) + 3 * length (flat_map said (map words_of lines)) ≤ costs lines
  lines_ask [] = omega arith
  lines_ask (line ∷ lines) =
      omega (
        arith,
        line_asks (words_of line) line (filter is_left lines)
            (kept_short (length line) (slice_split is_blank line) (split_short line)),
        lines_ask lines,
        length-append (said (words_of line)) (flat_map said (map words_of lines)),
      )

  pub left_asks : (text : List ℕ)
      → length (text_left is_own text) + 3 * length (flat_map said (lines_in text)) ≤ suc (length text)
  left_asks text = omega (arith, text_long (filter is_left (lines_of text)), lines_ask (lines_of text), text_costs text)
