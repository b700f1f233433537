-- Numbers that are read out of the words.
use Rattle.std.proofs.Common.{◌≡◌, ℕ, ◌+◌, ◌-◌, ◌*◌, ◌/◌, ◌%◌, ◌<◌, ◌≤◌, List, [], ◌∷◌, ◌++◌, length, take}
use Rattle.std.proofs.Common.{drop, min, ap, ◌∙◌, arith, get_or, length-append, length-drop, length-take}
use Rattle.std.proofs.lemmas.List.{get_or-drop, get_or-take, take_more, drop-append-le}
use Rattle.std.proofs.Math.Seq.{get_or-append_right}
use Rattle.word_ring.specs.Lanes.{lane, lanes}
use Rattle.word_ring.specs.TakerParts.{HasLanes}
use Rattle.word_ring.proofs.Packing.{lanes_length, lanes_at}

-- what is read so far, and the rest of its last word
pub rest_long : (read : List ℕ) (word : ℕ)
    → length (read ++ drop (length read % 4) (lanes word 4)) ≡ length read / 4 * 4 + 4
rest_long read word =
    length-append read (drop (length read % 4) (lanes word 4))
    ∙ omega (arith, length-drop (length read % 4) (lanes word 4), lanes_length word 4)

-- each number of the rest stands in its lane
pub rest_at : (read : List ℕ) (word i : ℕ)
    → length read ≤ i
    → i < length read / 4 * 4 + 4
    → get_or (read ++ drop (length read % 4) (lanes word 4)) i 0 ≡ lane word (i % 4)
rest_at read word i low high =
    let l : ℕ = length read % 4 in
    let j : l + (i - length read) ≡ i % 4 = omega arith in
    get_or-append_right read (drop l (lanes word 4)) i 0 low
    ∙ (get_or-drop l (lanes word 4) (i - length read) 0
    ∙ (ap (λ (k : ℕ). get_or (lanes word 4) k 0) j ∙ lanes_at word 4 (i % 4) (omega arith)))

-- what is read so far and the rest of its last word, as far as the tail
abbrev pub shown_of : ℕ → List ℕ → ℕ → List ℕ
shown_of tail read word = take tail (read ++ drop (length read % 4) (lanes word 4))

pub shown_length : (tail : ℕ) (read : List ℕ) (word : ℕ)
    → length (shown_of tail read word) ≡ min tail (length read / 4 * 4 + 4)
shown_length tail read word =
    let long = rest_long read word in length-take tail (read ++ drop (length read % 4) (lanes word 4)) ∙ omega arith

-- each number of the new word stands in its lane
pub shown_lanes : (tail : ℕ) (read : List ℕ) (word : ℕ) → HasLanes word (length read) (shown_of tail read word)
shown_lanes tail read word i low high =
    let long = shown_length tail read word in
    get_or-take tail (read ++ drop (length read % 4) (lanes word 4)) i 0 (omega arith)
    ∙ rest_at read word i low (omega arith)

-- one more number is peeked
pub peeked_more : (taken next : ℕ) (read : List ℕ) (x : ℕ)
    → taken ≤ next
    → next < length read
    → get_or read next 0 ≡ x
    → drop taken (take (next + 1) read) ≡ drop taken (take next read) ++ x ∷ []
peeked_more taken next read x order more is =
    ap (drop taken) (take_more read next 0 more ∙ ap (λ (y : ℕ). take next read ++ y ∷ []) is)
    ∙ drop-append-le taken (take next read) (x ∷ []) (omega (arith, length-take next read))
