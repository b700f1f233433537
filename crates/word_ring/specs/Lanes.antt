-- Four numbers of 16 bits in one word of 64.
use Rattle.std.specs.Prelude.{◌≡◌, ℕ, zero, suc, ◌-◌, ◌*◌, ◌/◌, ◌%◌, ◌^◌, List, [], ◌∷◌, ◌++◌, length, take, drop}

-- a lane has the numbers below this; the next two bound the numbers of two lanes, and of three
abbrev pub LANE : ℕ
LANE = 65536

abbrev pub TWO_LANES : ℕ
TWO_LANES = 4294967296

abbrev pub THREE_LANES : ℕ
THREE_LANES = 281474976710656

-- the number in a lane of a word
unfoldable pub lane : ℕ → ℕ → ℕ
lane word l = word / LANE ^ l % LANE

-- the numbers in the first lanes of a word
abbrev pub lanes : ℕ → ℕ → List ℕ
lanes word zero = []
lanes word (suc l) = lanes word l ++ lane word l ∷ []

-- the numbers in the last lanes of a word
abbrev pub top_lanes : ℕ → ℕ → List ℕ
top_lanes word k = lanes (word / LANE ^ (4 - k)) k

-- the part of a list that fills whole words
abbrev pub whole_words : List ℕ → List ℕ
whole_words xs = take (length xs / 4 * 4) xs

-- the word has in its last lanes the part of a list after its whole words
abbrev pub HasLast : (word : ℕ) (xs : List ℕ) → Type 0
HasLast word xs = top_lanes word (length xs % 4) ≡ drop (length xs / 4 * 4) xs
