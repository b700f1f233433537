-- The reference word, from its high end: 32 bits for the generation that is installed, one bit that is set
-- while a seat is about to change it, and 31 bits that count the seats that use it.
use Rattle.std.specs.Prelude.{ℕ, ◌+◌, ◌*◌, ◌/◌, ◌%◌}

-- what one generation adds to the word, and what the bit that is set adds
abbrev pub GENERATION : ℕ
GENERATION = 4294967296

abbrev pub CHANGING : ℕ
CHANGING = 2147483648

-- the numbers of generations are below this
abbrev pub GENERATION_END : ℕ
GENERATION_END = 4294967296

abbrev pub word_of : ℕ → ℕ → ℕ → ℕ
word_of generation changing users = generation * GENERATION + changing * CHANGING + users

abbrev pub generation_in : ℕ → ℕ
generation_in word = word / GENERATION

abbrev pub changing_in : ℕ → ℕ
changing_in word = word / CHANGING % 2

abbrev pub users_in : ℕ → ℕ
users_in word = word % CHANGING
