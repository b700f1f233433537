-- The words of a line, one after the other from the left: what each may be, or the reason for which the line is wrong.
use Rattle.std.specs.Prelude.{ℕ, ◌==◌, nat_le, List, [], ◌∷◌, Option, None, Some, Result, Ok, Err, if◌then◌else◌}
use Rattle.std.specs.Str.{bytes_eq}
use Rattle.text_lines.specs.Values.{is_number, number_of}
use Rattle.session_text.specs.declared.faults.Reason.{Reason}
use Rattle.session_text.specs.declared.faults.Reason.TheVariants.{Word, Number, Order, Limit}

abbrev pub Read : Type 0 → Type 0
Read X = Result X Reason

-- words are read in their order, and the first that is wrong gives the reason
infixl 10 ◌>>=◌
abbrev pub ◌>>=◌ : {X Y : Type 0} → Read X → (X → Read Y) → Read Y
Ok x >>= later = later x
Err reason >>= later = Err reason

-- what was read, and the words that follow it
pub record Front (X : Type 0) : Type 0 where
  pub value : X
  pub rest : List (List ℕ)

abbrev pub in_front : {X : Type 0} → List (List ℕ) → X → Front X
in_front rest value = record { value = value; rest = rest }

abbrev pub or_else : {X : Type 0} → Reason → Option X → Read X
or_else reason None = Err reason
or_else reason (Some x) = Ok x

-- the next word, where one is there
abbrev pub word_in : List (List ℕ) → Read (Front (List ℕ))
word_in [] = Err Word
word_in (word ∷ rest) = Ok (in_front rest word)

-- a number of 32 bits
abbrev pub number_of_word : List ℕ → Read ℕ
number_of_word word =
    if is_number word
    then (if nat_le (number_of word) 4294967295 then Ok (number_of word) else Err Limit)
    else Err Number

abbrev pub number_in : List (List ℕ) → Read (Front ℕ)
number_in words = word_in words >>= λ word. number_of_word word.value >>= λ n. Ok (in_front word.rest n)

-- the words after the number of the port that is due
abbrev pub port_in : ℕ → List (List ℕ) → Read (List (List ℕ))
port_in port words = number_in words >>= λ n. if n.value == port then Ok n.rest else Err Limit

-- the words after the word that is due as the first
abbrev pub after_first : List ℕ → List (List ℕ) → Read (List (List ℕ))
after_first text [] = Err Order
after_first text (word ∷ rest) = if bytes_eq word text then Ok rest else Err Order

-- no word may follow
abbrev pub no_more : List (List ℕ) → Read (Unit {0})
no_more [] = Ok tt
no_more (word ∷ rest) = Err Word

abbrev pub at_end : {X : Type 0} → X → List (List ℕ) → Read X
at_end x words = no_more words >>= λ end. Ok x
