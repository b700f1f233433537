-- An ANSWER is read where it is, word for word, what is printed of the answer that its words mean.
use Rattle.std.specs.Prelude.{ℕ, ◌^◌, ◌==◌, ◌&&◌, nat_le, nat_lt, List, [], ◌∷◌, Option, None, Some}
use Rattle.std.specs.Prelude.{option_map, unwrap_or, Ok, false, replicate, codes, if◌then◌else◌}
use Rattle.std.specs.Str.{bytes_eq}
use Rattle.std.specs.List.{list_all, after_first}
use Rattle.tty_base.specs.declared.counters.Counts.{Counts}
use Rattle.tty_base.specs.declared.counters.Errno.{Errno}
use Rattle.tty_base.specs.declared.counters.Errno.TheVariants.{EBADF, EEXIST, EBUSY, EAGAIN}
use Rattle.tty_base.specs.declared.counters.Errno.TheVariants.{EIO, EINVAL, ENOTTY, EMSGSIZE}
use Rattle.tty_modes.specs.Settings.{Settings, sane_modes}
use Rattle.tty_modes.specs.Word.{after_word}
use Rattle.tty_modes.specs.Reading.{word_of as mode_of}
use Rattle.tty_modes.specs.declared.words.Word.{Word as Mode}
use Rattle.tty_modes.specs.declared.places.TheConstants.{FLAG_COUNT}
use Rattle.tty_calls.specs.Plain.{PlainAnswer, done, count_is, got, number_is, modes_are, counts_are, refused, idle}
use Rattle.text_lines.specs.Lines.{words_of}
use Rattle.text_lines.specs.Values.{is_digit, number_of, number_at, word_at, bytes_of, choice_of}
use Rattle.session_text.specs.declared.faults.Reason.TheVariants.{Word}
use Rattle.session_print.specs.Words.{errno_name, answer_text}
use Rattle.check_text.specs.declared.kinds.AnswerKind.{AnswerKind}
use Rattle.check_text.specs.declared.kinds.AnswerKind.TheVariants as kind
use Rattle.check_text.specs.Fields.{Read, Front, in_front, or_else, ◌>>=◌}

-- ---- what words mean: a number, bytes, modes or counts that are not there are 0, none, cleared or 0

-- an error's name, or `idle`, which any call may be answered
abbrev pub all_errnos : List Errno
all_errnos = EBADF ∷ EEXIST ∷ EBUSY ∷ EAGAIN ∷ EIO ∷ EINVAL ∷ ENOTTY ∷ EMSGSIZE ∷ []

-- those behind the fourth
abbrev pub later_errnos : List Errno
later_errnos = EIO ∷ EINVAL ∷ ENOTTY ∷ EMSGSIZE ∷ []

abbrev pub errno_of : List ℕ → Option Errno
errno_of word = choice_of errno_name all_errnos word

abbrev pub named_answer : List ℕ → Option PlainAnswer
named_answer word = if bytes_eq word (codes "idle") then Some idle else option_map refused (errno_of word)

-- a number of 32 bits
abbrev pub small_at : List (List ℕ) → ℕ
small_at words = if nat_le (number_at words 0) 4294967295 then number_at words 0 else 0

-- the modes that mode words make, up to the first word that is none
abbrev pub then_mode : Settings → Option Mode → (Settings → Settings) → Settings
then_mode modes None later = modes
then_mode modes (Some word) later = later (after_word modes word)

abbrev pub modes_from : Settings → List (List ℕ) → Settings
modes_from modes [] = modes
modes_from modes (word ∷ words) = then_mode modes (mode_of word) (λ next. modes_from next words)

abbrev pub no_flags : Settings
no_flags = record { flags = replicate FLAG_COUNT false; characters = sane_modes.characters }

-- a number of 64 bits
abbrev pub count_of : List ℕ → ℕ
count_of digits = if list_all is_digit digits && nat_lt (number_of digits) (2 ^ 64) then number_of digits else 0

-- .. after the `=` of the word at a place
abbrev pub count_at : List (List ℕ) → ℕ → ℕ
count_at words place = count_of (after_first (λ byte. byte == 61) (word_at words place))

abbrev pub counts_in : List (List ℕ) → Counts
counts_in words = record {
  mark = count_at words 0;
  parity = count_at words 1;
  frame = count_at words 2;
  breaks = count_at words 3;
  cut = count_at words 4;
  echo = count_at words 5;
  pin = count_at words 6;
  pout = count_at words 7;
  pbad = count_at words 8;
  pfull = count_at words 9;
}

abbrev pub answer_by : AnswerKind → List (List ℕ) → PlainAnswer
answer_by kind.Done words = done
answer_by kind.Count words = count_is (small_at words)
answer_by kind.Got words = got (bytes_of (word_at words 1))
answer_by kind.Number words = number_is (small_at words)
answer_by kind.Modes words = modes_are (modes_from no_flags words)
answer_by kind.Counts words = counts_are (counts_in words)

abbrev pub answer_meaning : AnswerKind → List (List ℕ) → PlainAnswer
answer_meaning kind words = unwrap_or (named_answer (word_at words 0)) (answer_by kind words)

-- ---- which words are read

-- the words after those that are printed, where these are the first
abbrev pub words_after : List (List ℕ) → List (List ℕ) → Option (List (List ℕ))
words_after [] words = Some words
words_after (printed ∷ more) [] = None
words_after (printed ∷ more) (word ∷ words) = if bytes_eq word printed then words_after more words else None

abbrev pub answer_words : PlainAnswer → List (List ℕ)
answer_words answer = words_of (answer_text answer)

abbrev pub answer_as : PlainAnswer → List (List ℕ) → Read (Front PlainAnswer)
answer_as answer words = or_else Word (words_after (answer_words answer) words) >>= λ rest. Ok (in_front rest answer)

-- the answer to a call of this kind, and the words that follow it
abbrev pub answer_in : AnswerKind → List (List ℕ) → Read (Front PlainAnswer)
answer_in kind words = answer_as (answer_meaning kind words) words
