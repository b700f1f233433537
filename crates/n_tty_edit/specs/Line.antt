-- The edited line.
use Rattle.std.specs.Prelude.{ℕ, suc, ◌+◌, ◌-◌, min, Bool, true, false, List, []}
use Rattle.std.specs.Prelude.{◌++◌, length, take, fold, if◌then◌else◌, nat_le, nat_lt}
use Rattle.std.specs.List.{suffix_len}
use Rattle.tty_base.specs.Sizes.{MOST_LINE}
use Rattle.tty_modes.specs.Utf8.{is_continuation}
use Rattle.n_tty_edit.specs.Bytes.{is_word, is_of}
use Rattle.n_tty_edit.specs.declared.bytes.Class.TheVariants.{Other}

-- what is done to the line: the bytes of one character are added, ERASE with or without iutf8, WERASE, and KILL or a
-- delimiter
pub data Change : Type 0 where
  AddBytes : List ℕ → Change
  EraseLast : (utf8 : Bool) → Change
  EraseWord : Change
  Clear : Change

-- How many bytes ERASE removes: the last one. With iutf8 the character is those at the end that continue one, and the
-- byte before them; where there is no such byte, nothing.
abbrev pub erase_size : (utf8 : Bool) → List ℕ → ℕ
erase_size false line = min 1 (length line)
erase_size true line =
    if nat_lt (suffix_len is_continuation line) (length line)
    then suc (suffix_len is_continuation line)
    else 0

-- how many bytes stand before the last word and what follows it: WERASE keeps these
abbrev pub word_start : List ℕ → ℕ
word_start line =
    let word_end = length line - suffix_len (is_of Other) line in
    word_end - suffix_len is_word (take word_end line)

-- the line after one more change; at most so many bytes stand in it
abbrev pub after_change : List ℕ → Change → List ℕ
after_change line (AddBytes bytes) = if nat_le (length line + length bytes) MOST_LINE then line ++ bytes else line
after_change line (EraseLast utf8) = take (length line - erase_size utf8 line) line
after_change line EraseWord = take (word_start line) line
after_change line Clear = []

-- the line that changes leave, by the last of them
abbrev pub edited_line : List Change → List ℕ
edited_line = fold after_change []
