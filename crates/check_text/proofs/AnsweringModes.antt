-- Modes and counts are read back from the words that they are printed as.
use Rattle.std.proofs.Common.{◌≡◌, inl, inr, ℕ, zero, suc, ◌+◌, ◌^◌, ◌<◌, ◌≤◌, ◌&&◌, nat_lt, Bool, true, false}
use Rattle.std.proofs.Common.{cond, List, [], ◌∷◌, ◌++◌, None, length, map, fold, codes, decimal, refl, ap, sym}
use Rattle.std.proofs.Common.{subst, ◌∙◌, arith, append_assoc, length-append, get_or, set, replicate, ltb-true}
use Rattle.std.specs.Prelude.{filter, unwrap_or}
use Rattle.std.specs.List.{list_all, AllByRecursion, range_with_len, join_with_byte}
use Rattle.std.proofs.lemmas.Bool.{and_parts}
use Rattle.std.proofs.lemmas.List.Sums.{fold-append}
use Rattle.std.proofs.lemmas.Fmt.{decimal_nonempty}
use Rattle.std.proofs.Math.Seq.{get_or-append_seam}
use Rattle.tty_base.specs.declared.counters.Counts.{Counts}
use Rattle.tty_modes.specs.Names.{flag_names, character_names}
use Rattle.tty_modes.specs.Reading.{word_of as mode_of}
use Rattle.tty_modes.specs.Settings.{Settings, has_flag, character, sane_modes}
use Rattle.tty_modes.specs.Word.{IsModeWord, word_text, after_word, after_words, words_of as modes_words, modes_text}
use Rattle.tty_modes.specs.declared.words.Word.{Word}
use Rattle.tty_modes.specs.declared.words.Word.TheVariants.{On, Cc}
use Rattle.tty_modes.proofs.WordTexts.{word_of-word_text}
use Rattle.tty_calls.specs.Plain.{modes_are, counts_are}
use Rattle.text_lines.specs.Lines.{words_of}
use Rattle.text_lines.specs.Values.{number_of, word_at}
use Rattle.session_print.specs.Words.{counts_text}
use Rattle.check_text.specs.declared.kinds.AnswerKind.TheVariants as kind
use Rattle.check_text.specs.Answers.{named_answer, then_mode, modes_from, no_flags, count_of, counts_in, answer_meaning}
use Rattle.check_text.specs.Printed.{AreModes, AreCounts}
use Rattle.check_text.proofs.Answering.{Stops, ReadsBack, unnamed, other_text, decimal_plain}
use Rattle.check_text.proofs.Numbers.{digits_of, value_of}
use Rattle.check_text.proofs.Splitting.{Plain, is_plain, Inline, plain_append}
use Rattle.check_text.proofs.Splitting.{plain_inline, inline_append, one_word, word_then}
use Rattle.check_text.proofs.Truths.{lt-ltb}

abbrev Line : Type 0
Line = List (List ℕ)

-- ---- mode words

pub record IsWord (text : List ℕ) : Type 0 where
  pub some : 0 < length text
  pub plain : Plain text

abbrev good_name : List ℕ → Bool
good_name name = nat_lt 0 (length name) && list_all is_plain name

all_at : (p : List ℕ → Bool) (xs : List (List ℕ)) (k : ℕ)
    → list_all p xs ≡ true
    → k < length xs
    → p (get_or xs k []) ≡ true
all_at p [] k all within = absurd (omega (arith, within))
all_at p (x ∷ xs) zero all within = (and_parts (p x) (list_all p xs) all).0
all_at p (x ∷ xs) (suc k) all within = all_at p xs k (and_parts (p x) (list_all p xs) all).1 (omega (arith, within))

name_word : (names : List (List ℕ)) (k : ℕ)
    → list_all good_name names ≡ true
    → k < length names
    → IsWord (get_or names k [])
name_word names k all within =
    let parts = and_parts (nat_lt 0 (length (get_or names k []))) (list_all is_plain (get_or names k []))
    (all_at good_name names k all within) in
    record { some = ltb-true 0 (length (get_or names k [])) parts.0; plain = parts.1 }

flag_word : (flag : ℕ) → flag < 29 → IsWord (word_text (On flag))
flag_word flag within = name_word flag_names flag refl within

value_word : (place value : ℕ) → place < 15 → value < 256 → IsWord (word_text (Cc place value))
value_word place value within small =
    let name = get_or character_names place [] in
    let own = name_word character_names place refl within in
    record {
      some = omega (arith, own.some, length-append (name ++ codes "=") (decimal value), length-append name (codes "="));
      plain = plain_append (name ++ codes "=") (decimal value) (plain_append name (codes "=") own.plain refl)
          (decimal_plain value (omega (arith, small)));
    }

-- a word of printed modes
pub record IsPrintedMode (w : Word) : Type 0 where
  pub mode : IsModeWord w
  pub word : IsWord (word_text w)

joined_words : (ws : List Word)
    → AllByRecursion IsPrintedMode ws
    → words_of (join_with_byte 32 (map word_text ws)) ≡ map word_text ws
joined_words [] are = refl
joined_words (w ∷ []) are = one_word (word_text w) are.0.word.some are.0.word.plain
joined_words (w ∷ v ∷ ws) are =
    word_then (word_text w) (join_with_byte 32 (map word_text (v ∷ ws))) are.0.word.some are.0.word.plain
    ∙ ap (λ (rest : Line). word_text w ∷ rest) (joined_words (v ∷ ws) are.1)

joined_inline : (ws : List Word) → AllByRecursion IsPrintedMode ws → Inline (join_with_byte 32 (map word_text ws))
joined_inline [] are = refl
joined_inline (w ∷ []) are = plain_inline (word_text w) are.0.word.plain
joined_inline (w ∷ v ∷ ws) are =
    inline_append (word_text w) (32 ∷ join_with_byte 32 (map word_text (v ∷ ws)))
    (plain_inline (word_text w) are.0.word.plain) (joined_inline (v ∷ ws) are.1)

all_append : {X : Type 0} (P : X → Type 0) (xs ys : List X)
    → AllByRecursion P xs
    → AllByRecursion P ys
    → AllByRecursion P (xs ++ ys)
all_append P [] ys p q = q
all_append P (x ∷ xs) ys p q = (p.0, all_append P xs ys p.1 q)

flags_printed : (test : ℕ → Bool) (count first : ℕ)
    → first + count ≤ 29
    → AllByRecursion IsPrintedMode (map On (filter test (range_with_len first count)))
flags_printed test zero first within = tt
flags_printed test (suc count) first within =
    by (test first) (flags_printed test count (first + 1) (omega (arith, within)))
  where
    by : (b : Bool)
        → AllByRecursion IsPrintedMode (map On (filter test (range_with_len (first + 1) count)))
        → AllByRecursion IsPrintedMode (map On (cond b (first ∷ filter test (range_with_len (first + 1) count))
        (filter test (range_with_len (first + 1) count))))
    by true later = (record { mode = omega (arith, within); word = flag_word first (omega (arith, within)) }, later)
    by false later = later

values_printed : (value : ℕ → ℕ)
    → ((place : ℕ) → value place < 256)
    → (count first : ℕ)
    → first + count ≤ 15
    → AllByRecursion IsPrintedMode (map (λ place. Cc place (value place)) (range_with_len first count))
values_printed value small zero first within = tt
values_printed value small (suc count) first within = (
  record {
    mode = (omega (arith, within), small first);
    word = value_word first (value first) (omega (arith, within)) (small first);
  },
  values_printed value small count (first + 1) (omega (arith, within)),
)

pub modes_printed : (modes : Settings) → AreModes modes → AllByRecursion IsPrintedMode (modes_words modes)
modes_printed modes are =
    all_append IsPrintedMode (map On (filter (has_flag modes) (range_with_len 0 29)))
    (map (λ place. Cc place (character modes place)) (range_with_len 0 15))
    (flags_printed (has_flag modes) 29 0 (omega arith)) (values_printed (character modes) are.bytes 15 0 (omega arith))

pub modes_inline : (modes : Settings) → AreModes modes → Inline (modes_text modes)
modes_inline modes are = joined_inline (modes_words modes) (modes_printed modes are)

-- ---- the modes that they make

no_drop : mode_of (codes "drop") ≡ None
unfolding mode_of
no_drop = refl

stop_modes : (modes : Settings) (rest : Line) → Stops rest → modes_from modes rest ≡ modes
stop_modes modes rest (inl e) = ap (modes_from modes) e
stop_modes modes rest (inr e) =
    ap (modes_from modes) e.1 ∙ ap (λ o. then_mode modes o (λ next. modes_from next (e.0 ∷ []))) no_drop

words_made : (ws : List Word) (modes : Settings) (rest : Line)
    → AllByRecursion IsPrintedMode ws
    → Stops rest
    → modes_from modes (map word_text ws ++ rest) ≡ after_words modes ws
words_made [] modes rest are stops = stop_modes modes rest stops
words_made (w ∷ ws) modes rest are stops =
    ap (λ o. then_mode modes o (λ next. modes_from next (map word_text ws ++ rest))) (word_of-word_text w are.0.mode)
    ∙ words_made ws (after_word modes w) rest are.1 stops

set_seam : {X : Type 0} (done rest : List X) (old new : X)
    → set (done ++ old ∷ rest) (length done) new ≡ (done ++ new ∷ []) ++ rest
set_seam [] rest old new = refl
set_seam (x ∷ done) rest old new = ap (λ xs. x ∷ xs) (set_seam done rest old new)

flags_made : (flags : List Bool) → (fs : List ℕ) (modes : Settings)
    → after_words modes (map On fs) ≡ record modes { flags = fold (λ flags f. set flags f true) modes.flags fs }
flags_made flags [] modes = refl
flags_made flags (f ∷ fs) modes = flags_made flags fs (after_word modes (On f))

values_made : (value : ℕ → ℕ) (ps : List ℕ) (modes : Settings)
    → after_words modes (map (λ place. Cc place (value place)) ps)
    ≡ record modes { characters = fold (λ cs place. set cs place (value place)) modes.characters ps }
values_made value [] modes = refl
values_made value (p ∷ ps) modes = values_made value ps (after_word modes (Cc p (value p)))

last_length : {X : Type 0} (done : List X) (x : X) → length (done ++ x ∷ []) ≡ length done + 1
last_length done x = length-append done (x ∷ [])

all_values : (whole chars done rest : List ℕ)
    → whole ≡ done ++ chars
    → length chars ≡ length rest
    → fold (λ cs place. set cs place (get_or whole place 0)) (done ++ rest)
    (range_with_len (length done) (length rest)) ≡ whole
all_values whole [] done [] is same = sym is
all_values whole [] done (r ∷ rest) is same = absurd (omega (arith, same))
all_values whole (c ∷ chars) done [] is same = absurd (omega (arith, same))
all_values whole (c ∷ chars) done (r ∷ rest) is same =
    let here : get_or whole (length done) 0 ≡ c =
    ap (λ xs. get_or xs (length done) 0) is ∙ get_or-append_seam done c chars 0 in
    let one : set (done ++ r ∷ rest) (length done) (get_or whole (length done) 0) ≡ (done ++ c ∷ []) ++ rest =
    ap (set (done ++ r ∷ rest) (length done)) here ∙ set_seam done rest r c in
    ap
    (λ cs. fold (λ cs place. set cs place (get_or whole place 0)) cs (range_with_len (length done + 1) (length rest)))
    one
    ∙ ap
    (λ n.
    fold (λ cs place. set cs place (get_or whole place 0)) ((done ++ c ∷ []) ++ rest) (range_with_len n (length rest)))
    (sym (last_length done c))
    ∙ all_values whole chars (done ++ c ∷ []) rest (is ∙ sym (append_assoc done (c ∷ []) chars)) (omega (arith, same))

all_flags : (whole flags done : List Bool)
    → whole ≡ done ++ flags
    → fold (λ fl f. set fl f true) (done ++ replicate (length flags) false)
    (filter (λ f. get_or whole f false) (range_with_len (length done) (length flags))) ≡ whole
all_flags whole [] done is = sym is
all_flags whole (flag ∷ flags) done is =
    let here : get_or whole (length done) false ≡ flag =
    ap (λ xs. get_or xs (length done) false) is ∙ get_or-append_seam done flag flags false in
    let later = all_flags whole flags (done ++ flag ∷ []) (is ∙ sym (append_assoc done (flag ∷ []) flags)) in
    let fs = filter (λ f. get_or whole f false) (range_with_len (length done + 1) (length flags)) in
    let at : filter (λ f. get_or whole f false) (range_with_len (length (done ++ flag ∷ [])) (length flags)) ≡ fs =
    ap (λ n. filter (λ f. get_or whole f false) (range_with_len n (length flags))) (last_length done flag) in
    ap
    (λ b. fold (λ fl f. set fl f true) (done ++ false ∷ replicate (length flags) false) (cond b (length done ∷ fs) fs))
    here
    ∙ by flag fs
    ∙ ap (fold (λ fl f. set fl f true) ((done ++ flag ∷ []) ++ replicate (length flags) false)) (sym at)
    ∙ later
  where
    by : (b : Bool) (fs : List ℕ)
        → fold (λ fl f. set fl f true) (done ++ false ∷ replicate (length flags) false) (cond b (length done ∷ fs) fs)
        ≡ fold (λ fl f. set fl f true) ((done ++ b ∷ []) ++ replicate (length flags) false) fs
    by true fs =
        ap (λ fl. fold (λ fl f. set fl f true) fl fs) (set_seam done (replicate (length flags) false) false true)
    by false fs = ap (λ fl. fold (λ fl f. set fl f true) fl fs)
        (sym (append_assoc done (false ∷ []) (replicate (length flags) false)))

modes_made : (modes : Settings) → AreModes modes → after_words no_flags (modes_words modes) ≡ modes
modes_made modes are =
    let ons = map On (filter (has_flag modes) (range_with_len 0 29)) in
    let ccs = map (λ place. Cc place (character modes place)) (range_with_len 0 15) in
    let flags : fold (λ fl f. set fl f true) no_flags.flags
    (filter (has_flag modes) (range_with_len 0 29)) ≡ modes.flags =
    sym (ap (λ n. fold (λ fl f. set fl f true) (replicate n false) (filter (has_flag modes) (range_with_len 0 n)))
    are.flags)
    ∙ all_flags modes.flags modes.flags [] refl in
    let characters : fold (λ cs place. set cs place (character modes place)) sane_modes.characters
    (range_with_len 0 15) ≡ modes.characters =
    all_values modes.characters modes.characters [] sane_modes.characters refl are.characters in
    fold-append after_word no_flags ons ccs
    ∙ ap (λ m. after_words m ccs) (flags_made [] (filter (has_flag modes) (range_with_len 0 29)) no_flags)
    ∙ values_made (character modes) (range_with_len 0 15)
    (record no_flags {
      flags = fold (λ fl f. set fl f true) no_flags.flags (filter (has_flag modes) (range_with_len 0 29));
    })
    ∙ (λ i. record { flags = flags i; characters = characters i })

-- ---- an answer of modes

unnamed_mode : (w : Word) → IsModeWord w → named_answer (word_text w) ≡ None
unfolding mode_of
unnamed_mode w mode =
    let found = word_of-word_text w mode in
    let no = λ (text : List ℕ) (none : mode_of text ≡ None).
    other_text (word_text w) text (λ same. let clash = sym found ∙ ap mode_of same ∙ none in cc) in
    unnamed (word_text w) (no (codes "idle") refl)
    (no (codes "EBADF") refl, (no (codes "EEXIST") refl, (no (codes "EBUSY") refl, (no (codes "EAGAIN") refl, (no (codes "EIO") refl, (no (codes "EINVAL") refl, (no (codes "ENOTTY") refl, (no (codes "EMSGSIZE") refl, tt))))))))

record HasFirst (ws : List Word) : Type 0 where
  first : Word
  more : List Word
  parts : ws ≡ first ∷ more

some_first : (fs : List ℕ) (c : Word) (cs : List Word) → HasFirst (map On fs ++ c ∷ cs)
some_first [] c cs = record { first = c; more = cs; parts = refl }
some_first (f ∷ fs) c cs = record { first = On f; more = map On fs ++ c ∷ cs; parts = refl }

pub modes_back : (modes : Settings) → AreModes modes → ReadsBack kind.Modes (modes_are modes)
modes_back modes are rest stops =
    let ws = modes_words modes in
    let printed = modes_printed modes are in
    let has = some_first (filter (has_flag modes) (range_with_len 0 29)) (Cc 0 (character modes 0))
    (map (λ place. Cc place (character modes place)) (range_with_len 1 14)) in
    let first : IsPrintedMode has.first = (subst (AllByRecursion IsPrintedMode) has.parts printed).0 in
    let name : named_answer (word_at (map word_text ws ++ rest) 0) ≡ None =
    ap (λ (vs : List Word). named_answer (word_at (map word_text vs ++ rest) 0)) has.parts
    ∙ unnamed_mode has.first first.mode in
    ap (λ (words : Line). answer_meaning kind.Modes (words ++ rest)) (joined_words ws printed)
    ∙ ap (λ o. unwrap_or o (modes_are (modes_from no_flags (map word_text ws ++ rest)))) name
    ∙ ap modes_are (words_made ws no_flags rest printed stops ∙ modes_made modes are)

-- ---- counts

count_word : (name rest : List ℕ) (n : ℕ)
    → Plain name
    → n < 2 ^ 64
    → words_of (name ++ (decimal n ++ 32 ∷ rest)) ≡ (name ++ decimal n) ∷ words_of rest
count_word name rest n plain small =
    ap words_of (sym (append_assoc name (decimal n) (32 ∷ rest)))
    ∙ word_then (name ++ decimal n) rest (omega (arith, decimal_nonempty n small, length-append name (decimal n)))
    (plain_append name (decimal n) plain (decimal_plain n small))

last_count : (name : List ℕ) (n : ℕ) → Plain name → n < 2 ^ 64 → words_of (name ++ decimal n) ≡ (name ++ decimal n) ∷ []
last_count name n plain small = one_word (name ++ decimal n)
    (omega (arith, decimal_nonempty n small, length-append name (decimal n)))
    (plain_append name (decimal n) plain (decimal_plain n small))

abbrev pub count_words : Counts → Line
count_words n =
    (codes "mark=" ++ decimal n.mark) ∷ (codes "parity=" ++ decimal n.parity) ∷ (codes "frame=" ++ decimal n.frame)
    ∷ (codes "break=" ++ decimal n.breaks) ∷ (codes "cut=" ++ decimal n.cut)
    ∷ (codes "echo=" ++ decimal n.echo) ∷ (codes "pin=" ++ decimal n.pin) ∷ (codes "pout=" ++ decimal n.pout)
    ∷ (codes "pbad=" ++ decimal n.pbad) ∷ (codes "pfull=" ++ decimal n.pfull) ∷ []

counts_parted : (n : Counts) → AreCounts n → words_of (counts_text n) ≡ count_words n
counts_parted n are =
    let w10 = last_count (codes "pfull=") n.pfull refl are.pfull in
    let t10 = codes "pfull=" ++ decimal n.pfull in
    let t9 = codes "pbad=" ++ (decimal n.pbad ++ 32 ∷ t10) in
    let t8 = codes "pout=" ++ (decimal n.pout ++ 32 ∷ t9) in
    let t7 = codes "pin=" ++ (decimal n.pin ++ 32 ∷ t8) in
    let t6 = codes "echo=" ++ (decimal n.echo ++ 32 ∷ t7) in
    let t5 = codes "cut=" ++ (decimal n.cut ++ 32 ∷ t6) in
    let t4 = codes "break=" ++ (decimal n.breaks ++ 32 ∷ t5) in
    let t3 = codes "frame=" ++ (decimal n.frame ++ 32 ∷ t4) in
    let t2 = codes "parity=" ++ (decimal n.parity ++ 32 ∷ t3) in
    let w9 =
    count_word (codes "pbad=") t10 n.pbad refl are.pbad
    ∙ ap (λ (ws : Line). (codes "pbad=" ++ decimal n.pbad) ∷ ws) w10 in
    let w8 =
    count_word (codes "pout=") t9 n.pout refl are.pout
    ∙ ap (λ (ws : Line). (codes "pout=" ++ decimal n.pout) ∷ ws) w9 in
    let w7 =
    count_word (codes "pin=") t8 n.pin refl are.pin ∙ ap (λ (ws : Line). (codes "pin=" ++ decimal n.pin) ∷ ws) w8 in
    let w6 =
    count_word (codes "echo=") t7 n.echo refl are.echo
    ∙ ap (λ (ws : Line). (codes "echo=" ++ decimal n.echo) ∷ ws) w7 in
    let w5 =
    count_word (codes "cut=") t6 n.cut refl are.cut ∙ ap (λ (ws : Line). (codes "cut=" ++ decimal n.cut) ∷ ws) w6 in
    let w4 =
    count_word (codes "break=") t5 n.breaks refl are.breaks
    ∙ ap (λ (ws : Line). (codes "break=" ++ decimal n.breaks) ∷ ws) w5 in
    let w3 =
    count_word (codes "frame=") t4 n.frame refl are.frame
    ∙ ap (λ (ws : Line). (codes "frame=" ++ decimal n.frame) ∷ ws) w4 in
    let w2 =
    count_word (codes "parity=") t3 n.parity refl are.parity
    ∙ ap (λ (ws : Line). (codes "parity=" ++ decimal n.parity) ∷ ws) w3 in
    count_word (codes "mark=") t2 n.mark refl are.mark ∙ ap (λ (ws : Line). (codes "mark=" ++ decimal n.mark) ∷ ws) w2

count_is_back : (n : ℕ) → n < 2 ^ 64 → count_of (decimal n) ≡ n
count_is_back n small =
    let value = value_of n small in
    ap (λ b. cond (b && nat_lt (number_of (decimal n)) (2 ^ 64)) (number_of (decimal n)) 0) (digits_of n small)
    ∙ ap (λ m. cond (nat_lt m (2 ^ 64)) m 0) value ∙ ap (λ b. cond b n 0) (lt-ltb n (2 ^ 64) small)

counts_read : (n : Counts) (rest : Line) → AreCounts n → counts_in (count_words n ++ rest) ≡ n
counts_read n rest are = λ i. record {
  mark = count_is_back n.mark are.mark i;
  parity = count_is_back n.parity are.parity i;
  frame = count_is_back n.frame are.frame i;
  breaks = count_is_back n.breaks are.breaks i;
  cut = count_is_back n.cut are.cut i;
  echo = count_is_back n.echo are.echo i;
  pin = count_is_back n.pin are.pin i;
  pout = count_is_back n.pout are.pout i;
  pbad = count_is_back n.pbad are.pbad i;
  pfull = count_is_back n.pfull are.pfull i;
}

pub counts_back : (n : Counts) → AreCounts n → ReadsBack kind.Counts (counts_are n)
counts_back n are rest stops =
    ap (λ (words : Line). answer_meaning kind.Counts (words ++ rest)) (counts_parted n are)
    ∙ ap counts_are (counts_read n rest are)

piece : (name rest : List ℕ) (n : ℕ) → Inline name → n < 2 ^ 64 → Inline rest → Inline (name ++ (decimal n ++ rest))
piece name rest n inline small later = inline_append name (decimal n ++ rest) inline
    (inline_append (decimal n) rest (plain_inline (decimal n) (decimal_plain n small)) later)

pub counts_inline : (n : Counts) → AreCounts n → Inline (counts_text n)
counts_inline n are =
    piece (codes "mark=") _ n.mark refl are.mark
    (piece (codes " parity=") _ n.parity refl are.parity (piece (codes " frame=") _ n.frame refl are.frame
    (piece (codes " break=") _ n.breaks refl are.breaks
    (piece (codes " cut=") _ n.cut refl are.cut (piece (codes " echo=") _ n.echo refl are.echo
    (piece (codes " pin=") _ n.pin refl are.pin
    (piece (codes " pout=") _ n.pout refl are.pout (piece (codes " pbad=") _ n.pbad refl are.pbad
    (inline_append (codes " pfull=") (decimal n.pfull) refl
    (plain_inline (decimal n.pfull) (decimal_plain n.pfull are.pfull)))))))))))
