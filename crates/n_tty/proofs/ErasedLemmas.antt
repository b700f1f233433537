-- What is erased, and its echo.
use Rattle.std.proofs.Common.{◌≡◌, ℕ, zero, suc, ◌+◌, ◌*◌, ◌-◌, ◌%◌, ◌≤◌, ◌<◌, cond, not, Option, Some, None, ◌⊎◌}
use Rattle.std.proofs.Common.{List, [], ◌∷◌, ◌++◌, length, replicate, take, drop, get_or, ap, sym, subst, ◌∙◌, refl}
use Rattle.std.proofs.Common.{inl, inr, arith, eqb, append-nil, append_assoc}
use Rattle.std.proofs.lemmas.Bool.{cases_Bool, cond_both, cond-false}
use Rattle.std.proofs.lemmas.Bool.Decides.{nat_tests}
use Rattle.std.proofs.lemmas.List.{drop_more, take_more, length-replicate, drop-append-le}
use Rattle.std.proofs.lemmas.List.{take-take, take-append-drop, length-take}
use Rattle.tty_modes.specs.Settings.{Settings, has_flag}
use Rattle.tty_modes.specs.declared.places.TheConstants.{IUTF8, ECHO, OPOST}
use Rattle.n_tty_edit.specs.declared.line.Gone.{Gone}
use Rattle.n_tty_edit.specs.Line.{erase_size}
use Rattle.n_tty_edit.specs.Width.{plain_width, width_of, gone_of, width_since_tab}
use Rattle.n_tty_edit.proofs.EraseLemmas.{gone_is}
use Rattle.echo_out.specs.Echo.{blanking_bytes, rubout_bytes, kill_rubs_out, echo_of}
use Rattle.echo_out.specs.declared.EchoEvent.TheVariants as event
use Rattle.echo_out.specs.declared.EraseKind.{EraseKind}
use Rattle.echo_out.specs.declared.EraseKind.TheVariants.{Word, Kill}
use Rattle.opost_out.specs.Posted.{posted_bytes}
use Rattle.n_tty.specs.Posting.{column_past_text, all_posted_bytes}
use Rattle.n_tty.specs.Editing.{echo_of_gone}

-- a byte other than TAB takes at most 2 columns, and each at most 8
pub plain_width-le : (modes : Settings) (byte : ℕ) → plain_width modes byte ≤ 2
plain_width-le modes byte = grind (arith, nat_tests)

pub width_of-le : (modes : Settings) (start : ℕ) (before : List ℕ) (byte : ℕ) → width_of modes start before byte ≤ 8
width_of-le modes start before byte = elim (cases_Bool (eqb byte 9)) [
  | inl tab ↦ rw tab (omega arith)
  | inr other ↦ rw other (omega (arith, plain_width-le modes byte))
]

abbrev pub width_in : Option Gone → ℕ
width_in None = 0
width_in (Some g) = g.width

-- what ERASE removes takes at most 8 columns
pub gone-width-le : (modes : Settings) (start : ℕ) (line : List ℕ) → width_in (gone_of modes start line) ≤ 8
gone-width-le modes start line =
    let size = erase_size (has_flag modes IUTF8) line in
    let kept = length line - size in
    elim (cases_Bool (eqb size 0)) [
      | inl nothing ↦ rw nothing (omega arith)
      | inr something ↦
          subst (λ o. width_in o ≤ 8)
          (gone_is modes start line size kept refl refl (grind (arith, nat_tests)) (get_or line kept 0)
          (width_of modes start (take kept line) (get_or line kept 0)) refl refl)
          (width_of-le modes start (take kept line) (get_or line kept 0))
    ]

-- what rubs a byte out: BS and blanks alone
abbrev pub OnlyRubs : List ℕ → Type 0
OnlyRubs [] = Unit {0}
OnlyRubs (b ∷ bytes) = ((b ≡ 8) ⊎ (b ≡ 32)) × OnlyRubs bytes

OnlyRubs-append : (xs ys : List ℕ) → OnlyRubs xs → OnlyRubs ys → OnlyRubs (xs ++ ys)
OnlyRubs-append [] ys x y = y
OnlyRubs-append (b ∷ xs) ys x y = (x.0, OnlyRubs-append xs ys x.1 y)

OnlyRubs-backspaces : (n : ℕ) → OnlyRubs (replicate n 8)
OnlyRubs-backspaces zero = tt
OnlyRubs-backspaces (suc n) = (inl refl, OnlyRubs-backspaces n)

OnlyRubs-blanked : (n : ℕ) → OnlyRubs (blanking_bytes n)
OnlyRubs-blanked zero = tt
OnlyRubs-blanked (suc n) = (inl refl, (inr refl, (inl refl, OnlyRubs-blanked n)))

pub OnlyRubs-rubbed_out : (byte width : ℕ) → OnlyRubs (rubout_bytes byte width)
OnlyRubs-rubbed_out byte width =
    cond_both (eqb byte 9) (replicate width 8) (blanking_bytes width) OnlyRubs (λ _. OnlyRubs-backspaces width)
    (λ _. OnlyRubs-blanked width)

pub length-blanked : (n : ℕ) → length (blanking_bytes n) ≡ 3 * n
length-blanked zero = refl
length-blanked (suc n) = omega (arith, length-blanked n)

length-rubbed_out-le : (modes : Settings) (start : ℕ) (before : List ℕ) (byte : ℕ)
    → length (rubout_bytes byte (width_of modes start before byte)) ≤ 8
length-rubbed_out-le modes start before byte =
    let width = width_of modes start before byte in
    cond_both (eqb byte 9) (replicate width 8) (blanking_bytes width) (λ xs. length xs ≤ 8)
    (λ _. omega (arith, length-replicate {A = ℕ} width 8, width_of-le modes start before byte))
    (λ other.
    let plain : width ≡ plain_width modes byte =
    cond-false (eqb byte 9) (8 - width_since_tab modes start before % 8) (plain_width modes byte) other in
    omega (arith, length-blanked width, plain, plain_width-le modes byte))

abbrev pub OfBytes : EraseKind → Type 0
OfBytes kind = (kind ≡ Word) ⊎ (kind ≡ Kill)

-- the echo of one byte that WERASE or KILL erases rubs it out, or is none
by_erased : (P : List ℕ → Type 0) (modes : Settings) (kind : EraseKind) (byte width : ℕ)
    → OfBytes kind
    → P []
    → P (rubout_bytes byte width)
    → P (echo_of modes (event.Erased kind byte width))
by_erased P modes kind byte width of none rubbed = elim of [
  | inl word ↦
      subst (λ k. P (echo_of modes (event.Erased k byte width))) (sym word)
      (cond_both (has_flag modes ECHO) (rubout_bytes byte width) [] P (λ _. rubbed) (λ _. none))
  | inr kill ↦
      subst (λ k. P (echo_of modes (event.Erased k byte width))) (sym kill)
      (cond_both (has_flag modes ECHO) (cond (kill_rubs_out modes) (rubout_bytes byte width) []) [] P
      (λ _. cond_both (kill_rubs_out modes) (rubout_bytes byte width) [] P (λ _. rubbed) (λ _. none)) (λ _. none))
]

pub length-echo-le : (modes : Settings) (kind : EraseKind) (start : ℕ) (before : List ℕ) (byte : ℕ) → OfBytes kind
    → length (echo_of modes (event.Erased kind byte (width_of modes start before byte))) ≤ 8
length-echo-le modes kind start before byte of =
    by_erased (λ xs. length xs ≤ 8) modes kind byte (width_of modes start before byte) of (omega arith)
    (length-rubbed_out-le modes start before byte)

pub OnlyRubs-echo_of_gone : (modes : Settings) (kind : EraseKind) (start : ℕ) (kept gone : List ℕ)
    → OfBytes kind
    → OnlyRubs (echo_of_gone modes kind start kept gone)
OnlyRubs-echo_of_gone modes kind start kept [] of = tt
OnlyRubs-echo_of_gone modes kind start kept (byte ∷ gone) of =
    OnlyRubs-append _ _ (OnlyRubs-echo_of_gone modes kind start (kept ++ byte ∷ []) gone of)
    (by_erased OnlyRubs modes kind byte (width_of modes start kept byte) of tt
    (OnlyRubs-rubbed_out byte (width_of modes start kept byte)))

-- output processing leaves BS and blanks as they are
posted_bytes-rub : (modes : Settings) (column b : ℕ) → (b ≡ 8) ⊎ (b ≡ 32) → posted_bytes modes column b ≡ b ∷ []
posted_bytes-rub modes column b is = elim is [
  | inl bs ↦
      subst (λ x. posted_bytes modes column x ≡ x ∷ []) (sym bs)
      (cond_both (not (has_flag modes OPOST)) (8 ∷ []) (8 ∷ []) (λ xs. xs ≡ 8 ∷ []) (λ _. refl) (λ _. refl))
  | inr blank ↦
      subst (λ x. posted_bytes modes column x ≡ x ∷ []) (sym blank)
      (cond_both (not (has_flag modes OPOST)) (32 ∷ []) (32 ∷ []) (λ xs. xs ≡ 32 ∷ []) (λ _. refl) (λ _. refl))
]

pub all_posted_bytes-rubs : (modes : Settings) (column : ℕ) (bytes : List ℕ)
    → OnlyRubs bytes
    → all_posted_bytes modes column bytes ≡ bytes
all_posted_bytes-rubs modes column [] only = refl
all_posted_bytes-rubs modes column (b ∷ bytes) only =
    ap (λ p. p ++ all_posted_bytes modes (column_past_text modes column p) bytes)
    (posted_bytes-rub modes column b only.0)
    ∙ ap (λ xs. b ∷ xs) (all_posted_bytes-rubs modes (column_past_text modes column (b ∷ [])) bytes only.1)

-- the echo of the bytes from a place on ends with that of the first of them
pub echo_of_gone-more : (modes : Settings) (kind : EraseKind) (start : ℕ) (line : List ℕ) (i : ℕ)
    → i < length line
    → echo_of_gone modes kind start (take i line) (drop i line)
    ≡ echo_of_gone modes kind start (take (i + 1) line) (drop (i + 1) line)
    ++ echo_of modes (event.Erased kind (get_or line i 0) (width_of modes start (take i line) (get_or line i 0)))
echo_of_gone-more modes kind start line i within =
    let last =
    echo_of modes (event.Erased kind (get_or line i 0) (width_of modes start (take i line) (get_or line i 0))) in
    ap (echo_of_gone modes kind start (take i line)) (drop_more line i 0 within)
    ∙ ap (λ kept. echo_of_gone modes kind start kept (drop (i + 1) line) ++ last) (sym (take_more line i 0 within))

-- and begins with that of the last
pub echo_of_gone-snoc : (modes : Settings) (kind : EraseKind) (start : ℕ) (kept gone : List ℕ) (b : ℕ)
    → echo_of_gone modes kind start kept (gone ++ b ∷ [])
    ≡ echo_of modes (event.Erased kind b (width_of modes start (kept ++ gone) b))
    ++ echo_of_gone modes kind start kept gone
echo_of_gone-snoc modes kind start kept [] b =
    ap (λ k. echo_of modes (event.Erased kind b (width_of modes start k b))) (sym (append-nil kept))
    ∙ sym (append-nil _)
echo_of_gone-snoc modes kind start kept (x ∷ gone) b =
    let last = echo_of modes (event.Erased kind x (width_of modes start kept x)) in
    ap (λ xs. xs ++ last) (echo_of_gone-snoc modes kind start (kept ++ x ∷ []) gone b)
    ∙ append_assoc _ (echo_of_gone modes kind start (kept ++ x ∷ []) gone) last
    ∙ ap
    (λ k.
    echo_of modes (event.Erased kind b (width_of modes start k b))
    ++ (echo_of_gone modes kind start (kept ++ x ∷ []) gone ++ last))
    (append_assoc kept (x ∷ []) gone)

abbrev pub echo_at : Settings → EraseKind → (start : ℕ) → (line : List ℕ) → (i : ℕ) → List ℕ
echo_at modes kind start line i =
    echo_of modes (event.Erased kind (get_or line i 0) (width_of modes start (take i line) (get_or line i 0)))

-- the echo of the byte at a place, from its byte and its width
pub echo_at-is : (modes : Settings) (kind : EraseKind) (start : ℕ) (line bytes : List ℕ) (i width : ℕ) (echo : List ℕ)
    → bytes ≡ line
    → width ≡ width_of modes start (take i line) (get_or line i 0)
    → echo ≡ echo_of modes (event.Erased kind (get_or bytes i 0) width)
    → echo ≡ echo_at modes kind start line i
echo_at-is modes kind start line bytes i width echo is_line is_width is_echo =
    is_echo
    ∙ ap (λ xs. echo_of modes (event.Erased kind (get_or xs i 0) width)) is_line
    ∙ ap (λ w. echo_of modes (event.Erased kind (get_or line i 0) w)) is_width

-- what is still to be erased begins with the echo of its last byte
pub echo_of_gone-before : (modes : Settings) (kind : EraseKind) (start : ℕ) (line : List ℕ) (from i : ℕ)
    → from ≤ i
    → i < length line
    → echo_of_gone modes kind start (take from line) (drop from (take (i + 1) line))
    ≡ echo_at modes kind start line i ++ echo_of_gone modes kind start (take from line) (drop from (take i line))
echo_of_gone-before modes kind start line from i low within =
    let b = get_or line i 0 in
    let gone = drop from (take i line) in
    let longer : drop from (take (i + 1) line) ≡ gone ++ b ∷ [] =
    ap (drop from) (take_more line i 0 within)
    ∙ drop-append-le from (take i line) (b ∷ []) (omega (arith, length-take i line)) in
    let whole : take from line ++ gone ≡ take i line =
    ap (λ xs. xs ++ gone) (sym (take-take from i line low)) ∙ take-append-drop from (take i line) in
    ap (echo_of_gone modes kind start (take from line)) longer
    ∙ echo_of_gone-snoc modes kind start (take from line) gone b
    ∙ ap
    (λ kept.
    echo_of modes (event.Erased kind b (width_of modes start kept b))
    ++ echo_of_gone modes kind start (take from line) gone) whole

pub OnlyRubs-echo_at : (modes : Settings) (kind : EraseKind) (start : ℕ) (line : List ℕ) (i : ℕ)
    → OfBytes kind
    → OnlyRubs (echo_at modes kind start line i)
OnlyRubs-echo_at modes kind start line i of =
    let width = width_of modes start (take i line) (get_or line i 0) in
    by_erased OnlyRubs modes kind (get_or line i 0) width of tt (OnlyRubs-rubbed_out (get_or line i 0) width)
