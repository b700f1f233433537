-- What ERASE removes: bytes that continue a character have no width.
use Rattle.std.proofs.Common.{◌≡◌, ℕ, suc, ◌+◌, ◌-◌, ◌<◌, ◌≤◌, Bool, true, false, cond, eqb}
use Rattle.std.proofs.Common.{Some, None, List, [], ◌∷◌, ◌++◌, length, get_or, take, drop, ◌∙◌}
use Rattle.std.proofs.Common.{sym, ap, inl, inr, refl, arith, length-drop, reverse, get_or-drop}
use Rattle.std.specs.List.{suffix_len}
use Rattle.std.proofs.lemmas.Bool.{leb-true, ne_eqb, and_parts, cases_Bool}
use Rattle.std.proofs.lemmas.Bool.Decides.{nat_tests}
use Rattle.std.proofs.lemmas.List.{drop_more, drop_all, get_or-reverse, length-reverse}
use Rattle.std.proofs.lemmas.List.Sums.{suffix_len-le-length, prefix_len_passes}
use Rattle.tty_modes.specs.Settings.{Settings, has_flag}
use Rattle.tty_modes.specs.declared.places.TheConstants.{IUTF8}
use Rattle.n_tty_edit.specs.declared.line.Gone.{Gone}
use Rattle.tty_modes.specs.Utf8.{is_continuation}
use Rattle.n_tty_edit.specs.Line.{erase_size}
use Rattle.n_tty_edit.specs.Width.{width_of, total_width_of, gone_of}

-- what stands at the end of a list, from where its last elements pass a test
suffix_passes : (p : ℕ → Bool) (xs : List ℕ) (k : ℕ)
    → length xs - suffix_len p xs ≤ k
    → k < length xs
    → p (get_or xs k 0) ≡ true
suffix_passes p xs k from below =
    let within = suffix_len-le-length p xs in
    let same = length-reverse xs in
    ap p (ap (λ j. get_or xs j 0) (let j : k ≡ length xs - 1 - (length xs - 1 - k) = omega arith in j)
    ∙ sym (get_or-reverse xs (length xs - 1 - k) 0 (omega arith)))
    ∙ prefix_len_passes p (reverse xs) (length xs - 1 - k) 0 (omega arith)

-- a byte that continues a character has no width with iutf8, and is no TAB
width_of_continuation : (modes : Settings) (start : ℕ) (before : List ℕ) (byte : ℕ)
    → has_flag modes IUTF8 ≡ true
    → is_continuation byte ≡ true
    → width_of modes start before byte ≡ 0
width_of_continuation modes start before byte utf8 continues =
    let high = leb-true 128 byte (and_parts _ _ continues).0 in
    let no_tab = ne_eqb byte 9 (λ e. absurd (omega arith)) in
    rw (no_tab, utf8, continues) refl

widths_of_continuation : (modes : Settings) (start : ℕ) (before bytes : List ℕ)
    → has_flag modes IUTF8 ≡ true
    → ((k : ℕ) → k < length bytes → is_continuation (get_or bytes k 0) ≡ true)
    → total_width_of modes start before bytes ≡ 0
widths_of_continuation modes start before [] utf8 each = refl
widths_of_continuation modes start before (byte ∷ bytes) utf8 each =
    let first = width_of_continuation modes start before byte utf8 (each 0 (omega arith)) in
    let rest =
    widths_of_continuation modes start (before ++ byte ∷ []) bytes utf8 (λ k below. each (suc k) (omega arith)) in
    omega (arith, first, rest)

-- the size of what ERASE removes is at most the line's length
erase_size_within : (utf8 : Bool) (line : List ℕ) → erase_size utf8 line ≤ length line
erase_size_within false line = omega arith
erase_size_within true line =
    let within = suffix_len-le-length is_continuation line in
    grind (arith, nat_tests)

abbrev pub gone : (first bytes width : ℕ) → Gone
gone first bytes width = record { first = first; bytes = bytes; width = width }

module _ (modes : Settings) (start : ℕ) (line : List ℕ) (size kept : ℕ)
    (is_size : size ≡ erase_size (has_flag modes IUTF8) line) (is_kept : kept ≡ length line - size)
    (some : 0 < size) where
  within : size ≤ length line
  within = omega (arith, erase_size_within (has_flag modes IUTF8) line)

  -- nothing but the first byte has a width
  rest_width : total_width_of modes start (take kept line ++ get_or line kept 0 ∷ []) (drop (kept + 1) line) ≡ 0
  rest_width = elim (cases_Bool (has_flag modes IUTF8)) [
    | inl utf8 ↦
        let is : size ≡ erase_size true line = is_size ∙ ap (λ u. erase_size u line) utf8 in
        let tail : size ≡ suc (suffix_len is_continuation line) = grind (arith, nat_tests) in
        widths_of_continuation modes start _ (drop (kept + 1) line) utf8 (λ k below.
        let len = length-drop (kept + 1) line in
        ap is_continuation (get_or-drop (kept + 1) line k 0)
        ∙ suffix_passes is_continuation line (kept + 1 + k) (omega arith) (omega arith))
    | inr no_utf8 ↦
        let is : size ≡ erase_size false line = is_size ∙ ap (λ u. erase_size u line) no_utf8 in
        ap (total_width_of modes start _) (drop_all (kept + 1) line (omega arith))
  ]

  all_widths : total_width_of modes start (take kept line) (drop kept line)
      ≡ width_of modes start (take kept line) (get_or line kept 0)
  all_widths =
      let first = get_or line kept 0 in
      ap (total_width_of modes start (take kept line)) (drop_more line kept 0 (omega (arith, within)))
      ∙ ap (λ w. width_of modes start (take kept line) first + w) rest_width
      ∙ omega arith

  pub gone_is : (first width : ℕ)
      → first ≡ get_or line kept 0
      → width ≡ width_of modes start (take kept line) (get_or line kept 0)
      → Some (gone first (length line - kept) width) ≡ gone_of modes start line
  gone_is first width is_first is_width =
      let made = λ (k : ℕ).
      Some (gone (get_or line k 0) size (total_width_of modes start (take k line) (drop k line))) in
      let body = λ (n : ℕ). cond (eqb n 0) None
      (Some (gone (get_or line (length line - n) 0) n
      (total_width_of modes start (take (length line - n) line) (drop (length line - n) line)))) in
      ap (λ f. Some (gone f (length line - kept) width)) is_first
      ∙ ap (λ n. Some (gone (get_or line kept 0) n width))
      (let n : length line - kept ≡ size = omega (arith, within) in n)
      ∙ ap (λ w. Some (gone (get_or line kept 0) size w)) (is_width ∙ sym all_widths)
      ∙ ap made is_kept
      ∙ sym (ap body (sym is_size)
      ∙ ap (λ b. cond b None (made (length line - size))) (ne_eqb size 0 (λ e. absurd (omega arith))))
