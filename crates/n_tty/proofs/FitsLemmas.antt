-- What keeps a state that fits its modes.
use Rattle.std.proofs.Common.{◌≡◌, ℕ, zero, suc, ◌+◌, ◌≤◌, ◌<◌, Bool, true, false, not, ◌&&◌, Option, None, Some}
use Rattle.std.proofs.Common.{List, [], ◌∷◌, ◌++◌, length, map, drop, ap, sym, ◌∙◌, refl, arith, nat_le, subst}
use Rattle.std.proofs.lemmas.Bool.{cond_both, cond-true, cond-false, true≢false, lt-ltb, ltb-true}
use Rattle.tty_base.specs.Sizes.{MOST_LINE}
use Rattle.tty_base.specs.declared.characters.Flag.{Flag}
use Rattle.tty_base.specs.declared.characters.Flag.TheVariants as flag
use Rattle.tty_base.specs.declared.counters.Signal.{Signal}
use Rattle.tty_base.specs.declared.counters.Signal.TheVariants.{Int}
use Rattle.tty_modes.specs.Settings.{Settings, has_flag}
use Rattle.tty_modes.specs.declared.places.TheConstants.{ICANON, NOFLSH, IXON, VSTART, VSTOP}
use Rattle.tty_modes.specs.declared.places.TheConstants.{IGNBRK, BRKINT, INPCK, IGNPAR}
use Rattle.line_store.specs.Unread.{Item, Byte, End, bytes_of, end_count, first_piece, read_size, after_line}
use Rattle.line_store.proofs.ItemLemmas.{end_count-append}
use Rattle.n_tty.specs.declared.roles.Role.{Role}
use Rattle.n_tty.specs.declared.roles.Role.TheVariants as role
use Rattle.n_tty.specs.States.{NTtyState, OnPort, AllEnded, FitsModes}
use Rattle.n_tty.specs.Storing.{after_store}
use Rattle.n_tty.specs.Roles.{is_character}
use Rattle.n_tty.specs.Flow.{after_signal}
use Rattle.n_tty.specs.Reading.{after_read}
use Rattle.n_tty.specs.Receiving.{ordinary_bytes, after_resume_where, after_ordinary, after_role, after_mapped}
use Rattle.n_tty.specs.Receiving.{after_unsteered, after_unquoted, after_good, after_break, after_bad, after_flagged}
use Rattle.n_tty.proofs.StoringLemmas.{end_count-with_plain}

-- what follows a front of items is ended where all are
pub AllEnded-drop : (n : ℕ) (items : List Item) → AllEnded items → AllEnded (drop n items)
AllEnded-drop zero items h = h
AllEnded-drop (suc n) [] h = tt
AllEnded-drop (suc n) (Byte b ∷ items) h = AllEnded-drop n items h.1
AllEnded-drop (suc n) (End ∷ items) h = AllEnded-drop n items h

-- what a property of the items after any number keeps, a read of a line keeps
pub by_after_line : (P : List Item → Type 0) (most : ℕ) (items : List Item)
    → ((n : ℕ) → P (drop n items))
    → P (after_line most items)
by_after_line P most items h =
    cond_both (nat_le (length (first_piece items)) most) (drop (suc (length (first_piece items))) items)
    (drop most items) P (λ _. h (suc (length (first_piece items)))) (λ _. h most)

-- a front that is dropped leaves no more ends and no more bytes
pub end_count-drop : (n : ℕ) (items : List Item) → end_count items ≡ 0 → end_count (drop n items) ≡ 0
end_count-drop zero items h = h
end_count-drop (suc n) [] h = h
end_count-drop (suc n) (Byte b ∷ items) h = end_count-drop n items h
end_count-drop (suc n) (End ∷ items) h = absurd (omega (arith, h))

pub length-bytes_of-drop : (n : ℕ) (items : List Item) → length (bytes_of (drop n items)) ≤ length (bytes_of items)
length-bytes_of-drop zero items = omega arith
length-bytes_of-drop (suc n) [] = omega arith
length-bytes_of-drop (suc n) (Byte b ∷ items) = omega (arith, length-bytes_of-drop n items)
length-bytes_of-drop (suc n) (End ∷ items) = length-bytes_of-drop n items

pub length-bytes_of-after_line : (most : ℕ) (items : List Item)
    → length (bytes_of (after_line most items)) ≤ length (bytes_of items)
length-bytes_of-after_line most items =
    by_after_line (λ xs. length (bytes_of xs) ≤ length (bytes_of items)) most items (λ n. length-bytes_of-drop n items)

-- what fits in canonical mode, and without it
pub FitsModes-canonical : (modes : Settings) (tty : NTtyState)
    → has_flag modes ICANON ≡ true
    → AllEnded tty.items
    → FitsModes modes tty
FitsModes-canonical modes tty canonical ended = record {
  ended = λ _. ended;
  no_ends = λ plain. absurd (true≢false (sym canonical ∙ plain));
  no_line = λ plain. absurd (true≢false (sym canonical ∙ plain));
}

pub FitsModes-plain : (modes : Settings) (tty : NTtyState)
    → has_flag modes ICANON ≡ false
    → end_count tty.items ≡ 0
    → tty.edit ≡ []
    → FitsModes modes tty
FitsModes-plain modes tty plain no_ends no_line = record {
  ended = λ canonical. absurd (true≢false (sym canonical ∙ plain));
  no_ends = λ _. no_ends;
  no_line = λ _. no_line;
}

-- only the items and the edited line count
pub FitsModes-same : (modes : Settings) (tty tty' : NTtyState)
    → tty'.items ≡ tty.items
    → tty'.edit ≡ tty.edit
    → FitsModes modes tty
    → FitsModes modes tty'
FitsModes-same modes tty tty' items line fits = record {
  ended = λ canonical. subst AllEnded (sym items) (fits.ended canonical);
  no_ends = λ plain. ap end_count items ∙ fits.no_ends plain;
  no_line = λ plain. line ∙ fits.no_line plain;
}

-- a read keeps it
pub after_read-Fits : (modes : Settings) (n : ℕ) (tty : NTtyState)
    → FitsModes modes tty
    → FitsModes modes (after_read modes n tty)
after_read-Fits modes n tty fits = record {
  ended = λ canonical.
      subst AllEnded (sym
      (cond-true (has_flag modes ICANON) (after_line (read_size n) tty.items) (drop (read_size n) tty.items) canonical))
      (by_after_line AllEnded (read_size n) tty.items (λ k. AllEnded-drop k tty.items (fits.ended canonical)));
  no_ends = λ plain.
      ap end_count
      (cond-false (has_flag modes ICANON) (after_line (read_size n) tty.items) (drop (read_size n) tty.items) plain)
      ∙ end_count-drop (read_size n) tty.items (fits.no_ends plain);
  no_line = fits.no_line;
}

-- the end of a piece ends all that stands before it
pub AllEnded-append : (xs ys : List Item) → AllEnded xs → AllEnded ys → AllEnded (xs ++ ys)
AllEnded-append [] ys x y = y
AllEnded-append (Byte b ∷ xs) ys x y =
    (lt-ltb 0 _ (omega (arith, ltb-true 0 (end_count xs) x.0, end_count-append xs ys)), AllEnded-append xs ys x.1 y)
AllEnded-append (End ∷ xs) ys x y = AllEnded-append xs ys x y

pub AllEnded-line : (line : List ℕ) (tail : List Item)
    → 0 < end_count tail
    → AllEnded tail
    → AllEnded (map Byte line ++ tail)
AllEnded-line [] tail some ended = ended
AllEnded-line (b ∷ line) tail some ended =
    (lt-ltb 0 _ (omega (arith, some, end_count-append (map Byte line) tail)), AllEnded-line line tail some ended)

pub AllEnded-end : (items : List Item) → AllEnded (items ++ End ∷ [])
AllEnded-end [] = tt
AllEnded-end (Byte b ∷ items) = (lt-ltb 0 _ (omega (arith, end_count-append items (End ∷ []))), AllEnded-end items)
AllEnded-end (End ∷ items) = AllEnded-end items

pub AllEnded-no_bytes : (items : List Item) → length (bytes_of items) ≡ 0 → AllEnded items
AllEnded-no_bytes [] none = tt
AllEnded-no_bytes (Byte b ∷ items) none = absurd (omega (arith, none))
AllEnded-no_bytes (End ∷ items) none = AllEnded-no_bytes items none

pub length-bytes_of-end : (items : List Item) → length (bytes_of (items ++ End ∷ [])) ≡ length (bytes_of items)
length-bytes_of-end [] = refl
length-bytes_of-end (Byte b ∷ items) = ap suc (length-bytes_of-end items)
length-bytes_of-end (End ∷ items) = length-bytes_of-end items

-- only whether canonical mode is on counts
pub FitsModes-alike : (old new : Settings) (tty : NTtyState)
    → has_flag old ICANON ≡ has_flag new ICANON
    → FitsModes old tty
    → FitsModes new tty
FitsModes-alike old new tty same fits = record {
  ended = λ canonical. fits.ended (same ∙ canonical);
  no_ends = λ plain. fits.no_ends (same ∙ plain);
  no_line = λ plain. fits.no_line (same ∙ plain);
}

-- each way to take a character keeps a state that fits, in the order in which one is built on another
abbrev pub Fits : Settings → OnPort → Type 0
Fits modes port = FitsModes modes port.tty

Fits-stored : (modes : Settings) (now : ℕ) (bytes : List ℕ) (port : OnPort)
    → Fits modes port
    → Fits modes (after_store modes now bytes port)
Fits-stored modes now bytes port fits =
    cond_both (has_flag modes ICANON) _ _ (Fits modes)
    (λ canonical. cond_both (nat_le (length port.tty.edit + length bytes) MOST_LINE) _ _ (Fits modes)
    (λ _. FitsModes-canonical modes _ canonical (fits.ended canonical)) (λ _. fits))
    (λ plain.
    FitsModes-plain modes _ plain (end_count-with_plain port.tty.items bytes ∙ fits.no_ends plain) (fits.no_line plain))

Fits-signalled : (modes : Settings) (signal : Signal) (port : OnPort)
    → Fits modes port
    → Fits modes (after_signal modes signal port)
Fits-signalled modes signal port fits =
    cond_both (has_flag modes NOFLSH) _ _ (Fits modes) (λ _. fits)
    (λ _. record { ended = λ _. tt; no_ends = λ _. refl; no_line = λ _. refl })

Fits-resumed_where : (modes : Settings) (applies : Bool) (port : OnPort)
    → Fits modes port
    → Fits modes (after_resume_where applies port)
Fits-resumed_where modes true port fits = fits
Fits-resumed_where modes false port fits = fits

Fits-ordinary : (modes : Settings) (now byte : ℕ) (port : OnPort)
    → Fits modes port
    → Fits modes (after_ordinary modes now byte port)
Fits-ordinary modes now byte port fits =
    let bytes = ordinary_bytes modes byte in
    FitsModes-same modes (after_store modes now bytes port).tty _ refl refl (Fits-stored modes now bytes port fits)

Fits-as : (modes : Settings) (now : ℕ) (r : Role) (byte : ℕ) (port : OnPort)
    → has_flag modes ICANON ≡ true
    → Fits modes port
    → Fits modes (after_role modes now r byte port)
Fits-as modes now role.Erase byte port canonical fits = FitsModes-canonical modes _ canonical (fits.ended canonical)
Fits-as modes now role.Kill byte port canonical fits = FitsModes-canonical modes _ canonical (fits.ended canonical)
Fits-as modes now role.WordErase byte port canonical fits = FitsModes-canonical modes _ canonical (fits.ended canonical)
Fits-as modes now role.Quote byte port canonical fits = FitsModes-canonical modes _ canonical (fits.ended canonical)
Fits-as modes now role.Newline byte port canonical fits =
    FitsModes-canonical modes _ canonical (AllEnded-append port.tty.items _ (fits.ended canonical)
    (AllEnded-line port.tty.edit (Byte byte ∷ End ∷ []) (omega arith) (refl, tt)))
Fits-as modes now role.Eof byte port canonical fits =
    FitsModes-canonical modes _ canonical (AllEnded-append port.tty.items _ (fits.ended canonical)
    (AllEnded-line port.tty.edit (End ∷ []) (omega arith) tt))
Fits-as modes now role.Delimiter byte port canonical fits =
    FitsModes-canonical modes _ canonical (AllEnded-append port.tty.items _ (fits.ended canonical)
    (AllEnded-line port.tty.edit (Byte byte ∷ End ∷ []) (omega arith) (refl, tt)))
Fits-as modes now role.Ordinary byte port canonical fits = Fits-ordinary modes now byte port fits

Fits-mapped : (modes : Settings) (now : ℕ) (m : Option ℕ) (port : OnPort)
    → Fits modes port
    → Fits modes (after_mapped modes now m port)
Fits-mapped modes now None port fits = fits
Fits-mapped modes now (Some byte) port fits =
    cond_both (has_flag modes ICANON) _ _ (Fits modes)
    (λ canonical. Fits-as modes now _ byte port canonical fits) (λ _. Fits-ordinary modes now byte port fits)

Fits-unsteered : (modes : Settings) (now byte : ℕ) (signal : Option Signal) (port : OnPort)
    → Fits modes port
    → Fits modes (after_unsteered modes now byte signal port)
Fits-unsteered modes now byte (Some signal) port fits =
    let raised = after_signal modes signal port in
    FitsModes-same modes (after_resume_where (has_flag modes IXON) raised).tty _ refl refl
    (Fits-resumed_where modes (has_flag modes IXON) raised (Fits-signalled modes signal port fits))
Fits-unsteered modes now byte None port fits = Fits-mapped modes now _ port fits

Fits-unquoted : (modes : Settings) (now byte : ℕ) (port : OnPort)
    → Fits modes port
    → Fits modes (after_unquoted modes now byte port)
Fits-unquoted modes now byte port fits =
    cond_both (has_flag modes IXON && is_character modes VSTART byte) _ _ (Fits modes) (λ _. fits)
    (λ _. cond_both (has_flag modes IXON && is_character modes VSTOP byte) _ _ (Fits modes) (λ _. fits)
    (λ _. Fits-unsteered modes now byte _ _ (Fits-resumed_where modes _ port fits)))

Fits-good : (modes : Settings) (now byte : ℕ) (port : OnPort)
    → Fits modes port
    → Fits modes (after_good modes now byte port)
Fits-good modes now byte port fits =
    cond_both port.tty.quoted _ _ (Fits modes)
    (λ _. Fits-ordinary modes now _ _ (FitsModes-same modes port.tty _ refl refl fits))
    (λ _. Fits-unquoted modes now _ port fits)

Fits-break : (modes : Settings) (now : ℕ) (port : OnPort) → Fits modes port → Fits modes (after_break modes now port)
Fits-break modes now port fits =
    cond_both (has_flag modes IGNBRK) _ _ (Fits modes) (λ _. fits)
    (λ _. cond_both (has_flag modes BRKINT) _ _ (Fits modes) (λ _. Fits-signalled modes Int port fits)
    (λ _. Fits-stored modes now _ port fits))

Fits-bad : (modes : Settings) (now byte : ℕ) (port : OnPort)
    → Fits modes port
    → Fits modes (after_bad modes now byte port)
Fits-bad modes now byte port fits =
    cond_both (not (has_flag modes INPCK)) _ _ (Fits modes) (λ _. Fits-good modes now byte port fits)
    (λ _. cond_both (has_flag modes IGNPAR) _ _ (Fits modes) (λ _. fits) (λ _. Fits-stored modes now _ port fits))

pub Fits-taken : (modes : Settings) (now : ℕ) (f : Flag) (byte : ℕ) (port : OnPort)
    → Fits modes port
    → Fits modes (after_flagged modes now f byte port)
Fits-taken modes now flag.Normal byte port fits = Fits-good modes now byte port fits
Fits-taken modes now flag.Break byte port fits = Fits-break modes now _ fits
Fits-taken modes now flag.Parity byte port fits = Fits-bad modes now byte _ fits
Fits-taken modes now flag.Frame byte port fits = Fits-bad modes now byte _ fits
Fits-taken modes now flag.Overrun byte port fits = fits
