-- Characters that leave the flip buffer.
use Rattle.std.proofs.Common.{◌≡◌, ℕ, ◌+◌, ◌-◌, ◌<◌, ◌≤◌, ◌^◌, min, Bool, true, false, List}
use Rattle.std.proofs.Common.{[], ◌∷◌, ◌++◌, length, map, refl, sym, ◌∙◌, ap, subst, arith}
use Rattle.std.proofs.lemmas.List.{length-map}
use Rattle.tty_base.specs.declared.characters.Flagged.{Flagged}
use Rattle.word_ring.specs.Ends.{TakerState}
use Rattle.ldisc_switch.specs.Disciplines.{column_in}
use Rattle.tty_terminal.specs.Terminals.{Terminal}
use Rattle.tty_terminal.specs.Receiving.{accepts, after_character, after_characters, AcceptsAll}
use Rattle.tty_terminal.specs.Kept.{kept}
use Rattle.tty_device.specs.Kept.{Taken, flushed, dropped, chars_of, dropped_of}
use Rattle.tty_device.specs.Devices.{MOST_FLUSHED, DeviceState, DropsShown, DropsWhere, FlushesShown, FlushesWhere}
use Rattle.tty_device.specs.Acts.{FlushesLook, DropsOut}
use Rattle.tty_device.proofs.Keeping.{column_fits}
use Rattle.tty_device.proofs.Noting.{more_flushed, more_dropped, count_flushed}

pub as_many : (xs : List Taken) (taken : List Flagged) → chars_of xs ≡ taken → length xs ≡ length taken
as_many xs taken is = sym (length-map xs (λ (x : Taken). x.char)) ∙ ap length is

same_callers : (t : Terminal) (cs : List Flagged) → (after_characters t cs).callers ≡ t.callers
same_callers t [] = refl
same_callers t (c ∷ cs) = same_callers (after_character t c) cs

-- what is kept of a terminal has a column of 32 bits
pub kept_column : (t u : Terminal) → u ≡ kept t → column_in u.disc < 2 ^ 32
kept_column t u is = subst (λ (v : Terminal). column_in v.disc < 2 ^ 32) (sym is) (column_fits t.disc)

-- what is noted of the characters that were flushed
module _ (t u : Terminal) (f g : TakerState Flagged) (cs : List Flagged) (most n : ℕ)
    (h : FlushesLook t u f g cs most n) where
  pub flushed_callers : length u.callers ≡ length t.callers
  flushed_callers = ap (λ (v : Terminal). length v.callers) h.left ∙ ap length (same_callers t cs)

  pub flushed_noted : (xs ys : List Taken) → chars_of xs ≡ f.taken → ys ≡ xs ++ map flushed cs → chars_of ys ≡ g.taken
  flushed_noted xs ys so_far is =
      ap chars_of is ∙ (more_flushed xs cs ∙ (ap (λ (z : List Flagged). z ++ cs) so_far ∙ sym h.moved))

  pub flushed_counted : (xs ys : List Taken) (count : ℕ)
      → count ≡ length (dropped_of xs)
      → ys ≡ xs ++ map flushed cs
      → count ≡ length (dropped_of ys)
  flushed_counted xs ys count so_far is =
      so_far ∙ (sym (count_flushed xs cs) ∙ ap (λ (z : List Taken). length (dropped_of z)) (sym is))

  pub flushes_from : (d v : DeviceState) (asked : ℕ)
      → t ≡ d.terminal
      → d.shown ≡ f.floor
      → length d.taken ≡ length f.taken
      → most ≡ min asked MOST_FLUSHED
      → v ≡ record d { terminal = u; taken = d.taken ++ map flushed cs; shown = g.floor }
      → FlushesShown d v asked n
  flushes_from d v asked same shown taken few is =
      let looked : f.floor ≤ g.floor = h.looked in
      record {
        chars = cs;
        tail = g.floor;
        counted = h.counted;
        looked = omega (arith, shown, looked);
        few = subst (λ (k : ℕ). length cs ≤ min k (g.floor - length d.taken)) few
            (subst (λ (k : ℕ). length cs ≤ min most (g.floor - k)) (sym taken) h.few);
        accepted = subst (λ (x : Terminal). AcceptsAll x cs) same h.accepted;
        left =
            is
            ∙ ap (λ (x : Terminal). record d { terminal = x; taken = d.taken ++ map flushed cs; shown = g.floor })
            (h.left ∙ ap (λ (x : Terminal). kept (after_characters x cs)) same);
        all = λ less. ap (λ (x : DeviceState). accepts x.terminal) is
            ∙ h.all (subst (λ (k : ℕ). length cs < min most (g.floor - k)) taken
            (subst (λ (k : ℕ). length cs < min k (g.floor - length d.taken)) (sym few) less));
      }

pub flushes_where : (b : Bool) (d v : DeviceState) (asked n : ℕ)
    → b ≡ false
    → FlushesShown d v asked n
    → FlushesWhere b d v asked n
flushes_where b d v asked n is h = subst (λ (x : Bool). FlushesWhere x d v asked n) (sym is) h

-- what is noted of the characters that were dropped
module _ (f g : TakerState Flagged) (xs ys : List Taken) (h : DropsOut f g xs ys) where
  pub dropped_noted : chars_of xs ≡ f.taken → chars_of ys ≡ g.taken
  dropped_noted so_far =
      ap chars_of h.notes ∙ (more_dropped xs h.chars ∙ (ap (λ (z : List Flagged). z ++ h.chars) so_far ∙ sym h.moved))

  pub drops_from : (d v : DeviceState)
      → d.shown ≡ f.floor
      → d.taken ≡ xs
      → chars_of xs ≡ f.taken
      → v.taken ≡ ys
      → v.shown ≡ g.floor
      → DropsShown d v
  drops_from d v shown taken so_far taken' shown' =
      let looked : f.floor ≤ h.tail = h.looked in
      let all : length f.taken + length h.chars ≡ h.tail = h.all in
      let last : h.tail ≤ g.floor = h.shown in
      let many : length xs ≡ length f.taken = as_many xs f.taken so_far in
      let same : length d.taken ≡ length xs = ap length taken in
      record {
        chars = h.chars;
        tail = h.tail;
        looked = omega (arith, shown, looked);
        all = omega (arith, all, many, same);
        taken = taken' ∙ (h.notes ∙ ap (λ (z : List Taken). z ++ map dropped h.chars) (sym taken));
        shown = omega (arith, last, shown');
      }

pub drops_where : (b : Bool) (d v : DeviceState) → b ≡ true → DropsShown d v → DropsWhere b d v
drops_where b d v is h = subst (λ (x : Bool). DropsWhere x d v) (sym is) h

pub keeps_where : (b : Bool) (d v : DeviceState) → b ≡ false → v.taken ≡ d.taken → v.shown ≡ d.shown → DropsWhere b d v
keeps_where b d v is taken shown = subst (λ (x : Bool). DropsWhere x d v) (sym is) (taken, shown)
