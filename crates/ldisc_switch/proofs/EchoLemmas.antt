-- The column that a character leaves is that of what it posts.
use Rattle.std.proofs.Common.{◌≡◌, ℕ, ◌+◌, ◌<◌, Bool, true, false, ◌==◌, min, List, []}
use Rattle.std.proofs.Common.{◌∷◌, length, if◌then◌else◌, refl, sym, ap, ◌∙◌, arith}
use Rattle.std.proofs.lemmas.Bool.{ne_eqb}
use Rattle.std.proofs.lemmas.Bool.Decides.{nat_tests}
use Rattle.tty_modes.specs.Settings.{Settings}
use Rattle.opost_out.specs.Column.{column_after, posted_text_under}
use Rattle.flow_control.specs.Output.{Output, idle_output, has_room}
use Rattle.flow_control.specs.Counting.{with_count}
use Rattle.flow_control.specs.declared.tally.Counter.TheVariants.{Echo}
use Rattle.flow_control.specs.declared.tally.Tally.{Tally}
use Rattle.n_tty.specs.States.{NTtyState, OnPort, on_port}
use Rattle.n_tty.specs.Posting.{column_past_text, all_posted_bytes, after_echo}
use Rattle.ldisc_switch.specs.Posted.{kept_echo}

-- a port was left at the column of what was posted, as the two other runs show it
pub record Tells (modes : Settings) (column : ℕ) (real under on_idle : OnPort) : Type 0 where
  pub column_is : real.tty.column ≡ column_after column (posted_text_under modes (kept_echo under on_idle))

pub either : (b : Bool) {modes : Settings} {column : ℕ} {real under on_idle real' under' on_idle' : OnPort}
    → Tells modes column real under on_idle → Tells modes column real' under' on_idle'
    → Tells modes column (if b then real else real') (if b then under else under') (if b then on_idle else on_idle')
either true h h' = h
either false h h' = h'

none_kept : (b : Bool) (wire : List ℕ) → wire ≡ [] → (if b then wire else []) ≡ []
none_kept true wire h = h
none_kept false wire h = refl

-- where nothing is posted
pub silent : (modes : Settings) (column : ℕ) (real under on_idle : OnPort)
    → real.tty.column ≡ column
    → on_idle.output.wire ≡ []
    → Tells modes column real under on_idle
silent modes column real under on_idle same nothing = record {
  column_is = same ∙ ap (λ (text : List ℕ). column_after column (posted_text_under modes text))
      (sym (none_kept (under.tally.counts.echo == 0) on_idle.output.wire nothing));
}

no_text_fits : (output : Output) → has_room output [] ≡ true
no_text_fits output = grind (arith, nat_tests)

text_of_full : (output : Output) (text : List ℕ) → has_room output text ≡ false → 0 < length text
text_of_full output [] full = absurd (cc (no_text_fits output))
text_of_full output (byte ∷ text) full = omega arith

not_zero : (n more : ℕ) → 0 < more → min (n + more) 18446744073709551615 ≡ 0 → ⊥
not_zero n more some = λ h. omega arith

posts : (room : Bool) (modes : Settings) (column : ℕ) (text : List ℕ) (tally : Tally)
    → tally.counts.echo ≡ 0
    → (room ≡ false → 0 < length text)
    → (if room then column_past_text modes column text else column)
    ≡ column_after column (posted_text_under modes (if
    (if room then tally else record tally { counts = with_count tally.counts Echo (length text) }).counts.echo == 0
    then text
    else []))
posts true modes column text tally zero full = rw zero refl
posts false modes column text tally zero full =
    rw (ne_eqb (min (tally.counts.echo + length text) 18446744073709551615) 0
    (not_zero tally.counts.echo (length text) (full refl))) refl

-- where an echo is posted last
pub echo_tells : (modes : Settings) (echo : List ℕ) (tty : NTtyState) (output : Output) (tally under on_idle : Tally)
    → under.counts.echo ≡ 0
    → Tells modes tty.column (after_echo modes echo (on_port tty output tally))
    (after_echo modes echo (on_port tty output under)) (after_echo modes echo (on_port tty idle_output on_idle))
echo_tells modes echo tty output tally under on_idle zero =
    let text : List ℕ = all_posted_bytes modes tty.column echo in
    record { column_is = posts (has_room output text) modes tty.column text under zero (text_of_full output text) }
