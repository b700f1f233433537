-- What KILL leaves and echoes.
use Rattle.std.proofs.Common.{◌≡◌, ℕ, true, false, cond, List, [], ◌∷◌, ◌++◌, length}
use Rattle.std.proofs.Common.{◌==◌, ap, sym, ◌∙◌, refl, inl, inr, arith, append-nil}
use Rattle.std.proofs.lemmas.Bool.{cases_Bool, cond-false, true≢false}
use Rattle.std.proofs.lemmas.Bool.Decides.{nat_tests}
use Rattle.std.proofs.lemmas.List.{nil_from_length}
use Rattle.tty_modes.specs.Settings.{Settings, has_flag, character}
use Rattle.tty_modes.specs.declared.places.TheConstants.{ECHO, ECHOK, VKILL}
use Rattle.echo_out.specs.Echo.{shown_bytes, kill_rubs_out, rubout_bytes}
use Rattle.echo_out.specs.Echo.{kill_echo as kill_shown, erase_echo as erased_shown, echo_of}
use Rattle.echo_out.specs.declared.EchoEvent.TheVariants as event
use Rattle.echo_out.specs.declared.EraseKind.TheVariants.{Kill}
use Rattle.flow_control.specs.Output.{Output, after_try}
use Rattle.flow_control.specs.declared.tally.Tally.{Tally}
use Rattle.n_tty_edit.specs.Width.{width_of}
use Rattle.n_tty.specs.States.{NTtyState, on_port}
use Rattle.n_tty.specs.Posting.{column_after_try, all_posted_bytes, tally_after_try, after_echo}
use Rattle.n_tty.specs.Editing.{echo_of_gone, echo_of_kill, with_line, after_kill}

nil_of : (xs : List ℕ) → (length xs == 0) ≡ true → xs ≡ []
nil_of xs none = nil_from_length xs (grind (arith, nat_tests))

-- where KILL itself is not shown, its echo is that of the bytes
pub echo_of_kill-bytes : (modes : Settings) (start : ℕ) (line : List ℕ)
    → (length (echo_of modes event.Killed) == 0) ≡ true
    → echo_of_kill modes start line ≡ echo_of_gone modes Kill start [] line
echo_of_kill-bytes modes start [] none = refl
echo_of_kill-bytes modes start (b ∷ line) none =
    ap (λ e. echo_of_gone modes Kill start [] (b ∷ line) ++ e) (nil_of (echo_of modes event.Killed) none) ∙ append-nil _

-- where it is, no byte is rubbed out
not_rubbed : (modes : Settings) → (length (echo_of modes event.Killed) == 0) ≡ false → (byte width : ℕ)
    → echo_of modes (event.Erased Kill byte width) ≡ []
not_rubbed modes some byte width = elim (cases_Bool (has_flag modes ECHO)) [
  | inl on ↦ elim (cases_Bool (kill_rubs_out modes)) [
    | inl rubs ↦
        let none : echo_of modes event.Killed ≡ [] =
        ap (λ b. cond b (kill_shown modes) []) on
        ∙ ap (λ b. cond b [] (shown_bytes modes (character modes VKILL) ++ cond (has_flag modes ECHOK) (10 ∷ []) []))
        rubs in
        absurd (true≢false (sym (ap (λ e. length e == 0) none) ∙ some))
    | inr shows ↦
        ap (λ b. cond b (erased_shown modes Kill byte width) []) on
        ∙ cond-false (kill_rubs_out modes) (rubout_bytes byte width) [] shows
  ]
  | inr off ↦ cond-false (has_flag modes ECHO) (erased_shown modes Kill byte width) [] off
]

none_rubbed : (modes : Settings) → (length (echo_of modes event.Killed) == 0) ≡ false → (start : ℕ) (kept gone : List ℕ)
    → echo_of_gone modes Kill start kept gone ≡ []
none_rubbed modes some start kept [] = refl
none_rubbed modes some start kept (b ∷ gone) =
    ap (λ xs. xs ++ echo_of modes (event.Erased Kill b (width_of modes start kept b)))
    (none_rubbed modes some start (kept ++ b ∷ []) gone)
    ∙ not_rubbed modes some b (width_of modes start kept b)

pub echo_of_kill-whole : (modes : Settings) (start : ℕ) (line : List ℕ)
    → (length (echo_of modes event.Killed) == 0) ≡ false
    → (length line == 0) ≡ false
    → echo_of_kill modes start line ≡ echo_of modes event.Killed
echo_of_kill-whole modes start [] some bytes = absurd (true≢false bytes)
echo_of_kill-whole modes start (b ∷ line) some bytes =
    ap (λ xs. xs ++ echo_of modes event.Killed) (none_rubbed modes some start [] (b ∷ line))

-- what is left by a KILL that echoes so
pub killed_by : (modes : Settings) (tty tty' : NTtyState) (output output' : Output) (tally tally' : Tally)
    (echo : List ℕ)
    → echo_of_kill modes tty.start tty.edit ≡ echo
    → tty'
    ≡ (record tty {
      edit = [];
      column = column_after_try modes output tty.column (all_posted_bytes modes tty.column echo);
    })
    → output' ≡ after_try output (all_posted_bytes modes tty.column echo)
    → tally' ≡ tally_after_try output (all_posted_bytes modes tty.column echo) tally
    → on_port tty' output' tally' ≡ after_kill modes (on_port tty output tally)
killed_by modes tty tty' output output' tally tally' echo is_echo is_tty is_output is_tally =
    (λ i. on_port (is_tty i) (is_output i) (is_tally i))
    ∙ ap (λ e. after_echo modes e (with_line [] (on_port tty output tally))) (sym is_echo)
