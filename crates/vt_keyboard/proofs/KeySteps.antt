-- What a key adds to the received list, where one character is enough for the handler and nothing waits.
use Rattle.std.proofs.Common.{◌≡◌, ℕ, true, false, List, [], ◌∷◌, ◌++◌, reverse, refl, ◌∙◌, ap, append-nil}
use Rattle.std.proofs.lemmas.List.{reverse-append}
use Rattle.tty_base.specs.declared.characters.Flagged.{Flagged}
use Rattle.tty_base.specs.declared.lines.LineStep.{LineStep}
use Rattle.tty_base.specs.declared.lines.LineStep.TheVariants.{Rx, Trigger}
use Rattle.tty_base.specs.Characters.{good_character}
use Rattle.tty_base.specs.Lines.{arrival}
use Rattle.uart_line.specs.Received.{is_cut, is_masked, trigger_of, idle_of, window_output, received_list, waiting_list}
use Rattle.uart_line.proofs.Steps.{cut_after, received_list-step, waiting_list-step}
use Rattle.vt_keyboard.specs.Keying.{IsReadyForKeys}

reverse_step : (before : List LineStep) (step : LineStep) → reverse (before ++ step ∷ []) ≡ step ∷ reverse before
reverse_step before step = reverse-append before (step ∷ [])

-- a step with which nothing arrives, where nothing waits
no_cut : (before : List LineStep) (step : LineStep)
    → waiting_list before ≡ []
    → arrival step ≡ []
    → cut_after before step ≡ false
unfolding is_cut
no_cut before step w a = rw (w, a) refl

pub received_none : (before : List LineStep) (step : LineStep)
    → waiting_list before ≡ []
    → arrival step ≡ []
    → received_list (before ++ step ∷ []) ≡ received_list before
received_none before step w a =
    received_list-step before step ∙ rw (no_cut before step w a) (append-nil (received_list before))

waits_none : (before : List LineStep) (step : LineStep)
    → waiting_list before ≡ []
    → arrival step ≡ []
    → waiting_list (before ++ step ∷ []) ≡ []
waits_none before step w a = waiting_list-step before step ∙ rw (no_cut before step w a, w, a) refl

-- one character is enough after such a step
pub ready_first : (before : List LineStep)
    → is_masked (reverse before) ≡ false
    → waiting_list before ≡ []
    → IsReadyForKeys (before ++ Trigger 1 ∷ [])
unfolding is_masked trigger_of
ready_first before unmasked waits = record {
  unmasked = ap is_masked (reverse_step before (Trigger 1)) ∙ unmasked;
  trigger = ap trigger_of (reverse_step before (Trigger 1));
  none_waits = waits_none before (Trigger 1) waits refl;
}

cut_one : (past : List LineStep) (c : Flagged) (b : ℕ)
    → is_masked past ≡ false
    → trigger_of past ≡ 1
    → is_cut (Rx c ∷ past) (good_character b ∷ []) ≡ true
unfolding is_cut is_masked trigger_of idle_of
cut_one past c b h e = rw (h, e) refl

cut_key : (before : List LineStep) (b : ℕ) → IsReadyForKeys before → cut_after before (Rx (good_character b)) ≡ true
cut_key before b h = rw h.none_waits (cut_one (reverse before) (good_character b) b h.unmasked h.trigger)

output_one : (c : Flagged) → window_output (c ∷ []) ≡ c ∷ []
unfolding window_output
output_one c = refl

pub received_key : (before : List LineStep) (b : ℕ)
    → IsReadyForKeys before
    → received_list (before ++ Rx (good_character b) ∷ []) ≡ received_list before ++ good_character b ∷ []
received_key before b h =
    received_list-step before (Rx (good_character b))
    ∙ rw (cut_key before b h, h.none_waits, output_one (good_character b)) refl

pub ready_key : (before : List LineStep) (b : ℕ) → IsReadyForKeys before
    → IsReadyForKeys (before ++ Rx (good_character b) ∷ [])
unfolding is_masked trigger_of
ready_key before b h = record {
  unmasked = ap is_masked (reverse_step before (Rx (good_character b))) ∙ h.unmasked;
  trigger = ap trigger_of (reverse_step before (Rx (good_character b))) ∙ h.trigger;
  none_waits = waiting_list-step before (Rx (good_character b)) ∙ rw (cut_key before b h) refl;
}
