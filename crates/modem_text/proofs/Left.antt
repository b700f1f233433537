-- What is left of a text is a session, and what is read keeps the limits.
use Rattle.std.proofs.Common.{◌≡◌, ℕ, ◌+◌, ◌≤◌, List, [], ◌∷◌, ◌++◌, append-nil}
use Rattle.std.proofs.Common.{append_assoc, length, Ok, refl, sym, ◌∙◌, ap, subst, arith}
use Rattle.std.specs.Prelude.{flat_map, sum_by}
use Rattle.std.specs.List.{AllByRecursion}
use Rattle.std.proofs.lemmas.List.Elements.{All-from_recursion}
use Rattle.std.proofs.lemmas.List.Concat.{flat_map-append}
use Rattle.std.proofs.lemmas.List.FromFn.{length-map-range_with_len}
use Rattle.tty_base.specs.Sizes.{MOST_STEPS}
use Rattle.tty_calls.specs.Limits.{IsWithinLimits, IsPhaseWithin, call_count}
use Rattle.tty_calls.specs.Sessions.{PlainPhase, PlainSession}
use Rattle.session_text.specs.Drafts.{all_phases}
use Rattle.session_text.specs.Refusals.{next_line, lines_in}
use Rattle.passed_calls.specs.Derived.{BlockPhase}
use Rattle.passed_calls.specs.Within.{AreBlocksWithin, AreCallsWithin}
use Rattle.passed_calls.proofs.Mixed.{blocks_within, map_phases, phases_hold, scripts_within}
use Rattle.further_text.specs.Reading.{base_at_end}
use Rattle.further_text.proofs.Drafts.{all_calls, each_phase, ended_outside, keys_in}
use Rattle.further_text.proofs.Items.{then_ok, good, ok_is, Later, end_left, ended_is}
use Rattle.further_text.proofs.Spelled.{left_spells, left_within}
use Rattle.modem_text.specs.declared.items.ModemItem.{ModemItem}
use Rattle.modem_text.specs.Left.{IsLeft, is_own, items_said, call_in, pin_in, own_of, pins_of}
use Rattle.modem_text.specs.Sessions.{PlainPart, no_part, ModemPhase, ModemSession, phase_with, session_with}
use Rattle.modem_text.specs.Reading.{ModemReading, first_modem_reading, after_line, modem_from, modem_in}
use Rattle.modem_text.specs.Within.{block_phase_of, IsModemSessionWithin}
use Rattle.modem_text.proofs.Steps.{size, AreCallers, Holds, first_holds, goes_line}
use Rattle.modem_text.proofs.Said.{so_far, Outside, Told, first_outside, says_line}
use Rattle.modem_text.proofs.Carriers.{few_steps, blocks_within_phase}

-- the session of ports that is read of lines, and what its phases have beside
record Ends (r : ModemReading) (lines : List (List (List ℕ))) (s : ModemSession) : Type 0 where
  base : PlainSession
  parts : List PlainPart
  left : Later is_own r.base.session lines base
  is : s ≡ session_with base parts
  calls : Outside r → flat_map own_of parts ≡ so_far own_of r ++ flat_map call_in (flat_map items_said lines)
  pins : Outside r → flat_map pins_of parts ≡ so_far pins_of r ++ flat_map pin_in (flat_map items_said lines)
  few : Holds r → call_count base.phases + sum_by size parts ≤ MOST_STEPS
  callers : Holds r → AllByRecursion (λ (phase : PlainPhase). AreCallers (keys_in phase)) base.phases

at_end : {X : Type 0} (of_part : PlainPart → List X) (r : ModemReading)
    → of_part no_part ≡ []
    → r.part ≡ no_part
    → flat_map of_part r.parts ≡ so_far of_part r ++ []
at_end {X} of_part r none rests =
    sym (append-nil (so_far of_part r)
    ∙ ap (λ (p : PlainPart). flat_map of_part r.parts ++ of_part p) rests
    ∙ ap (λ (xs : List X). flat_map of_part r.parts ++ xs) none
    ∙ append-nil (flat_map of_part r.parts))

and_more : {X : Type 0} (of_part : PlainPart → List X) (of_item : ModemItem → List X) (r next : ModemReading)
    (words : List (List ℕ)) (lines : List (List (List ℕ)))
    → Told of_part of_item r next words
    → so_far of_part next ++ flat_map of_item (flat_map items_said lines)
    ≡ so_far of_part r ++ flat_map of_item (items_said words ++ flat_map items_said lines)
and_more {X} of_part of_item r next words lines told =
    ap (λ (xs : List X). xs ++ flat_map of_item (flat_map items_said lines)) told
    ∙ append_assoc (so_far of_part r) (flat_map of_item (items_said words))
    (flat_map of_item (flat_map items_said lines))
    ∙ ap (λ (xs : List X). so_far of_part r ++ xs)
    (sym (flat_map-append of_item (items_said words) (flat_map items_said lines)))

ends : (lines : List (List (List ℕ))) (r : ModemReading) (n : ℕ) (s : ModemSession)
    → modem_from r n lines ≡ Ok s
    → Ends r lines s
ends [] r n s e =
    let went = then_ok (base_at_end r.base n) (λ session. good (session_with session r.parts)) s e in
    let phases : went.x.phases ≡ all_phases r.base.session.draft = ended_is r.base.session n went.x went.was in
    record {
      base = went.x;
      parts = r.parts;
      left = end_left is_own r.base.session n went.x went.was;
      is = sym (ok_is (session_with went.x r.parts) s went.goes_on);
      calls = λ h. at_end own_of r refl (h (ended_outside r.base.session n went.x went.was)).none;
      pins = λ h. at_end pins_of r refl (h (ended_outside r.base.session n went.x went.was)).none;
      few = λ h. omega (arith, h.few, ap call_count phases, all_calls r.base.session.draft);
      callers = λ h. subst (AllByRecursion (λ (phase : PlainPhase). AreCallers (keys_in phase))) (sym phases)
          (each_phase AreCallers r.base.session.draft h.each);
    }
ends (words ∷ lines) r n s e =
    let went = then_ok (after_line r n words) (λ next. modem_from next (next_line n) lines) s e in
    let goes = goes_line r went.x n words went.was in
    let rest = ends lines went.x (next_line n) s went.goes_on in
    record {
      base = rest.base;
      parts = rest.parts;
      left = goes.left lines rest.base rest.left;
      is = rest.is;
      calls = λ h.
          let says = says_line r went.x n words went.was h in
          rest.calls says.outside ∙ and_more own_of call_in r went.x words lines says.calls;
      pins = λ h.
          let says = says_line r went.x n words went.was h in
          rest.pins says.outside ∙ and_more pins_of pin_in r went.x words lines says.pins;
      few = λ h. rest.few (goes.holds h);
      callers = λ h. rest.callers (goes.holds h);
    }

pub session_left : (text : List ℕ) (s : ModemSession) → modem_in text ≡ Ok s → IsLeft text s
session_left text s e =
    let is = ends (lines_in text) first_modem_reading 1 s e in
    record {
      base = is.base;
      parts = is.parts;
      spells = left_spells is_own text is.base is.left;
      is = is.is;
      calls = is.calls first_outside;
      pins = is.pins first_outside;
    }

-- ---- the limits

with_limits : (base : PlainSession) (parts : List PlainPart)
    → IsWithinLimits base
    → call_count base.phases + sum_by size parts ≤ MOST_STEPS
    → AllByRecursion (λ (phase : PlainPhase). AreCallers (keys_in phase)) base.phases
    → IsModemSessionWithin (session_with base parts)
with_limits base parts h few callers = record {
  blocks =
      subst (λ (phases : List BlockPhase). AreBlocksWithin base.ports base.flips phases)
      (sym (map_phases (phase_with base.ports) (block_phase_of base.ports) no_part parts 0 base.phases))
      (blocks_within (λ phase part. block_phase_of base.ports (phase_with base.ports phase part)) no_part
      (λ phase. AreCallers (keys_in phase)) size base parts refl
      (λ phase part within are. blocks_within_phase base.ports phase part within are)
      (λ phase part. few_steps base.ports phase part) (λ phase part. refl) (λ phase part. refl)
      h (All-from_recursion (λ (phase : PlainPhase). AreCallers (keys_in phase)) base.phases callers) few);
  calls =
      phases_hold (phase_with base.ports) no_part (IsPhaseWithin base.ports)
      (λ (phase : ModemPhase). AreCallsWithin phase.callers) parts 0 base.phases
      (λ phase part within. scripts_within 0 phase.callers part.own (λ k d fits. (within.scripts k d fits).calls))
      h.phases;
  pins =
      phases_hold (phase_with base.ports) no_part (λ phase. Unit {0})
      (λ (phase : ModemPhase). length phase.pins ≡ base.ports) parts 0 base.phases
      (λ phase part any. length-map-range_with_len _ 0 base.ports) (λ k d fits. tt);
}

pub session_within : (text : List ℕ) (s : ModemSession) → modem_in text ≡ Ok s → IsModemSessionWithin s
session_within text s e =
    let is = ends (lines_in text) first_modem_reading 1 s e in
    let limits = left_within is_own text is.base (left_spells is_own text is.base is.left) in
    subst IsModemSessionWithin (sym is.is)
    (with_limits is.base is.parts limits (is.few first_holds) (is.callers first_holds))
