-- How many characters a script lets arrive, and how many overruns leave.
use Rattle.std.proofs.Common.{◌≡◌, ℕ, suc, ◌+◌, ◌≤◌, ◌==◌, Bool, true, false}
use Rattle.std.proofs.Common.{if◌then◌else◌, List, [], ◌∷◌, length, map, refl, arith}
use Rattle.std.specs.List.{list_any}
use Rattle.std.proofs.lemmas.List.Sums.{sum_by-cons}
use Rattle.tty_base.specs.declared.characters.Flagged.{Flagged}
use Rattle.tty_base.specs.declared.lines.LineStep.TheVariants.{Unmask, Idle}
use Rattle.tty_base.specs.declared.lines.Overrun.{Overrun}
use Rattle.tty_base.specs.Lines.{arrival_count}
use Rattle.uart_line.specs.Received.{closed_script, script}
use Rattle.uart_line.specs.Offered.{kept_list_from}
use Rattle.uart_line.proofs.Steps.{arrival_count-append}
use Rattle.tty_calls.specs.Limits.{character_count}
use Rattle.tty_calls.specs.Sessions.{PlainPhase, line_on}

-- ---- a script

pub script_arrivals : (p : ℕ) (phases : List PlainPhase)
    → arrival_count (script (map (line_on p) phases)) ≡ character_count p phases
unfolding script
script_arrivals p [] = refl
script_arrivals p (x ∷ xs) =
    omega (
      arith,
      arrival_count-append (closed_script (line_on p x)) (script (map (line_on p) xs)),
      arrival_count-append (line_on p x) (Unmask ∷ Idle 4 ∷ []),
      script_arrivals p xs,
      sum_by-cons (λ (phase : PlainPhase). arrival_count (line_on p phase)) x xs,
    )

-- ---- overruns

kept_one : (b : Bool) (c : Flagged) (cs : List Flagged) (n : ℕ)
    → length cs ≤ n
    → length (if b then cs else c ∷ cs) ≤ suc n
kept_one true c cs n h = omega arith
kept_one false c cs n h = omega arith

pub kept_few : (place : ℕ) (cs : List Flagged) (overruns : List Overrun)
    → length (kept_list_from place cs overruns) ≤ length cs
unfolding kept_list_from
kept_few place [] overruns = omega arith
kept_few place (c ∷ cs) overruns = kept_one (list_any (λ o. o.at == place) overruns) c
    (kept_list_from (place + 1) cs overruns) (length cs) (kept_few (place + 1) cs overruns)
