-- The lines of calls, told one after the other.
use Rattle.std.proofs.Common.{◌≡◌, inl, inr, ℕ, List, [], ◌∷◌, ◌++◌, Option, None, Some, ◌+◌}
use Rattle.std.proofs.Common.{◌<◌, length, drop, get_or, map, flat_map, ◌≤◌, refl, sym, ap}
use Rattle.std.proofs.Common.{◌∙◌, arith, append_assoc, append-nil, codes, decimal, slice_get}
use Rattle.std.proofs.lemmas.Grind.{flat_map-append}
use Rattle.std.proofs.lemmas.Option.{get_or_from_slice_get, slice_get_cases, slice_get_within}
use Rattle.tty_calls.specs.declared.sessions.Script.{Script}
use Rattle.tty_calls.specs.declared.sessions.Phase.{Phase}
use Rattle.tty_calls.specs.Sessions.{PlainScript, phase_of, scripts_over, number_in}
use Rattle.tty_calls.specs.Plain.{PlainCall, PlainAnswer}
use Rattle.session_print.specs.Lines.{call_line}
use Rattle.session_print.specs.Report.{ToldCall, answered_line, told_line, told_from}
use Rattle.session_print.proofs.Pieces.{next_item, drop_all}
use Rattle.session_print.specs.Printing.{call_head, call_rest, tens, scripts_for}
use Rattle.session_print.specs.Printing.{told_script, steps_then, told_scripts, steps_after}

-- the text so far and the lines of the calls that are left
pub record Stepping (p : ℕ) (answers : ℕ → ℕ → Option PlainAnswer) (name first : List ℕ) (caller step : ℕ)
    (calls : List PlainCall) (text front shared : List ℕ) (c s i : ℕ) : Type 0 where
  pub same_caller : c ≡ caller
  pub at_step : s ≡ step + i
  pub left : text ++ flat_map (told_line p answers) (told_from name (Some c) s (drop i calls))
      ≡ first ++ flat_map (told_line p answers) (told_from name (Some caller) step calls)
  pub begins : front ≡ call_head p name
  pub shares : shared ≡ front ++ tens s

-- the text so far and the lines of the scripts that are left
pub record Scripting (p : ℕ) (answers : ℕ → ℕ → Option PlainAnswer) (names : List (List ℕ)) (first : List ℕ)
    (steps : List ℕ) (scripts : List Script) (text now : List ℕ) (i : ℕ) : Type 0 where
  pub left : text ++ flat_map (told_line p answers) (told_scripts names now (scripts_for p (drop i scripts)))
      ≡ first ++ flat_map (told_line p answers) (told_scripts names steps (scripts_for p scripts))
  pub after : steps_after names now (scripts_for p (drop i scripts)) ≡ steps_after names steps (scripts_for p scripts)
  pub each : length now ≡ length steps

-- the text so far and the lines of the phases that are left
pub record Phasing (p : ℕ) (answers : ℕ → ℕ → Option PlainAnswer) (names : List (List ℕ)) (first : List ℕ)
    (steps : List ℕ) (phases : List Phase) (text now : List ℕ) (i : ℕ) : Type 0 where
  pub left : text
      ++ flat_map (told_line p answers) (told_scripts names now (scripts_over p (map phase_of (drop i phases))))
      ≡ first ++ flat_map (told_line p answers) (told_scripts names steps (scripts_over p (map phase_of phases)))
  pub each : length now ≡ length steps

-- the line of a call and its answer, after what it begins with
head_line : (p : ℕ) (name : List ℕ) (step : ℕ) (call : PlainCall) (answer : PlainAnswer)
    → call_head p name ++ call_rest step call answer ≡ call_line p name step call answer
head_line p name step call answer =
    let dot : List ℕ = codes "." in
    let rest : List ℕ = call_rest step call answer in
    append_assoc (decimal p) (dot ++ (name ++ dot)) rest
    ∙ ap (λ xs. decimal p ++ (dot ++ xs)) (append_assoc name dot rest)

module _ (p : ℕ) (answers : ℕ → ℕ → Option PlainAnswer) (name first : List ℕ) (caller step : ℕ) (calls : List PlainCall)
    (text new front shared front_new shared_new : List ℕ) (c s i : ℕ)
    (h : Stepping p answers name first caller step calls text front shared c s i) (begins : front_new ≡ front)
    (shares : shared_new ≡ front_new ++ tens (s + 1)) where
  -- one more call
  stepping_more : (call : PlainCall)
      → slice_get calls i ≡ Some call
      → new ≡ text ++ told_line p answers (record { name = name; caller = Some c; step = s; call = call })
      → Stepping p answers name first caller step calls new front_new shared_new c (s + 1) (i + 1)
  stepping_more call at put =
      let line : ToldCall → List ℕ = told_line p answers in
      let here : List ℕ = line (record { name = name; caller = Some c; step = s; call = call }) in
      let rest : List ℕ = flat_map line (told_from name (Some c) (s + 1) (drop (i + 1) calls)) in
      let next : drop i calls ≡ call ∷ drop (i + 1) calls =
      next_item calls i call (slice_get_within calls i call at) (sym (get_or_from_slice_get calls i call call at)) in
      record {
        same_caller = h.same_caller;
        at_step = omega (arith, h.at_step);
        left =
            ap (λ xs. xs ++ rest) put
            ∙ append_assoc text here rest
            ∙ ap (λ cs. text ++ flat_map line (told_from name (Some c) s cs)) (sym next)
            ∙ h.left;
        begins = begins ∙ h.begins;
        shares = shares;
      }

  -- one that is answered
  pub stepping_told : (call : PlainCall) (answer : PlainAnswer)
      → slice_get calls i ≡ Some call
      → Some answer ≡ answers c s
      → new ≡ text ++ (front ++ call_rest s call answer)
      → Stepping p answers name first caller step calls new front_new shared_new c (s + 1) (i + 1)
  stepping_told call answer at told put =
      stepping_more call at
      (put
      ∙ ap (λ f. text ++ (f ++ call_rest s call answer)) h.begins
      ∙ ap (λ xs. text ++ xs) (head_line p name s call answer)
      ∙ ap (λ o. text ++ answered_line p (record { name = name; caller = Some c; step = s; call = call }) o) told)

  -- one that is not
  pub stepping_silent : i < length calls
      → None ≡ answers c s
      → new ≡ text
      → Stepping p answers name first caller step calls new front_new shared_new c (s + 1) (i + 1)
  stepping_silent within silent same =
      elim (slice_get_cases calls i).1 [
        | inl call ↦ stepping_more call.0 call.2
            (same
            ∙ sym (append-nil text)
            ∙ ap (λ o. text ++ answered_line p (record { name = name; caller = Some c; step = s; call = call.0 }) o)
            silent)
        | inr past ↦ absurd (omega (arith, within, past.0))
      ]

-- scripts after others
told_append : (names : List (List ℕ)) (steps : List ℕ) (xs ys : List PlainScript)
    → told_scripts names steps (xs ++ ys)
    ≡ told_scripts names steps xs ++ told_scripts names (steps_after names steps xs) ys
told_append names steps [] ys = refl
told_append names steps (s ∷ ss) ys =
    let here : List ToldCall = told_script steps s (number_in names s.name) in
    let next : List ℕ = steps_then steps s (number_in names s.name) in
    ap (λ ts. here ++ ts) (told_append names next ss ys)
    ∙ sym (append_assoc here (told_scripts names next ss) (told_scripts names (steps_after names next ss) ys))

-- one more phase
pub phasing_more : (p : ℕ) (answers : ℕ → ℕ → Option PlainAnswer) (names : List (List ℕ)) (first steps : List ℕ)
    (phases : List Phase) (text new now then : List ℕ) (i : ℕ) (phase : Phase) (scripts : List Script)
    → Phasing p answers names first steps phases text now i
    → i < length phases
    → phase ≡ get_or phases i phase
    → scripts ≡ phase.callers.items
    → new ≡ text ++ flat_map (told_line p answers) (told_scripts names now (scripts_for p scripts))
    → then ≡ steps_after names now (scripts_for p scripts)
    → length then ≡ length now
    → Phasing p answers names first steps phases new then (i + 1)
phasing_more p answers names first steps phases text new now then i phase scripts h within at its put after each =
    let rest : List PlainScript = scripts_over p (map phase_of (drop (i + 1) phases)) in
    let line : ToldCall → List ℕ = told_line p answers in
    let here : List ToldCall = told_scripts names now (scripts_for p scripts) in
    record {
      left =
          ap (λ xs. xs ++ flat_map line (told_scripts names then rest)) put
          ∙ ap (λ ks. (text ++ flat_map line here) ++ flat_map line (told_scripts names ks rest)) after
          ∙ append_assoc text (flat_map line here)
          (flat_map line (told_scripts names (steps_after names now (scripts_for p scripts)) rest))
          ∙ ap (λ xs. text ++ xs)
          (sym (flat_map-append line here (told_scripts names (steps_after names now (scripts_for p scripts)) rest)))
          ∙ ap (λ ts. text ++ flat_map line ts) (sym (told_append names now (scripts_for p scripts) rest))
          ∙ ap (λ ss. text ++ flat_map line (told_scripts names now (scripts_for p ss ++ rest))) its
          ∙ ap (λ ps. text ++ flat_map line (told_scripts names now (scripts_over p (map phase_of ps))))
          (sym (next_item phases i phase within at))
          ∙ h.left;
      each = each ∙ h.each;
    }

-- all phases
pub phasing_all : (p : ℕ) (answers : ℕ → ℕ → Option PlainAnswer) (names : List (List ℕ)) (first steps : List ℕ)
    (phases : List Phase) (text now : List ℕ) (i : ℕ)
    → Phasing p answers names first steps phases text now i
    → length phases ≤ i
    → text ≡ first ++ flat_map (told_line p answers) (told_scripts names steps (scripts_over p (map phase_of phases)))
phasing_all p answers names first steps phases text now i h all =
    sym (append-nil text)
    ∙ ap (λ ps. text ++ flat_map (told_line p answers) (told_scripts names now (scripts_over p (map phase_of ps))))
    (sym (drop_all phases i all))
    ∙ h.left
