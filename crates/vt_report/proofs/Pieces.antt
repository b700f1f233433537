-- Blocks, calls and consoles, one behind the other.
use Rattle.std.proofs.Common.{◌≡◌, ℕ, suc, ◌+◌, ◌<◌, ◌≤◌, List, [], ◌∷◌, ◌++◌, length, map, drop, get_or}
use Rattle.std.proofs.Common.{refl, sym, ◌∙◌, ap, arith, append_assoc, append-nil, drop-cons, add-one}
use Rattle.std.proofs.lemmas.List.{drop_all}
use Rattle.tty_calls.specs.declared.answers.PortEnd.{PortEnd}
use Rattle.tty_calls.specs.declared.journals.PortRun.{PortRun}
use Rattle.tty_calls.specs.Sessions.{number_in}
use Rattle.session_print.specs.Ends.{end_of}
use Rattle.vt_consoles.specs.declared.entries.VtEntry.{VtEntry}
use Rattle.vt_print.specs.Consoles.{console_text}
use Rattle.vt_text.specs.declared.sessions.OpCall.{OpCall}
use Rattle.vt_text.specs.declared.sessions.OpScript.{OpScript}
use Rattle.vt_text.specs.declared.sessions.VtPhase.{VtPhase}
use Rattle.vt_text.specs.Sessions.{PlainOperator, operator_of, operators_of}
use Rattle.vt_report.specs.declared.operators.Cursor.{Cursor}
use Rattle.vt_report.specs.Report.{consoles_from, line_of, lines_from, tally_of}
use Rattle.vt_report.specs.Printing.{cursor_next, cursor_then, cursors_then, block_text}
use Rattle.vt_report.specs.Printing.{blocks_text, cursors_after, HasBlocks, HasCalls, blocks_in}

pub blocks_both : (names : List (List ℕ)) (consoles : ℕ) (states : List (List ℕ)) (cursors : List Cursor)
    (xs ys : List PlainOperator)
    → blocks_text names consoles states cursors (xs ++ ys)
    ≡ blocks_text names consoles states cursors xs
    ++ blocks_text names consoles states (cursors_after names cursors xs) ys
blocks_both names consoles states cursors [] ys = refl
blocks_both names consoles states cursors (x ∷ xs) ys =
    let next = cursors_then cursors x.calls (number_in names x.name) in
    let front = block_text consoles states cursors x (number_in names x.name) in
    ap (λ (l : List ℕ). front ++ l) (blocks_both names consoles states next xs ys)
    ∙ sym (append_assoc front (blocks_text names consoles states next xs)
    (blocks_text names consoles states (cursors_after names next xs) ys))

-- ---- consoles

next_item : {A : Type 0} (xs : List A) (i : ℕ) (x : A)
    → i < length xs
    → x ≡ get_or xs i x
    → drop i xs ≡ x ∷ drop (i + 1) xs
next_item xs i x h at =
    drop-cons xs i x h ∙ ap (λ y. y ∷ drop (suc i) xs) (sym at) ∙ ap (λ n. x ∷ drop n xs) (sym (add-one i))

no_ends : (p : ℕ) (entries : List VtEntry) (runs : List PortRun) → consoles_from p entries runs [] ≡ []
no_ends p entries [] = refl
no_ends p entries (run ∷ runs) = refl

pub console_more : (entries : List VtEntry) (first text new : List ℕ) (runs : List PortRun) (ends : List PortEnd)
    (i : ℕ) (run : PortRun) (end : PortEnd)
    → i < length runs
    → run ≡ get_or runs i run
    → i < length ends
    → end ≡ get_or ends i end
    → new ≡ text ++ console_text i entries (tally_of run (end_of end)) end.wire.items
    → text ++ consoles_from i entries (drop i runs) (map end_of (drop i ends)) ≡ first
    → new ++ consoles_from (i + 1) entries (drop (i + 1) runs) (map end_of (drop (i + 1) ends)) ≡ first
console_more entries first text new runs ends i run end h at more there put left =
    let rest : List ℕ = consoles_from (i + 1) entries (drop (i + 1) runs) (map end_of (drop (i + 1) ends)) in
    ap (λ xs. xs ++ rest) put
    ∙ append_assoc text (console_text i entries (tally_of run (end_of end)) end.wire.items) rest
    ∙ ap (λ rs. text ++ consoles_from i entries rs (map end_of (end ∷ drop (i + 1) ends)))
    (sym (next_item runs i run h at))
    ∙ ap (λ es. text ++ consoles_from i entries (drop i runs) (map end_of es)) (sym (next_item ends i end more there))
    ∙ left

pub console_over : (entries : List VtEntry) (first text new : List ℕ) (runs : List PortRun) (ends : List PortEnd)
    (i : ℕ)
    → length ends ≤ i
    → new ≡ text
    → text ++ consoles_from i entries (drop i runs) (map end_of (drop i ends)) ≡ first
    → new ++ consoles_from (i + 1) entries (drop (i + 1) runs) (map end_of (drop (i + 1) ends)) ≡ first
console_over entries first text new runs ends i over same left =
    let none : drop i ends ≡ [] = drop_all i ends over in
    let later : drop (i + 1) ends ≡ [] = drop_all (i + 1) ends (omega arith) in
    ap (λ xs. xs ++ consoles_from (i + 1) entries (drop (i + 1) runs) (map end_of (drop (i + 1) ends))) same
    ∙ ap (λ es. text ++ consoles_from (i + 1) entries (drop (i + 1) runs) (map end_of es)) later
    ∙ ap (λ xs. text ++ xs) (no_ends (i + 1) entries (drop (i + 1) runs) ∙ sym (no_ends i entries (drop i runs)))
    ∙ ap (λ es. text ++ consoles_from i entries (drop i runs) (map end_of es)) (sym none)
    ∙ left

-- ---- blocks and calls

after_both : (names : List (List ℕ)) (cursors : List Cursor) (xs ys : List PlainOperator)
    → cursors_after names cursors (xs ++ ys) ≡ cursors_after names (cursors_after names cursors xs) ys
after_both names cursors [] ys = refl
after_both names cursors (x ∷ xs) ys = after_both names (cursors_then cursors x.calls (number_in names x.name)) xs ys

-- some blocks more
pub blocks_more : (names : List (List ℕ)) (consoles : ℕ) (states : List (List ℕ)) (first : List ℕ) (from : List Cursor)
    (operators : List PlainOperator) (text new : List ℕ) (cursors now : List Cursor) (some left : List PlainOperator)
    → new ≡ text ++ blocks_text names consoles states cursors some
    → now ≡ cursors_after names cursors some
    → length now ≡ length cursors
    → HasBlocks names consoles states first from operators text cursors (some ++ left)
    → HasBlocks names consoles states first from operators new now left
blocks_more names consoles states first from operators text new cursors now some left put set each h = record {
  text_left =
      ap (λ (l : List ℕ). l ++ blocks_text names consoles states now left) put
      ∙ ap
      (λ (cs : List Cursor).
      (text ++ blocks_text names consoles states cursors some) ++ blocks_text names consoles states cs left) set
      ∙ append_assoc text (blocks_text names consoles states cursors some)
      (blocks_text names consoles states (cursors_after names cursors some) left)
      ∙ ap (λ (l : List ℕ). text ++ l) (sym (blocks_both names consoles states cursors some left))
      ∙ h.text_left;
  after =
      ap (λ (cs : List Cursor). cursors_after names cs left) set ∙ sym (after_both names cursors some left) ∙ h.after;
  each = each ∙ h.each;
}

-- one more
pub block_more : (names : List (List ℕ)) (consoles : ℕ) (states : List (List ℕ)) (first : List ℕ) (from : List Cursor)
    (operators : List PlainOperator) (text new : List ℕ) (cursors now : List Cursor) (one : PlainOperator)
    (left : List PlainOperator)
    → new ≡ text ++ block_text consoles states cursors one (number_in names one.name)
    → now ≡ cursors_then cursors one.calls (number_in names one.name)
    → length now ≡ length cursors
    → HasBlocks names consoles states first from operators text cursors (one ∷ left)
    → HasBlocks names consoles states first from operators new now left
block_more names consoles states first from operators text new cursors now one left put set each h =
    blocks_more names consoles states first from operators text new cursors now (one ∷ []) left
    (put
    ∙ ap (λ (l : List ℕ). text ++ l)
    (sym (append-nil (block_text consoles states cursors one (number_in names one.name))))) set each h

pub calls_first : (consoles : ℕ) (states name first : List ℕ) (from : Cursor) (calls : List OpCall)
    → HasCalls consoles states name first from calls first from calls
calls_first consoles states name first from calls = record { text_left = refl; after = refl }

pub call_more : (consoles : ℕ) (states name first : List ℕ) (from : Cursor) (calls : List OpCall) (text new : List ℕ)
    (at now : Cursor) (call : OpCall) (left : List OpCall)
    → new ≡ text ++ line_of consoles states name at.step at.told call
    → now ≡ cursor_next at call
    → HasCalls consoles states name first from calls text at (call ∷ left)
    → HasCalls consoles states name first from calls new now left
call_more consoles states name first from calls text new at now call left put set h = record {
  text_left =
      ap (λ (l : List ℕ). l ++ lines_from consoles states name now.step now.told left) put
      ∙ ap
      (λ (c : Cursor).
      (text ++ line_of consoles states name at.step at.told call) ++ lines_from consoles states name c.step c.told left)
      set
      ∙ append_assoc text (line_of consoles states name at.step at.told call)
      (lines_from consoles states name (cursor_next at call).step (cursor_next at call).told left)
      ∙ h.text_left;
  after = ap (λ (c : Cursor). cursor_then c left) set ∙ h.after;
}

-- the blocks of a phase, and those of the phases behind it
pub blocks_next : (phases : List VtPhase) (i : ℕ) (phase : VtPhase) → i < length phases → phase ≡ get_or phases i phase
    → blocks_in (drop i phases) ≡ operators_of phase.operators.items ++ blocks_in (drop (i + 1) phases)
blocks_next phases i phase h at = ap blocks_in (next_item phases i phase h at)

pub operators_next : (operators : List OpScript) (i : ℕ) (operator : OpScript)
    → i < length operators
    → operator ≡ get_or operators i operator
    → operators_of (drop i operators) ≡ operator_of operator ∷ operators_of (drop (i + 1) operators)
operators_next operators i operator h at = ap operators_of (next_item operators i operator h at)

-- all blocks are told
pub blocks_all : (names : List (List ℕ)) (consoles : ℕ) (states : List (List ℕ)) (first : List ℕ) (from : List Cursor)
    (operators : List PlainOperator) (text : List ℕ) (cursors : List Cursor) (left : List PlainOperator)
    → left ≡ []
    → HasBlocks names consoles states first from operators text cursors left
    → text ≡ first ++ blocks_text names consoles states from operators
blocks_all names consoles states first from operators text cursors left none h =
    sym (append-nil text)
    ∙ ap (λ (l : List PlainOperator). text ++ blocks_text names consoles states cursors l) (sym none)
    ∙ h.text_left

pub no_blocks : (phases : List VtPhase) (i : ℕ) → length phases ≤ i → blocks_in (drop i phases) ≡ []
no_blocks phases i h = ap blocks_in (drop_all i phases h)
