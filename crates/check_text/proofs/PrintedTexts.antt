-- Printed journals after a session are read back.
use Rattle.std.proofs.Common.{◌≡◌, ◌⊎◌, inl, inr, ℕ, zero, suc, ◌+◌, ◌^◌, ◌<◌, ◌≤◌, ◌==◌, Bool, true}
use Rattle.std.proofs.Common.{false, cond, List, [], ◌∷◌, ◌++◌, length, map, codes, decimal, flat_map}
use Rattle.std.proofs.Common.{refl, ap, sym, ◌∙◌, arith, append_assoc, append-nil, not, subst}
use Rattle.std.specs.Prelude.{filter}
use Rattle.std.specs.List.{list_all, AllByRecursion, range_with_len, onto_first}
use Rattle.std.proofs.lemmas.Bool.{and_parts}
use Rattle.std.proofs.lemmas.Bool.Decides.{nat_tests}
use Rattle.std.proofs.lemmas.List.{map-append}
use Rattle.std.proofs.lemmas.List.Elements.{filter-append}
use Rattle.tty_base.specs.Sizes.{MOST_PORTS}
use Rattle.tty_base.specs.declared.lines.Overrun.{Overrun}
use Rattle.tty_calls.specs.declared.journals.PortRun.{PortRun}
use Rattle.tty_calls.specs.Plain.{PlainEntry}
use Rattle.tty_calls.specs.Sessions.{PlainSession, scripts_over}
use Rattle.text_lines.specs.Lines.{is_newline, lines_of, words_of, first_is, says}
use Rattle.text_lines.specs.Values.{is_digit}
use Rattle.session_text.specs.Refusals.{lines_in}
use Rattle.session_text.specs.Grammar.{item_words, session_items, Spells as SpellsSession}
use Rattle.session_text.proofs.Fronts.{good_ports}
use Rattle.session_print.specs.Lines.{newline}
use Rattle.session_print.specs.Journals.{entry_line, overrun_line, heading, line_numbers, journal_on, journals_from}
use Rattle.check_text.specs.Callers.{PlainCallers, callers_on}
use Rattle.check_text.specs.Journals.{callers_by_port}
use Rattle.check_text.specs.Runs.{run_of}
use Rattle.check_text.specs.Grammar.{heading_words, overrun_words, numbers_words, run_lines, runs_lines}
use Rattle.check_text.specs.Grammar.{journals_lines, AreEntries, AreJournals, IsOverrunWithin, IsRunWithin, Spells}
use Rattle.check_text.specs.Printed.{IsEntryOf, IsRunOf, AreRunsOf, text_after}
use Rattle.check_text.proofs.Numbers.{digits_of}
use Rattle.check_text.proofs.Rows.{OwnNames, own_names}
use Rattle.check_text.proofs.Splitting.{Plain, Inline, plain_inline, inline_append, line_parted, one_word, word_then}
use Rattle.check_text.proofs.Answering.{decimal_plain, one_decimal, decimal_then}
use Rattle.check_text.proofs.PrintedEntries.{LinePrinted, in_line, entry_printed}
use Rattle.check_text.proofs.Whole.{regroup}

abbrev Line : Type 0
Line = List (List ℕ)

-- the words of the lines of a text that say something
abbrev told : List ℕ → List Line
told text = filter says (lines_in text)

-- ---- a printed line

line_told : (text rest : List ℕ) (words : Line) → LinePrinted text words → told (text ++ rest) ≡ words ∷ told rest
line_told text rest words printed =
    ap (λ xs. told (xs ++ rest)) printed.is ∙ ap (filter says) (line_parted printed.line rest printed.inline)
    ∙ ap (λ ws. filter says (ws ∷ lines_in rest)) printed.parted
    ∙ ap (λ b. cond b (words ∷ told rest) (told rest)) printed.tells

decimal_inline : (n : ℕ) → n < 2 ^ 64 → Inline (decimal n)
decimal_inline n small = plain_inline (decimal n) (decimal_plain n small)

digit_tells : (digit : ℕ) → is_digit digit ≡ true → (digit == 35) ≡ false
digit_tells digit h = grind (arith, nat_tests)

digits_tell : (digits : List ℕ) → list_all is_digit digits ≡ true → first_is 35 digits ≡ false
digits_tell [] h = refl
digits_tell (digit ∷ digits) h = digit_tells digit (and_parts (is_digit digit) (list_all is_digit digits) h).0

fixed_printed : (text : List ℕ)
    → 0 < length text
    → Plain text
    → first_is 35 text ≡ false
    → LinePrinted (text ++ newline) (text ∷ [])
fixed_printed text some plain tells = record {
  line = text;
  is = refl;
  inline = plain_inline text plain;
  parted = one_word text some plain;
  tells = ap not tells;
}

heading_printed : (text : List ℕ) (port n : ℕ)
    → 0 < length text
    → Plain text
    → first_is 35 text ≡ false
    → port < 2 ^ 64
    → n < 2 ^ 64
    → LinePrinted (heading text port n) (heading_words text port n)
heading_printed text port n some plain tells small few =
    let l1 = decimal port ++ 32 ∷ decimal n in record {
      line = text ++ 32 ∷ l1;
      is = in_line text (32 ∷ l1) _
          (in_line (codes " ") l1 _
          (in_line (decimal port) (32 ∷ decimal n) _ (in_line (codes " ") (decimal n) _ refl)));
      inline = inline_append text (32 ∷ l1) (plain_inline text plain)
          (inline_append (decimal port) (32 ∷ decimal n) (decimal_inline port small) (decimal_inline n few));
      parted =
          word_then text l1 some plain
          ∙ ap (λ (ws : Line). text ∷ ws)
          (decimal_then port (decimal n) small ∙ ap (λ (ws : Line). decimal port ∷ ws) (one_decimal n few));
      tells = ap not tells;
    }

overrun_printed : (o : Overrun) → IsOverrunWithin o → LinePrinted (overrun_line o) (overrun_words o)
overrun_printed o within =
    let at = o.at in
    let l1 = decimal o.sent ++ 32 ∷ decimal o.seen in
    let small_at : o.at < 2 ^ 64 = omega (arith, within.at) in
    let small_sent : o.sent < 2 ^ 64 = omega (arith, within.sent) in
    let small_seen : o.seen < 2 ^ 64 = omega (arith, within.seen) in record {
      line = decimal o.at ++ 32 ∷ l1;
      is = in_line (decimal o.at) (32 ∷ l1) _
          (in_line (codes " ") l1 _
          (in_line (decimal o.sent) (32 ∷ decimal o.seen) _ (in_line (codes " ") (decimal o.seen) _ refl)));
      inline = inline_append (decimal o.at) (32 ∷ l1) (decimal_inline o.at small_at)
          (inline_append (decimal o.sent) (32 ∷ decimal o.seen) (decimal_inline o.sent small_sent)
          (decimal_inline o.seen small_seen));
      parted =
          decimal_then o.at l1 small_at
          ∙ ap (λ (ws : Line). decimal o.at ∷ ws) (decimal_then o.sent (decimal o.seen) small_sent
          ∙ ap (λ (ws : Line). decimal o.sent ∷ ws) (one_decimal o.seen small_seen));
      tells = ap not (digits_tell (decimal o.at) (digits_of o.at small_at));
    }

numbers_printed : (port : ℕ) (run : PortRun)
    → port < 2 ^ 64
    → IsRunWithin (run_of run)
    → LinePrinted (line_numbers port run.line) (numbers_words port (run_of run))
numbers_printed port run small within =
    let arrived = run.line.arrived in
    let lost = run.line.fifo_lost in
    let sent = run.line.sent in
    let few_arrived : arrived < 2 ^ 64 = omega (arith, within.arrived) in
    let few_lost : lost < 2 ^ 64 = omega (arith, within.lost) in
    let few_sent : sent < 2 ^ 64 = omega (arith, within.sent) in
    let l1 = decimal lost ++ 32 ∷ decimal sent in
    let l2 = decimal arrived ++ 32 ∷ l1 in
    let l3 = decimal port ++ 32 ∷ l2 in record {
      line = codes "line" ++ 32 ∷ l3;
      is = in_line (codes "line ") l3 _
          (in_line (decimal port) (32 ∷ l2) _
          (in_line (codes " ") l2 _
          (in_line (decimal arrived) (32 ∷ l1) _
          (in_line (codes " ") l1 _
          (in_line (decimal lost) (32 ∷ decimal sent) _ (in_line (codes " ") (decimal sent) _ refl))))));
      inline = inline_append (codes "line ") l3 refl
          (inline_append (decimal port) (32 ∷ l2) (decimal_inline port small)
          (inline_append (decimal arrived) (32 ∷ l1) (decimal_inline arrived few_arrived)
          (inline_append (decimal lost) (32 ∷ decimal sent) (decimal_inline lost few_lost)
          (decimal_inline sent few_sent))));
      parted =
          word_then (codes "line") l3 (omega arith) refl
          ∙ ap (λ (ws : Line). codes "line" ∷ ws)
          (decimal_then port l2 small ∙ ap (λ (ws : Line). decimal port ∷ ws) (decimal_then arrived l1 few_arrived
          ∙ ap (λ (ws : Line). decimal arrived ∷ ws)
          (decimal_then lost (decimal sent) few_lost
          ∙ ap (λ (ws : Line). decimal lost ∷ ws) (one_decimal sent few_sent))));
      tells = refl;
    }

-- ---- a run

record EntriesTold (callers : PlainCallers) (es : List PlainEntry) : Type 0 where
  lines : List Line
  are : AreEntries callers lines es
  told_is : (rest : List ℕ) → told (flat_map (entry_line callers.names) es ++ rest) ≡ lines ++ told rest

entries_told : (callers : PlainCallers) (es : List PlainEntry)
    → OwnNames callers.names
    → AllByRecursion (IsEntryOf callers) es
    → EntriesTold callers es
entries_told callers [] own are = record { lines = []; are = tt; told_is = λ rest. refl }
entries_told callers (e ∷ es) own are =
    let one = entry_printed callers e own are.0 in
    let more = entries_told callers es own are.1 in record {
      lines = one.words ∷ more.lines;
      are = (one.read, more.are);
      told_is = λ rest.
          ap told (append_assoc (entry_line callers.names e) (flat_map (entry_line callers.names) es) rest)
          ∙ line_told (entry_line callers.names e) (flat_map (entry_line callers.names) es ++ rest) one.words one.line
          ∙ ap (λ (ls : List Line). one.words ∷ ls) (more.told_is rest);
    }

overruns_told : (os : List Overrun) (rest : List ℕ)
    → AllByRecursion IsOverrunWithin os
    → told (flat_map overrun_line os ++ rest) ≡ map overrun_words os ++ told rest
overruns_told [] rest within = refl
overruns_told (o ∷ os) rest within =
    ap told (append_assoc (overrun_line o) (flat_map overrun_line os) rest)
    ∙ line_told (overrun_line o) (flat_map overrun_line os ++ rest) (overrun_words o) (overrun_printed o within.0)
    ∙ ap (λ (ls : List Line). overrun_words o ∷ ls) (overruns_told os rest within.1)

record RunTold (port : ℕ) (session : PlainSession) (run : PortRun) : Type 0 where
  lines : List Line
  are : AreEntries (callers_on port session) lines (run_of run).journal
  told_is : (rest : List ℕ)
      → told (journal_on port session run ++ rest) ≡ run_lines port lines (run_of run) ++ told rest

five_parts : (a b c d e rest : List ℕ) → (a ++ (b ++ (c ++ (d ++ e)))) ++ rest ≡ a ++ (b ++ (c ++ (d ++ (e ++ rest))))
five_parts a b c d e rest =
    append_assoc a (b ++ (c ++ (d ++ e))) rest
    ∙ ap (λ xs. a ++ xs) (append_assoc b (c ++ (d ++ e)) rest
    ∙ ap (λ xs. b ++ xs) (append_assoc c (d ++ e) rest ∙ ap (λ xs. c ++ xs) (append_assoc d e rest)))

run_told : (port : ℕ) (session : PlainSession) (run : PortRun)
    → port < 2 ^ 64
    → IsRunOf (callers_on port session) (run_of run)
    → RunTold port session run
run_told port session run small h =
    let callers = callers_on port session in
    let plain = run_of run in
    let entries = entries_told callers plain.journal (own_names (scripts_over port session.phases)) h.entries in
    let e_text = flat_map (entry_line callers.names) plain.journal in
    let o_text = flat_map overrun_line plain.overruns in
    let first_text = heading (codes "journal") port (length plain.journal) in
    let second_text = heading (codes "overruns") port (length plain.overruns) in
    let n_text = line_numbers port run.line in
    let first = heading_words (codes "journal") port (length plain.journal) in
    let second = heading_words (codes "overruns") port (length plain.overruns) in
    let numbers = numbers_words port plain in record {
      lines = entries.lines;
      are = entries.are;
      told_is = λ rest.
          ap told (five_parts first_text e_text second_text o_text n_text rest)
          ∙ line_told first_text (e_text ++ (second_text ++ (o_text ++ (n_text ++ rest)))) first
          (heading_printed (codes "journal") port (length plain.journal) (omega arith) refl refl small
          (omega (arith, h.within.entries)))
          ∙ ap (λ (ls : List Line). first ∷ ls) (entries.told_is (second_text ++ (o_text ++ (n_text ++ rest)))
          ∙ ap (λ (ls : List Line). entries.lines ++ ls)
          (line_told second_text (o_text ++ (n_text ++ rest)) second
          (heading_printed (codes "overruns") port (length plain.overruns) (omega arith) refl refl small
          (omega (arith, h.within.overruns)))
          ∙ ap (λ (ls : List Line). second ∷ ls) (overruns_told plain.overruns (n_text ++ rest) h.within.each
          ∙ ap (λ (ls : List Line). map overrun_words plain.overruns ++ ls)
          (line_told n_text rest numbers (numbers_printed port run small h.within))))
          ∙ sym (regroup entries.lines (map overrun_words plain.overruns) (told rest) second numbers));
    }

-- ---- all runs

record RunsTold (port count : ℕ) (session : PlainSession) (runs : List PortRun) : Type 0 where
  entries : List (List Line)
  are : AreJournals (map (λ p. callers_on p session) (range_with_len port count)) entries (map run_of runs)
  within : AllByRecursion IsRunWithin (map run_of runs)
  told_is : (rest : List ℕ)
      → told (journals_from port session runs ++ rest) ≡ runs_lines port entries (map run_of runs) ++ told rest

runs_told : (count port : ℕ) (session : PlainSession) (runs : List PortRun)
    → port + count ≤ MOST_PORTS
    → AreRunsOf (map (λ p. callers_on p session) (range_with_len port count)) (map run_of runs)
    → RunsTold port count session runs
runs_told zero port session [] few h = record { entries = []; are = tt; within = tt; told_is = λ rest. refl }
runs_told zero port session (run ∷ runs) few h = absurd h
runs_told (suc count) port session [] few h = absurd h
runs_told (suc count) port session (run ∷ runs) few h =
    let one = run_told port session run (omega (arith, few)) h.0 in
    let more = runs_told count (port + 1) session runs (omega (arith, few)) h.1 in record {
      entries = one.lines ∷ more.entries;
      are = (one.are, more.are);
      within = (h.0.within, more.within);
      told_is = λ rest.
          ap told (append_assoc (journal_on port session run) (journals_from (port + 1) session runs) rest)
          ∙ one.told_is (journals_from (port + 1) session runs ++ rest)
          ∙ ap (λ (ls : List Line). run_lines port one.lines (run_of run) ++ ls) (more.told_is rest)
          ∙ sym (append_assoc (run_lines port one.lines (run_of run))
          (runs_lines (port + 1) more.entries (map run_of runs)) (told rest));
    }

-- ---- after a session

-- a text whose last line is closed has the same lines, but for one that says nothing
record Closed (text : List ℕ) : Type 0 where
  lines : List (List ℕ)
  before : (rest : List ℕ) → lines_of (text ++ 10 ∷ rest) ≡ lines ++ lines_of rest
  same : (lines ≡ lines_of text) ⊎ (lines ≡ lines_of text ++ [] ∷ [])
  some : (first : List ℕ) × (more : List (List ℕ)) × (lines ≡ first ∷ more)

front_onto : (byte : ℕ) (xs ys : List (List ℕ)) (first : List ℕ) (more : List (List ℕ))
    → xs ≡ first ∷ more
    → onto_first byte (xs ++ ys) ≡ onto_first byte xs ++ ys
front_onto byte xs ys first more e =
    ap (λ ps. onto_first byte (ps ++ ys)) e ∙ sym (ap (λ ps. onto_first byte ps ++ ys) e)

onto_closed : (byte : ℕ) (lines own : List (List ℕ))
    → (lines ≡ own) ⊎ (lines ≡ own ++ [] ∷ [])
    → (onto_first byte lines ≡ onto_first byte own) ⊎ (onto_first byte lines ≡ onto_first byte own ++ [] ∷ [])
onto_closed byte lines own (inl e) = inl (ap (onto_first byte) e)
onto_closed byte lines [] (inr e) = inl (ap (onto_first byte) e)
onto_closed byte lines (line ∷ own) (inr e) = inr (ap (onto_first byte) e)

cons_closed : (lines own : List (List ℕ))
    → (lines ≡ own) ⊎ (lines ≡ own ++ [] ∷ [])
    → (([] ∷ lines) ≡ ([] ∷ own)) ⊎ (([] ∷ lines) ≡ ([] ∷ own) ++ [] ∷ [])
cons_closed lines own (inl e) = inl (ap (λ ls. [] ∷ ls) e)
cons_closed lines own (inr e) = inr (ap (λ ls. [] ∷ ls) e)

closed_by : (byte : ℕ) (text : List ℕ) (b : Bool) → is_newline byte ≡ b → Closed text → Closed (byte ∷ text)
closed_by byte text true e closed = record {
  lines = [] ∷ closed.lines;
  before = λ rest.
      ap (λ b. cond b ([] ∷ lines_of (text ++ 10 ∷ rest)) (onto_first byte (lines_of (text ++ 10 ∷ rest)))) e
      ∙ ap (λ ls. [] ∷ ls) (closed.before rest);
  same = subst (λ ls. (([] ∷ closed.lines) ≡ ls) ⊎ (([] ∷ closed.lines) ≡ ls ++ [] ∷ []))
      (sym (ap (λ b. cond b ([] ∷ lines_of text) (onto_first byte (lines_of text))) e))
      (cons_closed closed.lines (lines_of text) closed.same);
  some = ([], closed.lines, refl);
}
closed_by byte text false e closed = record {
  lines = onto_first byte closed.lines;
  before = λ rest.
      ap (λ b. cond b ([] ∷ lines_of (text ++ 10 ∷ rest)) (onto_first byte (lines_of (text ++ 10 ∷ rest)))) e
      ∙ ap (onto_first byte) (closed.before rest)
      ∙ front_onto byte closed.lines (lines_of rest) closed.some.0 closed.some.1 closed.some.2;
  same = subst (λ ls. (onto_first byte closed.lines ≡ ls) ⊎ (onto_first byte closed.lines ≡ ls ++ [] ∷ []))
      (sym (ap (λ b. cond b ([] ∷ lines_of text) (onto_first byte (lines_of text))) e))
      (onto_closed byte closed.lines (lines_of text) closed.same);
  some = (byte ∷ closed.some.0, closed.some.1, ap (onto_first byte) closed.some.2);
}

closed_text : (text : List ℕ) → Closed text
closed_text [] = record { lines = [] ∷ []; before = λ rest. refl; same = inr refl; some = ([], [], refl) }
closed_text (byte ∷ text) = closed_by byte text (is_newline byte) refl (closed_text text)

same_told : (lines own : List (List ℕ))
    → (lines ≡ own) ⊎ (lines ≡ own ++ [] ∷ [])
    → filter says (map words_of lines) ≡ filter says (map words_of own)
same_told lines own (inl e) = ap (λ ls. filter says (map words_of ls)) e
same_told lines own (inr e) =
    ap (λ ls. filter says (map words_of ls)) e
    ∙ ap (filter says) (map-append words_of own ([] ∷ []))
    ∙ filter-append says (map words_of own) ([] ∷ [])
    ∙ append-nil (filter says (map words_of own))

after_told : (text rest : List ℕ) → told (text ++ 10 ∷ rest) ≡ told text ++ told rest
after_told text rest =
    let closed = closed_text text in
    ap (λ ls. filter says (map words_of ls)) (closed.before rest)
    ∙ ap (filter says) (map-append words_of closed.lines (lines_of rest))
    ∙ filter-append says (map words_of closed.lines) (lines_in rest)
    ∙ ap (λ (ls : List Line). ls ++ told rest) (same_told closed.lines (lines_of text) closed.same)

pub printed_back : (text : List ℕ) (session : PlainSession) (runs : List PortRun)
    → SpellsSession text session
    → AreRunsOf (callers_by_port session) (map run_of runs)
    → Spells (text ++ (newline ++ text_after session runs)) session (map run_of runs)
printed_back text session runs spelled h =
    let few : session.ports ≤ MOST_PORTS =
    omega (arith, good_ports spelled.written spelled.good, ap (λ (s : PlainSession). s.ports) spelled.means) in
    let all = runs_told session.ports 0 session runs (omega (arith, few)) h in
    let end = codes "done" ++ newline in
    let last : told end ≡ (codes "done" ∷ []) ∷ [] =
    ap told (sym (append-nil end))
    ∙ line_told end [] (codes "done" ∷ []) (fixed_printed (codes "done") (omega arith) refl refl) in
    let first : told (text_after session runs) ≡ journals_lines all.entries (map run_of runs) =
    ap told (append_assoc (codes "journals" ++ newline) (journals_from 0 session runs) end)
    ∙ line_told (codes "journals" ++ newline) (journals_from 0 session runs ++ end) (codes "journals" ∷ [])
    (fixed_printed (codes "journals") (omega arith) refl refl)
    ∙ ap (λ (ls : List Line). (codes "journals" ∷ []) ∷ ls)
    (all.told_is end ∙ ap (λ (ls : List Line). runs_lines 0 all.entries (map run_of runs) ++ ls) last) in
    record {
      written = spelled.written;
      entries = all.entries;
      words =
          after_told text (text_after session runs)
          ∙ ap (λ (ls : List Line). ls ++ told (text_after session runs)) spelled.words
          ∙ ap (λ (ls : List Line). map item_words (session_items spelled.written) ++ ls) first;
      good = spelled.good;
      means = spelled.means;
      journals = all.are;
      within = all.within;
    }
