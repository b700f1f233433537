-- No journal of a session of ports with modem lines is ever full, and a session that a text spells can be played.
use Rattle.std.proofs.Common.{ℕ, ◌<◌, ◌≤◌, Bool, true, false, if◌then◌else◌}
use Rattle.std.proofs.Common.{List, [], ◌∷◌, ◌++◌, length, refl, sym, ap, arith}
use Rattle.std.specs.Prelude.{All, flat_map}
use Rattle.std.specs.List.{range_with_len}
use Rattle.std.proofs.lemmas.List.Elements.{All-nil, All-cons, All-append}
use Rattle.tty_base.specs.Sizes.{MOST_ENTRIES, MOST_TEXT}
use Rattle.tty_calls.specs.declared.journals.PortRun.{PortRun}
use Rattle.tty_calls.specs.Plain.{PlainEntry}
use Rattle.tty_terminal.specs.Standing.{standing_in, at_first}
use Rattle.tty_terminal.specs.Terminals.{Terminal}
use Rattle.legal_runs.specs.Short.{IsCutShort}
use Rattle.passed_calls.specs.Blocks.{names_on}
use Rattle.passed_calls.specs.Derived.{Passing, passed_phases}
use Rattle.passed_calls.specs.Within.{ArePassedWithin}
use Rattle.passed_calls.proofs.Limits.{within_limits}
use Rattle.modem_text.specs.Events.{ModemLog, events_on}
use Rattle.modem_text.specs.Sessions.{ModemSession, blocks_in}
use Rattle.modem_text.specs.Within.{IsModemSessionWithin}
use Rattle.modem_text.proofs.Left.{session_within}
use Rattle.modem_steps.specs.Derived.{block_phases, modem_call_at, passings_on, plain_call}
use Rattle.modem_one.specs.Played.{answered_by, begun_by, begun_in, derived_with}
use Rattle.further_asked.specs.Asked.{AskNoMore, AsksWithin, asked_at}
use Rattle.further_asked.specs.Modem.{asked_phases}
use Rattle.further_asked.proofs.Modem.{asked_blocks_are, call_within, logged_within, text_asks_all}
use Rattle.further_asked.proofs.Passing.{asks_no_more}
use Rattle.tty_one.specs.ModemLines.{SpellsModemLines, given_to}
use Rattle.tty_one.specs.Works.{CanModemLinesBePlayed}
use Rattle.tty_one.proofs.Roomy.{never_full_within}
use Rattle.order_laws.specs.Sessions.{journal_on}

-- ---- what the ports have begun asks no more than the calls of their callers

module _ (session : ModemSession) (within : IsModemSessionWithin session) (log : ModemLog) (p : ℕ)
    (journal : List PlainEntry) where
  abbrev Own : Passing → Type 0
  Own m = All (AsksWithin (asked_at p (asked_phases session) m.caller m.step)) m.calls

  begun_if : (b : Bool) (c : ℕ)
      → All Own (if b
      then record {
        caller = c;
        step = answered_by c (events_on p log);
        calls = plain_call (modem_call_at p session c (answered_by c (events_on p log)));
      } ∷ []
      else [])
  begun_if true c =
      All-cons Own
      (record {
        caller = c;
        step = answered_by c (events_on p log);
        calls = plain_call (modem_call_at p session c (answered_by c (events_on p log)));
      }) []
      (call_within session p within c (answered_by c (events_on p log))) (All-nil Own)
  begun_if false c = All-nil Own

  begun_all : (callers : List ℕ)
      → All Own (flat_map (λ c. begun_by session log p c (standing_in c journal at_first)) callers)
  begun_all [] = All-nil Own
  begun_all (c ∷ callers) =
      All-append Own (begun_by session log p c (standing_in c journal at_first))
      (flat_map (λ d. begun_by session log p d (standing_in d journal at_first)) callers)
      (begun_if (standing_in c journal at_first).begun c) (begun_all callers)

  given_within : AskNoMore p (asked_phases session) (passings_on session log p ++ begun_in session log p journal)
  given_within = All-append Own (passings_on session log p) (begun_in session log p journal)
      (logged_within session log p within) (begun_all (range_with_len 0 (length (names_on p (blocks_in session)))))

-- ---- a journal

pub modem_lines_never_full : (text : List ℕ) (session : ModemSession) (log : ModemLog) (runs : List PortRun) (p : ℕ)
    (run : PortRun) (t : Terminal)
    → SpellsModemLines text session
    → length text ≤ MOST_TEXT
    → ArePassedWithin (given_to session log runs)
    → IsCutShort p (derived_with session log runs) run t
    → length run.journal.items < MOST_ENTRIES
modem_lines_never_full text session log runs p run t spells few within short =
    let played = derived_with session log runs in
    let of_text = session_within text session spells in
    let limits = within_limits (block_phases session) (given_to session log runs) played refl of_text.blocks within in
    let same = ap (passed_phases (given_to session log runs)) (sym (asked_blocks_are session.ports session.phases)) in
    let asks = asks_no_more (asked_phases session) (given_to session log runs) played p same within
    (given_within session of_text log p (journal_on runs p)) in
    never_full_within text p played run t limits (omega (arith, asks, text_asks_all text session p spells)) few short

pub can_modem_lines_be_played : (text : List ℕ) (session : ModemSession)
    → SpellsModemLines text session
    → length text ≤ MOST_TEXT
    → CanModemLinesBePlayed session
can_modem_lines_be_played text session spells few = record {
  within = session_within text session spells;
  never_full = λ log runs within p run t short.
      modem_lines_never_full text session log runs p run t spells few within short;
}
