-- What a port was passed, by its own events.
use Rattle.std.proofs.Common.{◌≡◌, ◌≤◌, ◌<◌, ℕ, ◌+◌}
use Rattle.std.proofs.Common.{false, List, [], ◌++◌, length}
use Rattle.std.proofs.Common.{refl}
use Rattle.std.specs.Prelude.{All}
use Rattle.tty_calls.specs.declared.answers.PortEnd.{PortEnd}
use Rattle.tty_calls.specs.declared.journals.PortRun.{PortRun}
use Rattle.tty_calls.specs.Plain.{PlainEntry}
use Rattle.tty_calls.specs.Sessions.{PlainSession}
use Rattle.tty_terminal.specs.Standing.{standing_in, at_first}
use Rattle.passed_calls.specs.Blocks.{names_on}
use Rattle.passed_calls.specs.Derived.{Passing}
use Rattle.modem_text.specs.Events.{ModemEvent, ModemLog}
use Rattle.modem_text.specs.Sessions.{ModemSession, blocks_in}
use Rattle.modem_steps.specs.Derived.{carrier_on, passings_from, modem_call_at, plain_call}
use Rattle.modem_one.specs.Played.{answered_by, all_passed, by_blocks}
use Rattle.modem_one.specs.Played.{IsModemPlayedOn}
use Rattle.passed_ports.proofs.Started.{nothing_begun}
use Rattle.passed_ports.proofs.Joining.{past_passings}
use Rattle.order_laws.specs.Sessions.{journal_on, begun_calls}

abbrev pub begun_by_events : ModemSession → (p : ℕ) → List ModemEvent → List PlainEntry → List Passing
begun_by_events session p es journal =
    begun_calls (λ c. answered_by c es) (λ c step. plain_call (modem_call_at p session c step))
    (length (names_on p (blocks_in session))) journal

abbrev pub passed_by_events : ModemSession → (p : ℕ) → List ModemEvent → List PlainEntry → List Passing
passed_by_events session p es journal =
    passings_from (modem_call_at p session) (carrier_on p session) 0 es ++ begun_by_events session p es journal

abbrev pub Was : ModemSession → (p : ℕ) → PlainSession → ModemLog → PortRun → PortEnd → Type 0
Was session p played log run end = IsModemPlayedOn p session played log run end

pub none_begun : (session : ModemSession) (p : ℕ) (es : List ModemEvent) (journal : List PlainEntry)
    → ((c : ℕ) → (standing_in c journal at_first).begun ≡ false)
    → begun_by_events session p es journal ≡ []
none_begun session p es journal none =
    nothing_begun (λ c. answered_by c es) (λ c step. plain_call (modem_call_at p session c step))
    (length (names_on p (blocks_in session))) journal none

pub no_passings : (session : ModemSession) (count : ℕ) (log : ModemLog) (runs : List PortRun) (q : ℕ)
    → length runs ≡ count
    → All (λ l. l.port < count) log
    → length runs ≤ q
    → all_passed session log q (journal_on runs q) ≡ []
no_passings session count log runs q many below le =
    past_passings (by_blocks session) (passed_by_events session) (begun_by_events session) (Was session) count log runs
    q
    (none_begun session q [] [] (λ c. refl)) many below le
