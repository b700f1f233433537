-- The report of a session of ports with modem lines: what each call was answered, and what became of the ports.
use Rattle.std.specs.Prelude.{ℕ, ◌==◌, List, [], ◌∷◌, ◌++◌, codes, flat_map, if◌then◌else◌}
use Rattle.std.specs.List.{range_with_len}
use Rattle.tty_calls.specs.declared.journals.PortRun.{PortRun}
use Rattle.tty_calls.specs.Plain.{PlainAnswer}
use Rattle.session_print.specs.Ends.{PlainEnd}
use Rattle.session_print.specs.Lines.{newline}
use Rattle.session_print.specs.Report.{ports_from}
use Rattle.session_print.specs.Words.{answer_text}
use Rattle.passed_calls.specs.Blocks.{names_on}
use Rattle.passed_calls.specs.Scripts.{CallerScript}
use Rattle.modem_text.specs.declared.items.OwnCall.{OwnCall}
use Rattle.modem_text.specs.declared.items.OwnCall.TheVariants as call
use Rattle.modem_text.specs.declared.verbs.ModemVerb.TheVariants as verb
use Rattle.modem_text.specs.Verbs.{verb_text}
use Rattle.modem_text.specs.Sessions.{ModemCall, ModemSession, blocks_in}
use Rattle.modem_text.specs.Events.{ModemEvent, pin_set, own, passed, carrier_lost, ModemLog}
use Rattle.further_report.specs.Calls.{ToldAnswer, calls_text}
use Rattle.further_report.specs.Ports.{without_phases}

-- what a call of modem lines is written as
abbrev pub own_verb : OwnCall → List ℕ
own_verb (call.Mget h) = verb_text verb.Mget
own_verb (call.Mset h bits) = verb_text verb.Mset
own_verb (call.Mbis h bits) = verb_text verb.Mbis
own_verb (call.Mbic h bits) = verb_text verb.Mbic
own_verb (call.Softcar h on) = verb_text verb.Softcar
own_verb (call.Getcar h) = verb_text verb.Getcar
own_verb (call.Hupcl h on) = verb_text verb.Hupcl
own_verb (call.Msr h) = verb_text verb.Msr

abbrev pub told_as : (caller : ℕ) → PlainAnswer → List ToldAnswer
told_as c answer = record { caller = c; text = answer_text answer } ∷ []

-- what an event answers
abbrev pub told_in : ModemEvent → List ToldAnswer
told_in (pin_set pin up) = []
told_in (own c step answer) = told_as c answer
told_in (passed c step answer) = told_as c answer
told_in (carrier_lost h) = []

-- what was answered on a port, in order
abbrev pub told_on : ℕ → ModemLog → List ToldAnswer
told_on p log = flat_map (λ l. if l.port == p then told_in l.event else []) log

abbrev pub scripts_in : ModemSession → List (CallerScript ModemCall)
scripts_in session = flat_map (λ phase. phase.callers) session.phases

abbrev pub port_calls : ModemSession → ModemLog → ℕ → List ℕ
port_calls session log p = calls_text own_verb p (names_on p (blocks_in session)) (told_on p log) (scripts_in session)

-- the lines of the calls of all ports
abbrev pub all_calls : ModemSession → ModemLog → List ℕ
all_calls session log = flat_map (port_calls session log) (range_with_len 0 session.ports)

abbrev pub modem_report_text : ModemSession → ModemLog → List PortRun → List PlainEnd → List ℕ
modem_report_text session log runs ends =
    all_calls session log
    ++ (ports_from 0 (without_phases session.version session.ports session.flips) runs ends
    ++ (codes "done" ++ newline))
