use Rattle.std.proofs.Common.{◌≡◌, ℕ, List, map, Result, Ok, Err, IfOk, sym, ap, ◌∙◌}
use Rattle.tty_base.specs.Contents.{Contents}
use Rattle.tty_base.specs.declared.buffers.NoMemory.{NoMemory}
use Rattle.tty_calls.specs.declared.answers.PortEnd.{PortEnd}
use Rattle.tty_calls.specs.declared.journals.PortRun.{PortRun}
use Rattle.tty_calls.specs.Sessions.{PlainSession, session_of}
use Rattle.session_print.specs.Ends.{end_of}
use Rattle.session_print.specs.Summary.{summary_text}
use Rattle.tty_one.specs.declared.playing.Telling.{Telling}
use Rattle.tty_one.specs.declared.playing.Telling.TheVariants.{Summary}
use Rattle.tty_one.specs.Reported.{text_by}
use Rattle.tty_one.proofs.playing.text_by.Goals as goal

-- the summary of these runs and ends is what is told of the session of a number
summed : (telling : Telling) (number : ℕ) (session : PlainSession) (runs whole : List PortRun) (ends all : List PortEnd)
    (r : Result (Contents ℕ) NoMemory)
    → telling ≡ Summary number
    → runs ≡ whole
    → ends ≡ all
    → IfOk r (λ text. text.items ≡ summary_text number session runs (map end_of ends))
    → IfOk r (λ text. text.items ≡ text_by telling session whole (map end_of all))
summed telling number session runs whole ends all (Ok text) is same_runs same_ends told =
    told
    ∙ ap (λ (rs : List PortRun). summary_text number session rs (map end_of ends)) same_runs
    ∙ ap (λ (es : List PortEnd). summary_text number session whole (map end_of es)) same_ends
    ∙ ap (λ (asked : Telling). text_by asked session whole (map end_of all)) (sym is)
summed telling number session runs whole ends all (Err e) is same_runs same_ends told = told

pub returns-in-Summary : goal.returns-in-Summary
returns-in-Summary c =
    summed c.args.telling c.in-Summary.number (session_of c.args.session.now) c.as_slice-runs.result.now
    c.args.played.now.runs.items c.as_slice-ends.result.now c.args.played.now.ends.items
    c.summary.result c.in-Summary.is c.as_slice-runs.ensures c.as_slice-ends.ensures c.summary.ensures
