use Rattle.std.proofs.Common.{◌≤◌, [], List, ℕ, ap, sym, subst, ◌∙◌}
use Rattle.std.specs.Prelude.{sum}
use Rattle.tty_calls.specs.Limits.{character_count}
use Rattle.many_threads.specs.InPlay.{IsBeforePhase}
use Rattle.vt_consoles.specs.declared.entries.VtEntry.{VtEntry}
use Rattle.vt_text.specs.Sessions.{vt_session_of}
use Rattle.vt_account.specs.Keyed.{keyed}
use Rattle.vt_threads.proofs.KeyedPlay.{few_come}
use Rattle.vt_threads.proofs.SameCallers.{differs_back, keyed_differs, same_first_steps}
use Rattle.vt_threads.proofs.consoles.open_first.Goals as goal

pub returns : goal.returns
returns c =
    let vt = vt_session_of c.args.session.now in
    let p = c.args.number in
    let within = c.requires.within in
    let station = c.in_ok-station.station in
    let before : (more : List VtEntry) → IsBeforePhase (record { port = p; session = keyed vt more }) 0 station 0 =
    λ more. c.in_ok-station.ensures (keyed vt more) (keyed_differs vt more within.whole)
    (subst (λ (n : ℕ). character_count p (keyed vt more).phases ≤ n) (sym c.requires.keys) (few_come vt more p within))
    in
    record {
      names = c.in_ok-names.ensures;
      callers = c.caller_count-callers.ensures ∙ ap sum (c.as_slice.ensures.value ∙ c.in_ok-counts.ensures);
      steps = same_first_steps vt.calls (keyed vt [])
          (differs_back (keyed vt []) vt.calls (keyed_differs vt [] within.whole))
          p 0 station.steps.items (before []).steps;
      stands = λ more. before more;
    }
