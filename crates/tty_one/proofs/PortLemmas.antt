-- What became of the ports of a session that was played, as it is reported.
use Rattle.std.proofs.Common.{◌≡◌, ◌≢◌, ◌<◌, length, arith, zero, suc, ℕ}
use Rattle.std.proofs.Common.{List, [], ◌∷◌, Some, refl, sym, subst, ◌∙◌, map}
use Rattle.std.specs.Prelude.{slice_get}
use Rattle.std.specs.Prelude.{IfOk, Result, Ok, Err}
use Rattle.std.proofs.lemmas.List.{length-map}
use Rattle.tty_base.specs.Sizes.{MOST_ENTRIES}
use Rattle.tty_base.specs.Contents.{Contents}
use Rattle.tty_base.specs.declared.buffers.NoMemory.{NoMemory}
use Rattle.tty_calls.specs.declared.answers.PortEnd.{PortEnd}
use Rattle.tty_calls.specs.declared.journals.PortRun.{PortRun}
use Rattle.tty_calls.specs.Sessions.{PlainSession}
use Rattle.session_print.specs.Ends.{PlainEnd, end_of}
use Rattle.play_base.specs.declared.ports.Played.{Played}
use Rattle.play_base.specs.Played.{ArePlayed, IsPlayedOn}
use Rattle.tty_one.specs.declared.playing.Telling.{Telling}
use Rattle.tty_one.specs.declared.works.Work.{Work}
use Rattle.tty_one.specs.declared.works.Ending.{Ending}
use Rattle.tty_one.specs.declared.works.Ending.TheVariants.{Done, BadSession, BadWords, ReadFault, TooLong, NotLegal}
use Rattle.tty_one.specs.Reported.{end_at, IsWhole}
use Rattle.tty_one.specs.Works.{IsEndingOf, IsSessionWork, IsNeverFull}

-- what is left of a terminal, as a report says it
end_is : (p : ℕ) (s : PlainSession) (run : PortRun) (end : PortEnd) (h : IsPlayedOn p s run end)
    → end_of end ≡ end_at h.terminal
end_is p s run end h =
    let counts = h.at_end.counts in
    let signals = h.at_end.signals in
    let generation = h.at_end.generation in
    let wire = h.at_end.wire in
    cc

-- the end of a place is one of the plain ends there
record HasEnd (ends : List PortEnd) (p : ℕ) (plain : PlainEnd) : Type 0 where
  end : PortEnd
  at : slice_get ends p ≡ Some end
  is : plain ≡ end_of end

end_found : (ends : List PortEnd) (p : ℕ) (plain : PlainEnd)
    → slice_get (map end_of ends) p ≡ Some plain
    → HasEnd ends p plain
end_found [] p plain h = absurd (cc)
end_found (end ∷ ends) zero plain h = record { end = end; at = refl; is = some_same plain (end_of end) (sym h) }
  where
    some_same : (a b : PlainEnd) → Some a ≡ Some b → a ≡ b
    some_same a b h = cc
end_found (end ∷ ends) (suc p) plain h =
    let later = end_found ends p plain h in
    record { end = later.end; at = later.at; is = later.is }

-- of lists as long, the one has an item where the other has one
pub there_too : {X Y : Type 0} (xs : List X) (ys : List Y) (p : ℕ) (x : X)
    → length xs ≡ length ys
    → slice_get xs p ≡ Some x
    → (y : Y) × (slice_get ys p ≡ Some y)
there_too [] ys p x same is = absurd (cc)
there_too (x ∷ xs) [] p item same is = absurd (omega (arith, same))
there_too (x ∷ xs) (y ∷ ys) zero item same is = (y, refl)
there_too (x ∷ xs) (y ∷ ys) (suc p) item same is = there_too xs ys p item (omega (arith, same)) is

-- runs that are in this order where their journals are not full
abbrev pub AreOrdered : (ℕ → PlainSession → PortRun → Type 0) → PlainSession → List PortRun → Type 0
AreOrdered InOrder session runs =
    (p : ℕ) (run : PortRun) → slice_get runs p ≡ Some run → length run.journal.items ≢ MOST_ENTRIES
    → InOrder p session run

module _ (InOrder : ℕ → PlainSession → PortRun → Type 0) where
  whole_from : (p : ℕ) (s : PlainSession) (run : PortRun) (end : PortEnd)
      → IsPlayedOn p s run end
      → length run.journal.items < MOST_ENTRIES
      → InOrder p s run
      → IsWhole InOrder p s run (end_of end)
  whole_from p s run end h room ordered = record {
    terminal = h.terminal;
    at_end = end_is p s run end h;
    legal = h.legal (λ full. omega (arith, full, room));
    in_order = ordered;
    room = room;
  }

  pub each_whole : (session : PlainSession) (runs : List PortRun) (ends : List PortEnd)
      → IsNeverFull session
      → ArePlayed session runs ends
      → AreOrdered InOrder session runs
      → (p : ℕ) (run : PortRun) (plain : PlainEnd)
      → slice_get runs p ≡ Some run
      → slice_get (map end_of ends) p ≡ Some plain
      → IsWhole InOrder p session run plain
  each_whole session runs ends room played ordered p run plain is at =
      let found = end_found ends p plain at in
      let part = played.each p run found.end is found.at in
      let few = room p run part.terminal part.short in
      let free : length run.journal.items ≢ MOST_ENTRIES = λ full. omega (arith, full, few) in
      subst (λ (e : PlainEnd). IsWhole InOrder p session run e) (sym found.is)
      (whole_from p session run found.end part few (ordered p run is free))

  ending_works : (telling : Telling) (session : PlainSession) (played : Played) (e : Ending)
      → IsNeverFull session
      → ArePlayed session played.runs.items played.ends.items
      → AreOrdered InOrder session played.runs.items
      → IsEndingOf telling session played e
      → IsSessionWork InOrder telling session e played.runs.items
  ending_works telling session played (Done text) room plays ordered ending =
      record {
        ends = map end_of played.ends.items;
        runs_of_all = plays.runs_of_all;
        ends_of_all = length-map played.ends.items end_of ∙ plays.ends_of_all;
        each = each_whole session played.runs.items played.ends.items room plays ordered;
        told = ending;
      }
  ending_works telling session played (BadSession line) room plays ordered ending = ending
  ending_works telling session played BadWords room plays ordered ending = ending
  ending_works telling session played ReadFault room plays ordered ending = ending
  ending_works telling session played TooLong room plays ordered ending = ending
  ending_works telling session played (NotLegal line) room plays ordered ending = ending

  -- the work on what was played
  pub played_works : (telling : Telling) (session : PlainSession) (played : Played) (r : Result Work NoMemory)
      → IsNeverFull session
      → ArePlayed session played.runs.items played.ends.items
      → AreOrdered InOrder session played.runs.items
      → IfOk r (λ work. IsEndingOf telling session played work.ending)
      → IfOk r (λ work. work.runs ≡ played.runs)
      → IfOk r (λ work. IsSessionWork InOrder telling session work.ending work.runs.items)
  played_works telling session played (Ok work) room plays ordered ending same =
      subst (λ (runs : Contents PortRun). IsSessionWork InOrder telling session work.ending runs.items) (sym same)
      (ending_works telling session played work.ending room plays ordered ending)
  played_works telling session played (Err e) room plays ordered ending same = ending
