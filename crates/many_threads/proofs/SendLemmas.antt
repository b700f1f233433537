-- What a line hands over while heads are loaded beside it.
use Rattle.std.proofs.Common.{◌≡◌, ℕ, List, [], ◌++◌, length, sym, subst, append-nil, append_assoc, refl}
use Rattle.tty_base.specs.declared.lines.LineStep.{LineStep}
use Rattle.uart_line.specs.Received.{closed_script}
use Rattle.tty_base.specs.declared.characters.Flagged.{Flagged}
use Rattle.tty_base.specs.declared.lines.Overrun.{Overrun}
use Rattle.uart_line.specs.Offered.{HandsOver}
use Rattle.uart_line.proofs.OfferedLemmas.{Offers-none, HandsOver-trans}

pub HandsOver-loaded : (capacity : ℕ) (all all' sent sent' : List Flagged) (heads heads' loaded : List ℕ)
    (overruns overruns' : List Overrun)
    → HandsOver capacity all all' sent sent' heads heads' overruns overruns'
    → HandsOver capacity all all' sent sent' heads (heads' ++ loaded) overruns overruns'
HandsOver-loaded capacity all all' sent sent' heads heads' loaded overruns overruns' h =
    HandsOver-trans capacity all all' all' sent sent' sent' heads heads' (heads' ++ loaded)
    overruns overruns' overruns' h record {
      list = [];
      grows = sym (append-nil all');
      offers = Offers-none capacity (length all') sent' heads' (heads' ++ loaded) loaded overruns' refl;
    }

-- what is handed over after a head was loaded beside it, from the same list of all that was sent on
pub hands_over_more : (capacity : ℕ) (all all' all'' sent met met' sent'' : List Flagged) (loaded : List ℕ)
    (heads heads' heads'' more : List ℕ) (overruns overruns' overruns'' : List Overrun)
    → HandsOver capacity all all' sent met heads heads' overruns overruns'
    → met' ≡ met
    → more ≡ heads' ++ loaded
    → {capacity' : ℕ}
    → capacity' ≡ capacity
    → HandsOver capacity' all' all'' met' sent'' more heads'' overruns' overruns''
    → HandsOver capacity all all'' sent sent'' heads heads'' overruns overruns''
hands_over_more capacity all all' all'' sent met met' sent'' loaded heads heads' heads'' more overruns overruns'
    overruns'' h same_sent same_heads {capacity'} same_capacity next =
    HandsOver-trans capacity all all' all'' sent met sent'' heads (heads' ++ loaded)
    heads'' overruns overruns' overruns''
    (HandsOver-loaded capacity all all' sent met heads heads' loaded overruns overruns' h)
    (subst (λ (k : ℕ). HandsOver k all' all'' met sent'' (heads' ++ loaded) heads'' overruns' overruns'') same_capacity
    (subst
    (λ (xs : List Flagged). HandsOver capacity' all' all'' xs sent'' (heads' ++ loaded) heads'' overruns' overruns'')
    same_sent
    (subst (λ (hs : List ℕ). HandsOver capacity' all' all'' met' sent'' hs heads'' overruns' overruns'')
    same_heads next)))

pub closed_script-append : (before steps : List LineStep)
    → before ++ closed_script steps ≡ (before ++ steps) ++ closed_script []
closed_script-append before steps = sym (append_assoc before steps (closed_script []))
