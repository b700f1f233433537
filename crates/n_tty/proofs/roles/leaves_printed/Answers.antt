use Rattle.std.proofs.Common.{nat_le, sym, ◌∙◌, le-leb}
use Rattle.std.proofs.lemmas.Bool.{and_from, not-true}
use Rattle.n_tty.proofs.roles.leaves_printed.Goals as goal

pub returns-then-are_unprinted : goal.returns-then-are_unprinted
returns-then-are_unprinted c = λ steady byte low high. record {
  low = low;
  high = high;
  apart = λ place same. c.are_unprinted.ensures.apart c.if-are_unprinted.true place byte
      (and_from (nat_le 32 byte) (nat_le byte 126) (le-leb 32 byte low) (le-leb byte 126 high)) same;
  steady = sym c.has.ensures ∙ not-true c.has.result steady;
}
