-- The lines of a run that are no entries: what is read is what is printed.
use Rattle.std.proofs.Common.{◌≡◌, ℕ, ◌≤◌, ◌==◌, Bool, true, false, cond, List, [], ◌∷◌}
use Rattle.std.proofs.Common.{Ok, Err, codes, decimal, refl, ap, subst, ◌∙◌, arith, eq-eqb}
use Rattle.std.specs.Str.{bytes_eq}
use Rattle.std.proofs.lemmas.Bool.{eqb-true}
use Rattle.std.proofs.lemmas.Slice.Eq.{bytes_eq-Decides}
use Rattle.tty_base.specs.declared.lines.Overrun.{Overrun}
use Rattle.session_text.specs.declared.faults.Reason.TheVariants.{Order, Limit}
use Rattle.check_text.specs.declared.entries.LineNumbers.{LineNumbers}
use Rattle.check_text.specs.Fields.{Read, Front, in_front, number_of_word}
use Rattle.check_text.specs.Fields.{number_in, port_in, after_first, at_end, ◌>>=◌}
use Rattle.check_text.specs.Entries.{fixed_in, heading_in, overrun_in, numbers_in}
use Rattle.check_text.specs.Grammar.{heading_words, overrun_words, most, IsOverrunWithin}
use Rattle.check_text.proofs.Numbers.{read_word, word_read}

-- ---- one reading after another

pub record Both {X Y : Type 0} (first : Read X) (later : X → Read Y) (y : Y) : Type 0 where
  pub value : X
  pub here : first ≡ Ok value
  pub there : later value ≡ Ok y

pub both_read : {X Y : Type 0} (first : Read X) (later : X → Read Y) (y : Y)
    → (first >>= later) ≡ Ok y
    → Both first later y
both_read (Ok x) later y h = record { value = x; here = refl; there = h }
both_read (Err reason) later y h = cc

pub then_read : {X Y : Type 0} (first : Read X) (later : X → Read Y) (x : X) (y : Y)
    → first ≡ Ok x
    → later x ≡ Ok y
    → (first >>= later) ≡ Ok y
then_read first later x y here there = ap (λ r. r >>= later) here ∙ there

-- ---- the pieces of a line

pub record NumberFirst (words : List (List ℕ)) (n : Front ℕ) : Type 0 where
  pub is : words ≡ decimal n.value ∷ n.rest
  pub small : n.value ≤ most

pub number_read : (words : List (List ℕ)) (n : Front ℕ) → number_in words ≡ Ok n → NumberFirst words n
number_read [] n h = cc
number_read (word ∷ rest) n h =
    let parts = both_read (number_of_word word) (λ m. Ok (in_front rest m)) n h in
    let printed = read_word word parts.value parts.here in
    let same : in_front rest parts.value ≡ n = cc in
    let value : parts.value ≡ n.value = ap (λ f. f.value) same in
    let after : rest ≡ n.rest = ap (λ f. f.rest) same in
    record {
      is = ap (λ w. w ∷ rest) (printed.is ∙ ap decimal value) ∙ ap (λ ws. decimal n.value ∷ ws) after;
      small = omega (arith, printed.small, value);
    }

pub number_back : (n : ℕ) (rest : List (List ℕ)) → n ≤ most → number_in (decimal n ∷ rest) ≡ Ok (in_front rest n)
number_back n rest small =
    then_read (number_of_word (decimal n)) (λ m. Ok (in_front rest m)) n (in_front rest n) (word_read n small) refl

port_by : (n : Front ℕ) (port : ℕ) (rest : List (List ℕ)) (b : Bool)
    → (n.value == port) ≡ b
    → (let read : Read (List (List ℕ)) = cond b (Ok n.rest) (Err Limit) in read ≡ Ok rest)
    → (n.value ≡ port) × (n.rest ≡ rest)
port_by n port rest true e h = (eqb-true n.value port e, cc)
port_by n port rest false e h = cc

pub port_read : (port : ℕ) (words rest : List (List ℕ)) → port_in port words ≡ Ok rest → words ≡ decimal port ∷ rest
port_read port words rest h =
    let parts = both_read (number_in words) (λ n. cond (n.value == port) (Ok n.rest) (Err Limit)) rest h in
    let first = number_read words parts.value parts.here in
    let same = port_by parts.value port rest (parts.value.value == port) refl parts.there in
    first.is ∙ ap (λ n. decimal n ∷ parts.value.rest) same.0 ∙ ap (λ ws. decimal port ∷ ws) same.1

pub port_back : (port : ℕ) (rest : List (List ℕ)) → port ≤ most → port_in port (decimal port ∷ rest) ≡ Ok rest
port_back port rest small =
    then_read (number_in (decimal port ∷ rest)) (λ n. cond (n.value == port) (Ok n.rest) (Err Limit))
    (in_front rest port) rest (number_back port rest small)
    (ap (λ b. let read : Read (List (List ℕ)) = cond b (Ok rest) (Err Limit) in read) (eq-eqb port port refl))

fixed_by : (text word : List ℕ) (words rest : List (List ℕ)) (b : Bool)
    → bytes_eq word text ≡ b
    → (let read : Read (List (List ℕ)) = cond b (Ok words) (Err Order) in read ≡ Ok rest)
    → (word ≡ text) × (words ≡ rest)
fixed_by text word words rest true e h = ((bytes_eq-Decides word text).0 e, cc)
fixed_by text word words rest false e h = cc

pub first_read : (text : List ℕ) (words rest : List (List ℕ)) → after_first text words ≡ Ok rest → words ≡ text ∷ rest
first_read text [] rest h = cc
first_read text (word ∷ words) rest h =
    let same = fixed_by text word words rest (bytes_eq word text) refl h in
    ap (λ w. w ∷ words) same.0 ∙ ap (λ ws. text ∷ ws) same.1

pub first_back : (text : List ℕ) (rest : List (List ℕ)) → after_first text (text ∷ rest) ≡ Ok rest
first_back text rest = ap (λ b. let read : Read (List (List ℕ)) = cond b (Ok rest) (Err Order) in read)
    ((bytes_eq-Decides text text).1 refl)

pub end_read : {X : Type 0} (x y : X) (words : List (List ℕ)) → at_end x words ≡ Ok y → (words ≡ []) × (x ≡ y)
end_read x y [] h = (refl, cc)
end_read x y (word ∷ words) h = cc

-- ---- lines

pub fixed_read : (text : List ℕ) (words : List (List ℕ)) (end : Unit {0})
    → fixed_in text words ≡ Ok end
    → words ≡ text ∷ []
fixed_read text words end h =
    let parts = both_read (after_first text words) (λ rest. at_end tt rest) end h in
    first_read text words parts.value parts.here ∙ ap (λ ws. text ∷ ws) (end_read tt end parts.value parts.there).0

pub fixed_back : (text : List ℕ) → fixed_in text (text ∷ []) ≡ Ok tt
fixed_back text = then_read (after_first text (text ∷ [])) (λ rest. at_end tt rest) [] tt (first_back text []) refl

pub heading_read : (text : List ℕ) (port : ℕ) (words : List (List ℕ)) (n : ℕ)
    → heading_in text port words ≡ Ok n
    → (words ≡ heading_words text port n) × (n ≤ most)
heading_read text port words n h =
    let one = both_read (after_first text words)
    (λ rest. port_in port rest >>= λ rest. number_in rest >>= λ n. at_end n.value n.rest) n h in
    let two = both_read (port_in port one.value) (λ rest. number_in rest >>= λ n. at_end n.value n.rest) n one.there in
    let three = both_read (number_in two.value) (λ n. at_end n.value n.rest) n two.there in
    let count = number_read two.value three.value three.here in
    let end = end_read three.value.value n three.value.rest three.there in (
      first_read text words one.value one.here
          ∙ ap (λ ws. text ∷ ws)
          (port_read port one.value two.value two.here
          ∙ ap (λ ws. decimal port ∷ ws)
          (count.is ∙ ap (λ m. decimal m ∷ three.value.rest) end.1 ∙ ap (λ ws. decimal n ∷ ws) end.0)),
      omega (arith, count.small, end.1),
    )

pub heading_back : (text : List ℕ) (port n : ℕ)
    → port ≤ most
    → n ≤ most
    → heading_in text port (heading_words text port n) ≡ Ok n
heading_back text port n small few =
    then_read (after_first text (heading_words text port n))
    (λ rest. port_in port rest >>= λ rest. number_in rest >>= λ n. at_end n.value n.rest)
    (decimal port ∷ decimal n ∷ []) n (first_back text (decimal port ∷ decimal n ∷ []))
    (then_read (port_in port (decimal port ∷ decimal n ∷ [])) (λ rest. number_in rest >>= λ n. at_end n.value n.rest)
    (decimal n ∷ []) n (port_back port (decimal n ∷ []) small)
    (then_read (number_in (decimal n ∷ [])) (λ n. at_end n.value n.rest) (in_front [] n) n (number_back n [] few) refl))

pub overrun_read : (words : List (List ℕ)) (o : Overrun)
    → overrun_in words ≡ Ok o
    → (words ≡ overrun_words o) × IsOverrunWithin o
overrun_read words o h =
    let one = both_read (number_in words)
    (λ at.
    number_in at.rest
    >>= λ sent.
    number_in sent.rest >>= λ seen. at_end (record { at = at.value; sent = sent.value; seen = seen.value }) seen.rest)
    o h in
    let two = both_read (number_in one.value.rest)
    (λ sent.
    number_in sent.rest
    >>= λ seen. at_end (record { at = one.value.value; sent = sent.value; seen = seen.value }) seen.rest) o one.there in
    let three = both_read (number_in two.value.rest)
    (λ seen. at_end (record { at = one.value.value; sent = two.value.value; seen = seen.value }) seen.rest)
    o two.there in
    let at = number_read words one.value one.here in
    let sent = number_read one.value.rest two.value two.here in
    let seen = number_read two.value.rest three.value three.here in
    let made : Overrun = record { at = one.value.value; sent = two.value.value; seen = three.value.value } in
    let end = end_read made o three.value.rest three.there in (
      at.is
          ∙ ap (λ ws. decimal one.value.value ∷ ws) (sent.is
          ∙ ap (λ ws. decimal two.value.value ∷ ws) (seen.is ∙ ap (λ ws. decimal three.value.value ∷ ws) end.0))
          ∙ ap overrun_words end.1,
      subst IsOverrunWithin end.1 (record { at = at.small; sent = sent.small; seen = seen.small }),
    )

pub overrun_back : (o : Overrun) → IsOverrunWithin o → overrun_in (overrun_words o) ≡ Ok o
overrun_back o within =
    then_read (number_in (overrun_words o))
    (λ at.
    number_in at.rest
    >>= λ sent.
    number_in sent.rest >>= λ seen. at_end (record { at = at.value; sent = sent.value; seen = seen.value }) seen.rest)
    (in_front (decimal o.sent ∷ decimal o.seen ∷ []) o.at) o
    (number_back o.at (decimal o.sent ∷ decimal o.seen ∷ []) within.at)
    (then_read (number_in (decimal o.sent ∷ decimal o.seen ∷ []))
    (λ sent.
    number_in sent.rest >>= λ seen. at_end (record { at = o.at; sent = sent.value; seen = seen.value }) seen.rest)
    (in_front (decimal o.seen ∷ []) o.sent) o (number_back o.sent (decimal o.seen ∷ []) within.sent)
    (then_read (number_in (decimal o.seen ∷ []))
    (λ seen. at_end (record { at = o.at; sent = o.sent; seen = seen.value }) seen.rest) (in_front [] o.seen) o
    (number_back o.seen [] within.seen) refl))

abbrev pub line_words : ℕ → LineNumbers → List (List ℕ)
line_words port n = codes "line" ∷ decimal port ∷ decimal n.arrived ∷ decimal n.lost ∷ decimal n.sent ∷ []

pub record AreSmall (n : LineNumbers) : Type 0 where
  pub arrived : n.arrived ≤ most
  pub lost : n.lost ≤ most
  pub sent : n.sent ≤ most

pub numbers_read : (port : ℕ) (words : List (List ℕ)) (n : LineNumbers)
    → numbers_in port words ≡ Ok n
    → (words ≡ line_words port n) × AreSmall n
numbers_read port words n h =
    let one = both_read (after_first (codes "line") words)
    (λ rest.
    port_in port rest
    >>= λ rest.
    number_in rest
    >>= λ arrived.
    number_in arrived.rest
    >>= λ lost.
    number_in lost.rest
    >>= λ sent. at_end (record { arrived = arrived.value; lost = lost.value; sent = sent.value }) sent.rest) n h in
    let two = both_read (port_in port one.value)
    (λ rest.
    number_in rest
    >>= λ arrived.
    number_in arrived.rest
    >>= λ lost.
    number_in lost.rest
    >>= λ sent. at_end (record { arrived = arrived.value; lost = lost.value; sent = sent.value }) sent.rest)
    n one.there in
    let three = both_read (number_in two.value)
    (λ arrived.
    number_in arrived.rest
    >>= λ lost.
    number_in lost.rest
    >>= λ sent. at_end (record { arrived = arrived.value; lost = lost.value; sent = sent.value }) sent.rest)
    n two.there in
    let four = both_read (number_in three.value.rest)
    (λ lost.
    number_in lost.rest
    >>= λ sent. at_end (record { arrived = three.value.value; lost = lost.value; sent = sent.value }) sent.rest)
    n three.there in
    let five = both_read (number_in four.value.rest)
    (λ sent. at_end (record { arrived = three.value.value; lost = four.value.value; sent = sent.value }) sent.rest)
    n four.there in
    let arrived = number_read two.value three.value three.here in
    let lost = number_read three.value.rest four.value four.here in
    let sent = number_read four.value.rest five.value five.here in
    let made : LineNumbers = record { arrived = three.value.value; lost = four.value.value; sent = five.value.value } in
    let end = end_read made n five.value.rest five.there in (
      first_read (codes "line") words one.value one.here
          ∙ ap (λ ws. codes "line" ∷ ws)
          (port_read port one.value two.value two.here
          ∙ ap (λ ws. decimal port ∷ ws) (arrived.is
          ∙ ap (λ ws. decimal three.value.value ∷ ws) (lost.is
          ∙ ap (λ ws. decimal four.value.value ∷ ws) (sent.is ∙ ap (λ ws. decimal five.value.value ∷ ws) end.0))))
          ∙ ap (line_words port) end.1,
      subst AreSmall end.1 (record { arrived = arrived.small; lost = lost.small; sent = sent.small }),
    )

pub numbers_back : (port : ℕ) (n : LineNumbers) → port ≤ most → AreSmall n → numbers_in port (line_words port n) ≡ Ok n
numbers_back port n small are =
    let words = decimal n.arrived ∷ decimal n.lost ∷ decimal n.sent ∷ [] in
    then_read (after_first (codes "line") (line_words port n))
    (λ rest.
    port_in port rest
    >>= λ rest.
    number_in rest
    >>= λ arrived.
    number_in arrived.rest
    >>= λ lost.
    number_in lost.rest
    >>= λ sent. at_end (record { arrived = arrived.value; lost = lost.value; sent = sent.value }) sent.rest)
    (decimal port ∷ words) n (first_back (codes "line") (decimal port ∷ words))
    (then_read (port_in port (decimal port ∷ words))
    (λ rest.
    number_in rest
    >>= λ arrived.
    number_in arrived.rest
    >>= λ lost.
    number_in lost.rest
    >>= λ sent. at_end (record { arrived = arrived.value; lost = lost.value; sent = sent.value }) sent.rest) words n
    (port_back port words small)
    (then_read (number_in words)
    (λ arrived.
    number_in arrived.rest
    >>= λ lost.
    number_in lost.rest
    >>= λ sent. at_end (record { arrived = arrived.value; lost = lost.value; sent = sent.value }) sent.rest)
    (in_front (decimal n.lost ∷ decimal n.sent ∷ []) n.arrived) n
    (number_back n.arrived (decimal n.lost ∷ decimal n.sent ∷ []) are.arrived)
    (then_read (number_in (decimal n.lost ∷ decimal n.sent ∷ []))
    (λ lost.
    number_in lost.rest
    >>= λ sent. at_end (record { arrived = n.arrived; lost = lost.value; sent = sent.value }) sent.rest)
    (in_front (decimal n.sent ∷ []) n.lost) n (number_back n.lost (decimal n.sent ∷ []) are.lost)
    (then_read (number_in (decimal n.sent ∷ []))
    (λ sent. at_end (record { arrived = n.arrived; lost = n.lost; sent = sent.value }) sent.rest) (in_front [] n.sent) n
    (number_back n.sent [] are.sent) refl))))
