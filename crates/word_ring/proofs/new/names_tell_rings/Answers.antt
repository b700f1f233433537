use Rattle.std.proofs.Common.{◌≡◌}
use Rattle.atomic_table.specs.Seated.{TableId}
use Rattle.word_ring.specs.Names.{name_of}
use Rattle.word_ring.proofs.new.names_tell_rings.Goals as goal

same_ring : (x y : TableId) → name_of x ≡ name_of y → x ≡ y
same_ring x y e =
    let words : x.words ≡ y.words = cc in
    let slots : x.slots ≡ y.slots = cc in
    let views_name : x.views_name ≡ y.views_name = cc in
    let atom : x.atom ≡ y.atom = cc in
    let block : x.block ≡ y.block = cc in
    let offset : x.offset ≡ y.offset = cc in
    let slot_names : x.slot_names ≡ y.slot_names = cc in
    λ i. record {
      words = words i;
      slots = slots i;
      views_name = views_name i;
      atom = atom i;
      block = block i;
      offset = offset i;
      slot_names = slot_names i;
    }

pub returns : goal.returns
returns c = same_ring
