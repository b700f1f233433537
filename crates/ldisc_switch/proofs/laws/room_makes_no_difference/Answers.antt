use Rattle.ldisc_switch.proofs.WithoutRoom.{after_character_of-room, after_ixoff_rule_of-room}
use Rattle.ldisc_switch.proofs.laws.room_makes_no_difference.Goals as goal

pub returns-clause-character : goal.returns-clause-character
returns-clause-character c modes now character state output tally =
    after_character_of-room modes now character state output tally

pub returns-clause-rule : goal.returns-clause-rule
returns-clause-rule c modes state output = after_ixoff_rule_of-room modes state output
