use Rattle.n_tty.proofs.WithoutRoom.{after_character-room, after_ixoff_rule-room}
use Rattle.n_tty.proofs.WithoutRoom.{piece_size-room, piece_text-room, after_write-room}
use Rattle.n_tty.proofs.laws.room_makes_no_difference.Goals as goal

pub returns-clause-character : goal.returns-clause-character
returns-clause-character c modes now character port = after_character-room modes now character port

pub returns-clause-rule : goal.returns-clause-rule
returns-clause-rule c modes unread complete output = after_ixoff_rule-room modes unread complete output

pub returns-clause-size : goal.returns-clause-size
returns-clause-size c modes tty output bytes = piece_size-room modes tty output bytes

pub returns-clause-text : goal.returns-clause-text
returns-clause-text c modes tty output bytes = piece_text-room modes tty output bytes

pub returns-clause-write : goal.returns-clause-write
returns-clause-write c modes tty output bytes = after_write-room modes output bytes tty
