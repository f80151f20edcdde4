use Rattle.rx_machine.proofs.machine.Machine.turn.Goals as goal

pub make_turn-requires : goal.make_turn-requires
make_turn-requires g c = record { game = c.requires.game c.if-self.false }
