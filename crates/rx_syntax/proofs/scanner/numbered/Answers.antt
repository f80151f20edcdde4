use Rattle.rx_syntax.proofs.Scanning.{token-shorter, name-token, numbered-name}
use Rattle.rx_syntax.proofs.scanner.numbered.Goals as goal

pub slice_bounds-word-count : goal.slice_bounds-word-count
slice_bounds-word-count c = token-shorter _ _ c.args.lexeme c.requires.token

pub number_of-requires-clause-name : goal.number_of-requires-clause-name
number_of-requires-clause-name c = (name-token _ _ c.args.after.now _ c.in-Name.is c.requires.token).0

pub number_of-requires-clause-filled : goal.number_of-requires-clause-filled
number_of-requires-clause-filled c = (name-token _ _ c.args.after.now _ c.in-Name.is c.requires.token).1

pub returns-in_ok-number-in-Name-clause-token : goal.returns-in_ok-number-in-Name-clause-token
returns-in_ok-number-in-Name-clause-token c =
    let i = c.in_ok-number-in-Name.ensures in
    numbered-name _ _ _ _ c.in-Name.filled _ c.in-Name.is (name-token _ _ c.args.after.now _ c.in-Name.is c.requires.token).1 i.found i.numbers
