use Rattle.std.proofs.Common.{◌≤◌, ◌+◌, length, vec_len}
use Rattle.rx_syntax.specs.Names.{IsTable}
use Rattle.rx_syntax.specs.Tokens.{NamesInOrder}
use Rattle.rx_syntax.specs.Tables.{names_of}
use Rattle.rx_syntax.proofs.Scanning.{Goes}
use Rattle.rx_syntax.proofs.scanner.scan.Given as goal

-- the bytes before the rest are these tokens, and the names are theirs
abbrev pub invariant-tokens : goal.invariant-tokens
invariant-tokens l = record {
  goes : Goes (names_of l.table.names) (length l.bytes) l.bytes l.tokens.items l.starts.items l.rest;
  table : IsTable l.table;
  in_order : NamesInOrder 0 l.tokens.items (length (names_of l.table.names));
  short : vec_len l.tokens + length l.rest ≤ length l.bytes;
  few : length (names_of l.table.names) ≤ vec_len l.tokens;
}

abbrev pub decreases-tokens : goal.decreases-tokens
decreases-tokens l = length l.rest
