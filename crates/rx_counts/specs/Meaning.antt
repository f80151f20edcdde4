-- A count ledger stands for a tree in the words of the rules: its record of each number has the counts of the scope of that number.
use Rattle.std.specs.Prelude.{ℕ, option_map}
use Rattle.rx_rules.specs.declared.tasks.Where.TheVariants.{At, Travel}
use Rattle.rx_rules.specs.Tree.{Tree}
use Rattle.rx_rules.specs.Counts.{Counts, Records, StandFor}
use Rattle.rx_counts.specs.declared.record.Record.{Record}
use Rattle.rx_counts.specs.declared.ledger.CountLedger.{CountLedger}
use Rattle.rx_counts.specs.Stands.{count_in, record_at, StandsFor}

-- what the record of number n has
abbrev pub counts_of : ℕ → Record → Counts
counts_of n r =
    record {
      number = record { 0 = n };
      kind = r.kind;
      home = r.home;
      parent = r.parent;
      live = λ p. count_in r.sums (At p);
      transit = λ p q. count_in r.sums (Travel p q);
      lost = r.sums.lost;
      body = r.body;
      ends = r.ends;
      masked = r.sums.masked;
    }

-- what the ledger keeps
abbrev pub records_of : CountLedger → Records
records_of l =
    record {
      scopes = λ n. option_map (counts_of n) (record_at l.scopes n);
      places = l.places;
      dead = l.dead;
      next_task = l.next_task;
      next_scope = l.next_scope;
    }

-- the relation that the ledger keeps says no less than the rules do of counts
abbrev pub CountsStand : Type 0
CountsStand = (l : CountLedger) (room : ℕ) (T : Tree) → StandsFor l room T → StandFor (records_of l) T
