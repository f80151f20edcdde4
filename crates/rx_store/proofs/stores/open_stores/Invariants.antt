use Rattle.std.proofs.Common.{[], replicate}
use Rattle.rx_store.specs.Kepts.{StoresAre}
use Rattle.rx_store.proofs.stores.open_stores.Given as goal

abbrev pub invariant-loop-place : goal.invariant-loop-place
invariant-loop-place l = StoresAre l.fn.words 0 l.stores.items (replicate l.place [])
