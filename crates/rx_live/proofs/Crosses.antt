-- What the threads of workers may share.
use denote.RattleType.{RattleType}
use denote.Ref.{NamedLft, ShrRef}
use denote.Struct.Tuple.{TupleAt}
use mathlib.Core.List.{List, [], ◌∷◌}
use mir.Syntax.{Sym}
use denote.Param.Send.{IsSend, IsSync, AllSync, recorded_sync, struct_sync, shr_sync}
use Rattle.std.specs.contracts.alloc.Global as Global
use Rattle.std.proofs.alloc.Global.TheSendSync as heap
use Rattle.rx_objects.specs.declared.place_book.PlaceBook.{Ghosts as PlaceGhosts}
use Rattle.rx_activities.specs.declared.naming.Naming.{Ghosts}
use Rattle.rx_stations.specs.contracts.hall.Hall as Hall
use Rattle.rx_stations.proofs.Crosses.{hall_sync}

module _ (ν : Sym) (N L P G R : RattleType) (g : Ghosts N.Denot) (h : PlaceGhosts P.Denot) (a₀ a₁ a₂ p₂ a₃ : NamedLft) where
  -- what the closure of `spread` borrows, in the order in which it uses it first
  abbrev pub borrowed : List RattleType
  borrowed = ShrRef a₀.mir a₀.lft R ∷ ShrRef a₁.mir a₁.lft Global.the_row ∷ ShrRef a₂.mir a₂.lft (Hall.the_row p₂ N L P g h) ∷ ShrRef a₃.mir a₃.lft G ∷ []

  pub borrowed_sync : IsSend N → IsSync L → IsSync P → IsSync G → IsSync R → IsSync (TupleAt ν borrowed)
  borrowed_sync n x q y r =
      let all : AllSync borrowed = (
        shr_sync a₀.mir a₀.lft R r,
        (
          shr_sync a₁.mir a₁.lft Global.the_row heap.the_sync,
          (shr_sync a₂.mir a₂.lft (Hall.the_row p₂ N L P g h) (hall_sync p₂ N L P g h n x q), (shr_sync a₃.mir a₃.lft G y, tt)),
        ),
      ) in
      search (struct_sync, recorded_sync, all)
