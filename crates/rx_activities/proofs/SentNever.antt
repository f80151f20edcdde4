-- What an activity at its place is never answered: an arrival.
use Rattle.std.proofs.Common.{◌≡◌, Option, ap}
use Rattle.rx_rules.proofs.Common.{Block}
use Rattle.rx_syntax.specs.Shape.{Shape, Stands}
use Rattle.rx_finish.specs.declared.ledger.Caller.{Caller}
use Rattle.rx_history.specs.declared.asks.Ask.TheVariants.{Arrive as AskArrive}
use Rattle.rx_book.specs.Named.{BookName}
use Rattle.rx_ledger.specs.declared.asks.Request.{Request}
use Rattle.rx_ledger.specs.declared.asks.Reply.TheVariants.{Landed}
use Rattle.rx_ledger.specs.Kept.{Answered}
use Rattle.rx_objects.specs.declared.ledger.LedgerFixed.{LedgerFixed}
use Rattle.rx_activities.specs.declared.replies.Child.{Child}
use Rattle.rx_activities.specs.declared.hand.Hand.{Hand}
use Rattle.rx_activities.specs.Inside.Sending.{WasSent}
use Rattle.rx_activities.proofs.GrantedReplies.{does_so}
use Rattle.rx_activities.proofs.Sent.{before, behind, applied}

module _ (shape : Shape) (L : BookName LedgerFixed) (rest : Hand) (child : Option Child) (program : L.fixed.program.script ≡ shape) (code : Block) (stands : Stands L.fixed.program.script code) where
  pub never_lands : (ticket : Caller) → WasSent shape L rest (Landed ticket) child → ⊥
  never_lands ticket w =
      let a : Answered (before shape L rest (Landed ticket) child w) w.op.request (Landed ticket) (behind shape L rest (Landed ticket) child w) = applied shape L rest (Landed ticket) child w in
      does_so shape L rest (Landed ticket) child w program code stands (w.knows.stands code stands) AskArrive (ap (λ (q : Request). q.ask) a.answers.asked)
