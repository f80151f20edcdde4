use Rattle.std.proofs.Common.{◌≡◌, sym, subst, refl}
use Rattle.rx_rules.proofs.Common.{PlaceId, Term, Vars, does, begins}
use Rattle.rx_syntax.specs.Shape.{Shape, Stands}
use Rattle.rx_check.specs.Checked.{Checked}
use Rattle.rx_control.specs.declared.control.Control.{Control}
use Rattle.rx_history.specs.Next.{next_of}
use Rattle.rx_control.specs.Stands.{StandsFor}
use Rattle.rx_book.specs.declared.views.View.{View}
use Rattle.rx_parts.specs.declared.items.EntryItem.{EntryItem}
use Rattle.rx_objects.specs.declared.ledger.LedgerOp.{LedgerOp}
use Rattle.rx_objects.specs.Laws.{AsksLedger}
use Rattle.rx_activities.specs.declared.hand.Hand.{Hand}
use Rattle.rx_activities.specs.Knowing.{StandsSo}
use Rattle.rx_activities.specs.Inside.Sending.{SuitsStep, SeatIsLeft, IsReady, ChildIs}
use Rattle.rx_activities.proofs.Asked.{asks_so}
use Rattle.rx_activities.proofs.AskedNote.{note_none, note_some, seat_noted, events_mentioned}
use Rattle.rx_activities.proofs.hand.Hand.call_ledger.Goals as goal

pub child_of-prepared-requires-clause-stands : goal.child_of-prepared-requires-clause-stands
child_of-prepared-requires-clause-stands g c =
    let b = c.checked.ensures in
    let s = c.requires.known.stands b.0 (subst (λ (p : Checked). Stands p.script b.0) (sym c.requires.program) b.1) in (
      s.stand.term,
      subst (λ (x : Control). StandsFor c.args.p.now.script x s.stand.term) (sym c.as_ref-standing.ensures)
          (subst (λ (p : Checked). StandsFor p.script c.args.self.now.control.value s.stand.term) c.requires.program s.term),
    )

pub child_of-prepared-requires-clause-next : goal.child_of-prepared-requires-clause-next
child_of-prepared-requires-clause-next g c =
    subst (λ (x : Control). (t : Term) → StandsFor c.args.p.now.script x t → c.args.next ≡ next_of (does x.vars c.args.self.now.place.0 t)) (sym c.as_ref-standing.ensures) c.requires.next

pub ask-reply-requires-clause-asks : goal.ask-reply-requires-clause-asks
ask-reply-requires-clause-asks g c = λ code stands.
    let a : Hand = c.args.self.now in
    let k = c.requires.known in
    let op : LedgerOp = record {
      request = record { ticket = c.replace.result; ask = c.ask_of-ask_for.result; batch = c.replace-2.result; path = c.in-Ok.path };
      note = c.note_for-note.result;
      mentions = c.mentions_of-mentions.result;
    } in
    let s : StandsSo code (g.L.LedgerBook.name c.args.ledger.now) c.args.self.now c.requires.known.who.task = k.stands code (subst (λ (p : Checked). Stands p.script code) (sym c.requires.program) stands) in
    let term : StandsFor c.args.p.now.script c.args.self.now.control.value s.stand.term = subst (λ (p : Checked). StandsFor p.script c.args.self.now.control.value s.stand.term) c.requires.program s.term in
    let path : (t : Term) → StandsFor c.args.p.now.script c.args.self.now.control.value t → c.in-Ok.path ≡ begins t =
    subst (λ (x : Control). (t : Term) → StandsFor c.args.p.now.script x t → c.in-Ok.path ≡ begins t) c.as_ref-standing.ensures c.in-Ok.ensures in
    let asked : (h : Shape) (t : Term) (here : PlaceId) → StandsFor h c.args.self.now.control.value t → c.args.next ≡ next_of (does c.args.self.now.control.value.vars here.0 t) → SuitsStep (does c.args.self.now.control.value.vars here.0 t) c.ask_of-ask_for.result =
    subst (λ (x : Control). (h : Shape) (t : Term) (here : PlaceId) → StandsFor h x t → c.args.next ≡ next_of (does x.vars here.0 t) → SuitsStep (does x.vars here.0 t) c.ask_of-ask_for.result) c.as_mut.ensures.value c.ask_of-ask_for.ensures.suits in
    let suits : SuitsStep (does s.stand.vars c.args.self.now.place.0 s.stand.term) c.ask_of-ask_for.result =
    subst (λ (v : Vars). SuitsStep (does v c.args.self.now.place.0 s.stand.term) c.ask_of-ask_for.result) s.vars
    (asked c.args.p.now.script s.stand.term c.args.self.now.place term (c.requires.next s.stand.term term)) in
    let pass = c.child_of-prepared.ensures.pass in
    let split = c.child_of-prepared.ensures.seat in
    let left : SeatIsLeft c.args.self.now.seat c.note_for-note.new.seat = seat_noted c.args.self.now.seat c.child_of-prepared.new.seat c.note_for-note.new.seat split c.note_for-note.ensures.same in
    subst (λ (v : View EntryItem). AsksLedger code (g.L.LedgerBook.name c.args.ledger.now).fixed v op) (sym pass.view)
    (asks_so code (g.L.LedgerBook.name c.args.ledger.now) a k s op c.replace.ensures.value (path s.stand.term term) suits c.replace-2.ensures.value (events_mentioned a c.note_for-note.new.seat c.in-Ok-prepared.child c.mentions_of-mentions.result (rw c.replace-told.ensures.value at c.mentions_of-mentions.ensures) left) pass.splits
    (note_none a c.note_for-note.result c.child_of-prepared.new.seat c.args.self.now.made k.unmade c.note_for-note.ensures.note)
    (note_some a c.note_for-note.result c.child_of-prepared.new.seat split c.note_for-note.ensures.note))

pub take-requires-clause-sent : goal.take-requires-clause-sent
take-requires-clause-sent g c =
    record {
      hand = c.args.self.now;
      knows = c.requires.known;
      next = c.args.next;
      call = c.requires.calls;
      does_next = c.requires.next;
      sent = c.child_of-prepared.new.pass;
      pass = c.child_of-prepared.ensures.pass;
      seat = seat_noted c.args.self.now.seat c.child_of-prepared.new.seat c.note_for-note.new.seat c.child_of-prepared.ensures.seat c.note_for-note.ensures.same;
      place = refl;
      control = subst (λ (x : Control). IsReady c.args.p.now.script c.args.next x c.ask_of-ask_for.new.control) c.as_mut.ensures.value (c.ask_of-ask_for.ensures.ready c.args.p.now.script);
      child_is = subst (λ (x : Control). ChildIs c.args.p.now.script x c.args.self.now.place c.args.next c.args.self.now.pass c.args.self.now.seat c.in-Ok-prepared.child) c.as_ref-standing.ensures c.in-Ok-prepared.ensures.child;
      op = record {
        request = record { ticket = c.replace.result; ask = c.ask_of-ask_for.result; batch = c.replace-2.result; path = c.in-Ok.path };
        note = c.note_for-note.result;
        mentions = c.mentions_of-mentions.result;
      };
      ticket = c.replace.ensures.value;
      batch = c.replace-2.ensures.value;
      path = subst (λ (x : Control). (t : Term) → StandsFor c.args.p.now.script x t → c.in-Ok.path ≡ begins t) c.as_ref-standing.ensures c.in-Ok.ensures;
      asks = λ t stands.
          subst (λ (x : Control). (h : Shape) (u : Term) (here : PlaceId) → StandsFor h x u → c.args.next ≡ next_of (does x.vars here.0 u) → SuitsStep (does x.vars here.0 u) c.ask_of-ask_for.result) c.as_mut.ensures.value
          c.ask_of-ask_for.ensures.suits c.args.p.now.script t c.args.self.now.place stands (c.requires.next t stands);
      mentions = rw c.replace-told.ensures.value at c.mentions_of-mentions.ensures;
      word = c.ask-reply.ensures.own;
      replied = c.ask-reply.ensures.replied;
    }
