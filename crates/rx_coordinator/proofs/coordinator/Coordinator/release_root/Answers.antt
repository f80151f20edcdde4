use Rattle.std.proofs.Common.{◌-◌, arith, refl, sym, ◌∙◌, subst, Err}
use Rattle.std.proofs.lemmas.Bool.{true≢false}
use Rattle.rx_rules.specs.declared.entries.Entry.TheVariants.{Root as RootEntry}
use Rattle.rx_rules.proofs.Common.{tree_of}
use Rattle.rx_finish.specs.Calls.{RootReply}
use Rattle.rx_finish.specs.declared.ledger.LedgerFault.{LedgerFault}
use Rattle.rx_counts.specs.Stands.{StandsFor}
use Rattle.rx_coordinator.specs.declared.requests.Request.TheVariants.{Root}
use Rattle.rx_coordinator.proofs.Asking.{stands_after}
use Rattle.rx_coordinator.proofs.Allowing.{used_up}
use Rattle.rx_coordinator.proofs.Newcomers.{root_told}
use Rattle.rx_coordinator.proofs.coordinator.Coordinator.release_root.Goals as goal

pub returns-then-not-has_root : goal.returns-then-not-has_root
returns-then-not-has_root c = λ p es st. (λ h. true≢false (sym ((c.has_root.ensures p es st).1 h) ∙ c.if-not-has_root.true), st)

pub release_root-requires : goal.release_root-requires
release_root-requires c =
    let r = c.requires in
    let T = tree_of r.0 r.1 in
    (16 - T.places, T, r.2.tree, (c.has_root.ensures r.0 r.1 r.2).0 c.if-not-has_root.false)

pub unreachable-requires : goal.unreachable-requires
unreachable-requires c =
    let r = c.requires in
    let T = tree_of r.0 r.1 in
    let no = c.in-Err-Lost.ensures (16 - T.places) T r.2.tree ((c.has_root.ensures r.0 r.1 r.2).0 c.if-not-has_root.false) in
    subst (λ (f : LedgerFault). RootReply T (Err f) (StandsFor c.release_root.new.self (16 - T.places))) c.in-Err-Lost.field-0-is no

pub returns-in-Ok : goal.returns-in-Ok
returns-in-Ok c = λ p es st.
    let T = tree_of p es in
    let o = c.in-Ok.outcome in
    let root = (c.has_root.ensures p es st).0 c.if-not-has_root.false in
    let did = c.in-Ok.ensures (16 - T.places) T st.tree root in (
      RootEntry o.lost o.masked o.thrown,
      refl,
      did.0,
      stands_after c.args.self.now _ p es (RootEntry o.lost o.masked o.thrown) st did.0 did.1 (record { tasks = st.numbers.tasks; scopes = st.numbers.scopes }) refl
          (λ t. st.seats t ∙ sym (root_told T st.tree.reached did.0.2.is_quiet t)),
    )

pub returns-in-Err-NoMemory : goal.returns-in-Err-NoMemory
returns-in-Err-NoMemory c = λ p es st.
    let T = tree_of p es in
    let root = (c.has_root.ensures p es st).0 c.if-not-has_root.false in
    let no = c.in-Err-NoMemory.ensures (16 - T.places) T st.tree root in
    let same = subst (λ (f : LedgerFault). RootReply T (Err f) (StandsFor c.release_root.new.self (16 - T.places))) c.in-Err-NoMemory.field-0-is no in
    (root, record { some = st.some; few = st.few; allowed = st.allowed; tree = same.1; numbers = st.numbers; count = st.count; seats = st.seats })

pub returns-in-Err-NotYet : goal.returns-in-Err-NotYet
returns-in-Err-NotYet c = λ p es st.
    let T = tree_of p es in
    let root = (c.has_root.ensures p es st).0 c.if-not-has_root.false in
    let no = c.in-Err-NotYet.ensures (16 - T.places) T st.tree root in
    let same = subst (λ (f : LedgerFault). RootReply T (Err f) (StandsFor c.release_root.new.self (16 - T.places))) c.in-Err-NotYet.field-0-is no in (
      root,
      same.0,
      record { some = st.some; few = st.few; allowed = st.allowed; tree = same.1; numbers = st.numbers; count = st.count; seats = st.seats },
    )

pub returns-then-is_full : goal.returns-then-is_full
returns-then-is_full c = λ p es st.
    ((c.has_root.ensures p es st).0 c.if-not-has_root.false, used_up c.args.self.now p es st (c.is_full.ensures.0 c.if-is_full.true) Root (omega arith), st)
