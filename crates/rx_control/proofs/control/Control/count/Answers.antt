use Rattle.std.proofs.Common.{◌≡◌, suc, [], ◌∷◌, ◌++◌, None, ap, sym, ◌∙◌, option_to_list}
use Rattle.rx_rules.specs.declared.entries.Act.TheVariants.{Census}
use Rattle.rx_rules.proofs.Common.{Counts, granted, at, vars_told}
use Rattle.rx_control.specs.Levels.{More, term_of}
use Rattle.rx_control.specs.declared.frame.Frame.TheVariants.{Seq}
use Rattle.rx_control.specs.declared.control.Control.{Control}
use Rattle.rx_control.specs.Stands.{path_of}
use Rattle.rx_control.proofs.Standing.{at-statement, settled-stands}
use Rattle.rx_control.proofs.Steps.{went}
use Rattle.rx_control.proofs.Answering.{granted-front}
use Rattle.rx_control.proofs.Counting.{census-front, census-begins, census-node, census-name, opens-nothing}
use Rattle.rx_control.proofs.control.Control.count.Goals as goal

pub at_hand-requires : goal.at_hand-requires
at_hand-requires c =
    let e = c.in-Some.ensures in
    let a = at-statement c.args.script.now c.args.self.now c.requires.0 e.1.0 c.in-Some.block c.in-Some.next c.in-Some.part e.0 e.1.1 c.requires.2 in
    (a.stmt, a.more, a.awaits)

pub following-after-requires : goal.following-after-requires
following-after-requires c =
    let e = c.in-Some.ensures in
    let a = at-statement c.args.script.now c.args.self.now c.requires.0 e.1.0 c.in-Some.block c.in-Some.next c.in-Some.part e.0 e.1.1 c.requires.2 in
    (a.stmt, a.more, a.awaits)

pub settle-requires : goal.settle-requires
settle-requires c =
    let e = c.in-Some.ensures in
    let a = at-statement c.args.script.now c.args.self.now c.requires.0 e.1.0 c.in-Some.block c.in-Some.next c.in-Some.part e.0 e.1.1 c.requires.2 in
    let x = path_of c.args.self.now.base e.1.0 ++ option_to_list c.in-Some.part in
    let w = went c.args.script.now c.args.self.now c.requires.0 e.1.0 c.go_on.new.frames.items c.in-Some.block c.in-Some.next c.following-after.result c.in-Some.part a (c.go_on.ensures.items e.1.0 (Seq c.in-Some.block c.in-Some.next c.in-Some.part) e.1.1) c.following-after.ensures in
    let ls = More a.more x (suc c.in-Some.next) ∷ a.others in
    (c.args.self.now.base, ls, w.stands)

pub returns-clause-stands : goal.returns-clause-stands
returns-clause-stands c t here h n =
    let e = c.in-Some.ensures in
    let a = at-statement c.args.script.now c.args.self.now t e.1.0 c.in-Some.block c.in-Some.next c.in-Some.part e.0 e.1.1 h in
    let x = path_of c.args.self.now.base e.1.0 ++ option_to_list c.in-Some.part in
    let w = went c.args.script.now c.args.self.now t e.1.0 c.go_on.new.frames.items c.in-Some.block c.in-Some.next c.following-after.result c.in-Some.part a (c.go_on.ensures.items e.1.0 (Seq c.in-Some.block c.in-Some.next c.in-Some.part) e.1.1) c.following-after.ensures in
    let ls = More a.more x (suc c.in-Some.next) ∷ a.others in
    let k = census-front c.args.script.now c.args.self.now t e.1.0 c.in-Some.block c.in-Some.next c.in-Some.part a c.args.self.now.vars here.0 n in
    let d : Control = record { base = c.args.self.now.base; frames = c.settle.new.frames; raised = c.args.self.now.raised; vars = c.learn.new.vars } in
    let g : granted [] t ≡ term_of None ls =
    ap (granted []) a.is ∙ granted-front [] a.stmt a.more x c.in-Some.next a.others ∙ ap (term_of None) (opens-nothing a.stmt k.name (at x c.in-Some.next) ls k.stmt_is) in
    settled-stands c.args.script.now d ls None (granted [] t) e.0 (c.settle.ensures c.args.self.now.base ls w.stands) g

pub returns-clause-vars : goal.returns-clause-vars
returns-clause-vars c t here path h n =
    let e = c.in-Some.ensures in
    let a = at-statement c.args.script.now c.args.self.now t e.1.0 c.in-Some.block c.in-Some.next c.in-Some.part e.0 e.1.1 h in
    let k = census-front c.args.script.now c.args.self.now t e.1.0 c.in-Some.block c.in-Some.next c.in-Some.part a c.args.self.now.vars here.0 n in
    let q = census-name c.args.script.now c.at_hand.result c.in-Census.name a.stmt k.name c.in-Census.is k.stmt_is (c.at_hand.ensures a.stmt a.more a.awaits) in
    c.in_ok-learn-in-Some.ensures.ok ∙ sym (ap (λ m. vars_told (Counts m) (Census c.args.places path) c.args.self.now.vars) q)
    ∙ sym (ap (λ d. vars_told d (Census c.args.places path) c.args.self.now.vars) k.is)

pub unreachable-requires : goal.unreachable-requires
unreachable-requires c =
    let e = c.in-Some.ensures in
    let a = at-statement c.args.script.now c.args.self.now c.requires.0 e.1.0 c.in-Some.block c.in-Some.next c.in-Some.part e.0 e.1.1 c.requires.2 in
    let k = census-front c.args.script.now c.args.self.now c.requires.0 e.1.0 c.in-Some.block c.in-Some.next c.in-Some.part a c.args.self.now.vars c.requires.1.0 c.requires.3 in
    let z = census-node c.args.script.now c.at_hand.result a.stmt k.name k.stmt_is (c.at_hand.ensures a.stmt a.more a.awaits) in
    c.in_default.not-Census z.0 z.1

pub unreachable-requires-in-None : goal.unreachable-requires-in-None
unreachable-requires-in-None c =
    census-begins c.args.self.now.vars c.requires.1.0 c.requires.0 (c.in-None.ensures c.args.script.now c.requires.0 c.requires.2) c.requires.3
