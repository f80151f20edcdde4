use Rattle.std.proofs.Common.{rules, arith, ◌≡◌, ◌||◌, not, Some, take, sym, subst, Option}
use Rattle.rx_monitor.specs.Boards.{Listing}
use Rattle.rx_objects.specs.Shown.{BoardShows}
use Rattle.rx_objects.proofs.Shows.{may_follow, shows_more}
use Rattle.rx_objects.proofs.showing.show_new.Goals as goal

pub put_up-shown-requires-clause-whole : goal.put_up-shown-requires-clause-whole
put_up-shown-requires-clause-whole g c =
    let le = c.requires.before in
    let count = c.len.ensures in
    let other = c.if-len-before.false in
    c.requires.whole (omega (arith, le, count, other))

pub put_up-shown-requires-clause-follows : goal.put_up-shown-requires-clause-follows
put_up-shown-requires-clause-follows g c =
    let k = c.args.keeper.now in
    let old : c.args.board.now ≡ Some c.in-Some.writer = search rules in
    may_follow k c.args.before c.args.late c.in-Some.writer c.requires.before (subst (λ (b : Option Listing). BoardShows k.setup.places (take c.args.before k.entries) c.args.late b) old c.requires.shows)

pub returns-in-None-gone-clause-shows : goal.returns-in-None-gone-clause-shows
returns-in-None-gone-clause-shows g c =
    let k = c.args.keeper.now in
    let old : c.args.board.now ≡ Some c.in-Some.writer = search rules in
    let new : c.replace-gone.new.self ≡ Some c.put_up-shown.new.writer = search rules in
    let shows = subst (λ (b : Option Listing). BoardShows k.setup.places (take c.args.before k.entries) c.args.late b) old c.requires.shows in
    subst (λ (b : Option Listing). BoardShows k.setup.places k.entries (c.args.late || not c.put_up-shown.result) b) (sym new)
    (shows_more k c.args.before c.args.late c.in-Some.writer c.put_up-shown.new.writer c.put_up-shown.result c.requires.before shows c.put_up-shown.ensures.shown)
