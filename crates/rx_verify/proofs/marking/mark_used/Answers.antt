use Rattle.std.proofs.Common.{◌<◌, length, suc, arith}
use Rattle.rx_rules.proofs.Common.{journal_at}
use Rattle.rx_history.specs.Events.{events_of}
use Rattle.rx_verify.specs.Events.{IsFirst}
use Rattle.rx_verify.proofs.MarksMore.{is_own, firsts_rise, goes_on, one_used}
use Rattle.rx_verify.proofs.Positions.{at_most_length}
use Rattle.rx_verify.proofs.Rows.{first_again}
use Rattle.rx_verify.proofs.marking.mark_used.Goals as goal

pub loop-at-preserved : goal.loop-at-preserved
loop-at-preserved c =
    let js = events_of c.args.journals.now in
    let t = c.args.seat.now.who.task.0 in
    let j = journal_at js c.args.seat.now.home.0 in
    let test = c.loop-at-test.true in
    let all = at_most_length t j c.args.seat.now.position c.args.seat.now.position c.requires.ends in
    let inside : c.loop-at.at < length j = omega (arith, test, all) in
    let own = is_own t j c.loop-at.at c.loop-at.at c.loop-at.invariant.first inside in
    let next : IsFirst t j (suc c.loop-at.at) c.after-at.result =
    c.after-at.ensures js c.requires.table.0 t own.0 own.1 own.2 c.requires.table.1 c.requires.table.2 own.3 in
    let on = goes_on t j c.loop-at.at c.after-at.result next inside in
    let past = c.loop-at.invariant.past in
    record {
      past = omega (arith, on, past);
      within = firsts_rise t j (suc c.loop-at.at) c.after-at.result c.args.seat.now.position c.args.seat.now.position next c.requires.ends (omega (arith, test));
      first = first_again t j (suc c.loop-at.at) c.after-at.result next;
      marks = one_used js c.args.seat.now.home.0 t c.args.seat.now.low c.args.last c.args.marks.now c.loop-at.marks c.mark_event.new.marks c.args.from c.loop-at.at c.after-at.result past on next c.loop-at.invariant.marks
          c.mark_event.ensures;
    }

pub loop-at-smaller : goal.loop-at-smaller
loop-at-smaller c =
    let js = events_of c.args.journals.now in
    let t = c.args.seat.now.who.task.0 in
    let j = journal_at js c.args.seat.now.home.0 in
    let test = c.loop-at-test.true in
    let all = at_most_length t j c.args.seat.now.position c.args.seat.now.position c.requires.ends in
    let inside : c.loop-at.at < length j = omega (arith, test, all) in
    let own = is_own t j c.loop-at.at c.loop-at.at c.loop-at.invariant.first inside in
    let next : IsFirst t j (suc c.loop-at.at) c.after-at.result =
    c.after-at.ensures js c.requires.table.0 t own.0 own.1 own.2 c.requires.table.1 c.requires.table.2 own.3 in
    let on = goes_on t j c.loop-at.at c.after-at.result next inside in
    omega (arith, on, test)
