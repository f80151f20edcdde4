use Rattle.std.proofs.Common.{◌≡◌, ◌<◌, ◌≤◌, ◌/◌, ◌%◌, ◌∙◌, List, [], length, Option, Some, None, sym, ap, subst, rules, MatchOption, slice_index_or}
use Rattle.std.specs.Global.{Vec, Box}
use Rattle.rx_counts.specs.declared.record.Record.{Record}
use Rattle.rx_counts.specs.Stands.{record_at}
use Rattle.rx_counts.proofs.PageList.{page_read, page_missing, record_read}
use Rattle.rx_counts.proofs.pages.Pages.get.Goals as goal

pub returns-in-Some : goal.returns-in-Some
returns-in-Some c =
    let pages : List (Vec (Option (Box Record))) = c.self.inside.pages.items in
    let v : Vec (Option (Box Record)) = c.in-Some.page.now in
    let low : c.args.n / 1024 < length pages = search rules in
    let at : v ≡ slice_index_or pages (c.args.n / 1024) v = search rules in
    let here = record_read pages c.self.inside.count c.args.n v.items c.args.self.now (page_read pages (c.args.n / 1024) v low at) c.self.view_is c.self.invariant in
    subst (λ (o : Option Record). MatchOption c.read.result (o ≡ None) (λ r. o ≡ Some r.now))
    (ap (λ xs. record_at xs (c.args.n % 1024)) c.deref-in-Some.ensures.value ∙ here) c.read.ensures

pub returns-in-None : goal.returns-in-None
returns-in-None c =
    let pages : List (Vec (Option (Box Record))) = c.self.inside.pages.items in
    let high : length pages ≤ c.args.n / 1024 = search rules in
    sym (record_read pages c.self.inside.count c.args.n [] c.args.self.now (page_missing pages (c.args.n / 1024) high) c.self.view_is c.self.invariant)
