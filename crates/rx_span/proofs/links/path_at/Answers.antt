use Rattle.std.proofs.Common.{◌∙◌, [], ap, sym, option_map}
use Rattle.std.proofs.lemmas.Option.{slice_get-get_or, slice_get-map}
use Rattle.rx_span.proofs.Passing.{next-there}
use Rattle.rx_span.proofs.links.path_at.Goals as goal

pub returns : goal.returns
returns c =
    let paths = c.args.paths.now in
    let at = c.args.at in
    sym (next-there (λ p. p.now) paths at _ (slice_get-map (λ p. p.now) paths at ∙ ap (option_map (λ p. p.now)) (slice_get-get_or paths at (record { ref_ptr = (0, 0); now = [] }) c.requires)))
