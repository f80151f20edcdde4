use Rattle.std.proofs.Common.{◌≡◌, ◌∙◌, sym, subst, inl, inr, Option, ℕ, rules, arith, IfSome}
use Rattle.std.proofs.lemmas.Bool.{cases_eq}
use Rattle.rx_counts.specs.declared.record.Record.{Record}
use Rattle.rx_counts.specs.Stands.{record_at, Pairs}
use Rattle.rx_counts.specs.Inside.Dying.{StrikesRecord, MayHit}
use Rattle.rx_counts.proofs.Tolls.{toll_fits, toll_next}
use Rattle.rx_counts.proofs.dying.strike_all.Goals as goal

pub strike_at-requires : goal.strike_at-requires
strike_at-requires c =
    let here : record_at c.loop-i.scopes c.loop-i.i ≡ record_at c.args.scopes.now c.loop-i.i = c.loop-i.invariant.above c.loop-i.i (omega arith) in
    (c.requires.hit.0, subst (λ (o : Option Record). IfSome o (MayHit c.args.d)) (sym here) (c.requires.hit.1 c.loop-i.i))

pub and-toll-requires : goal.and-toll-requires
and-toll-requires c =
    let here : record_at c.loop-i.scopes c.loop-i.i ≡ record_at c.args.scopes.now c.loop-i.i = c.loop-i.invariant.above c.loop-i.i (omega arith) in
    toll_fits c.args.d c.args.scopes.now c.loop-i.i c.loop-i.toll c.strike_at.result _ (search rules) c.loop-i.invariant.toll c.strike_at.ensures.toll here c.requires.few

pub loop-i-preserved : goal.loop-i-preserved
loop-i-preserved c =
    let i : ℕ = c.loop-i.i in
    let rs = c.args.scopes.now in
    let qs = c.strike_at.new.scopes in
    let here : record_at c.loop-i.scopes i ≡ record_at rs i = c.loop-i.invariant.above i (omega arith) in
    let changed = c.strike_at.ensures.strikes in
    record {
      len = changed.len ∙ c.loop-i.invariant.len;
      below = λ n low. elim (cases_eq n i) as (λ _. Pairs (StrikesRecord c.args.d) (record_at rs n) (record_at qs n)) [
        | inl e ↦ subst (λ (m : ℕ). Pairs (StrikesRecord c.args.d) (record_at rs m) (record_at qs m)) (sym e)
            (subst (λ (o : Option Record). Pairs (StrikesRecord c.args.d) o (record_at qs i)) here changed.here)
        | inr d ↦ subst (λ (o : Option Record). Pairs (StrikesRecord c.args.d) (record_at rs n) o) (sym (changed.others n d)) (c.loop-i.invariant.below n (omega arith))
      ];
      above = λ n le. changed.others n (λ e. omega arith) ∙ c.loop-i.invariant.above n (omega arith);
      toll = toll_next c.args.d rs i c.loop-i.toll c.strike_at.result c.and-toll.result _ c.loop-i.invariant.toll c.strike_at.ensures.toll here c.and-toll.ensures;
    }
