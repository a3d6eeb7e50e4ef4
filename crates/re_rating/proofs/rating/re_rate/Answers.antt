use Rattle.std.proofs.Common.{rules, ◌∙◌, ap, subst, ◌<◌, length, ◌^◌}
use Rattle.std.specs.List.{AllZip}
use Rattle.rayon.specs.Lists.{enumerate_from as wrapping_from}
use Rattle.rayon.proofs.ListFacts.{IfOk-then}
use Rattle.re_rating.specs.Inner.OneDifference.{difference_at}
use Rattle.re_rating.proofs.Chains.{Answers}
use Rattle.re_rating.proofs.Differing.{found}
use Rattle.re_rating.proofs.rating.re_rate.Goals as goal

pub returns : goal.returns
returns g c =
    let few : length c.args.records.now < 2 ^ 64 = search rules in
    let slice = ap (λ it. it.base.base.slice.now) c.filter_map.ensures.base ∙ ap (λ it. it.base.slice.now) c.enumerate.ensures.base ∙ ap (λ it. it.slice.now) c.with_min_len.ensures.base ∙ c.par_iter.ensures in
    let first = ap (λ it. it.offset) c.filter_map.ensures.base ∙ c.enumerate.ensures.offset in
    let zone = ap (λ f. f.0.now) c.filter_map.ensures.f in
    IfOk-then c.collect.result _ _ c.collect.ensures (λ v h.
    let chain = h.1 in
    let items = chain.2.0 in
    let places = chain.2.2 ∙ ap (λ n. wrapping_from n items) first in
    let at_places = subst (λ xs. AllZip (Answers (difference_at c.filter_map.result.f.0.now)) xs chain.1) places chain.3 in
    let each = subst (λ z. AllZip (Answers (difference_at z)) (wrapping_from 0 items) chain.1) zone at_places in
    h.2 ∙ chain.4 ∙ found c.args.zone.now c.args.records.now items chain.1 few (chain.2.1 ∙ slice) each)
