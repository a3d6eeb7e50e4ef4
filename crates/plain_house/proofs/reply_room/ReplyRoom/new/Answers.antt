use Rattle.std.proofs.Common.{◌≤◌, ◌+◌, ◌*◌, ℕ, zero, suc, not, filter, map, length, ap, subst, sym, arith}
use Rattle.std.proofs.Math.Nat.{suc-mul}
use Rattle.std.proofs.lemmas.List.{length-append, length-map}
use Rattle.std.proofs.lemmas.List.Sums.{count_by-le-length, length-filter}
use Rattle.ocpi_types.specs.declared.config.Config.{Config}
use Rattle.ocpi_types.specs.declared.config.Operator.{Operator}
use Rattle.ocpi_types.specs.declared.config.Provider.{Provider}
use Rattle.ocpi_types.specs.declared.party.Party.{Party}
use Rattle.ocpi_types.specs.Config.{is_operator}
use Rattle.netting_positions.specs.Netting.{parties}
use Rattle.plain_house.specs.Laws.{most_rows}
use Rattle.plain_house.proofs.reply_room.ReplyRoom.new.Goals as goal

times_least : (m a b : ℕ) → a ≤ b → m * a ≤ m * b
times_least zero a b h = omega arith
times_least (suc m) a b h = let rest = times_least m a b h in omega (arith, suc-mul m a, suc-mul m b, rest, h)

-- the parties are no more than the operators and the providers
few_parties : (config : Config) → length (parties config) ≤ length config.operators + length config.providers
few_parties config =
    let operators = map (λ (o : Operator). o.party) config.operators in
    let providers = map (λ (p : Provider). p.party) config.providers in
    let is_other = λ (party : Party). not (is_operator config party) in
    omega (
      arith,
      length-append operators (filter is_other providers),
      length-map config.operators (λ (o : Operator). o.party),
      length-map config.providers (λ (p : Provider). p.party),
      length-filter is_other providers,
      count_by-le-length is_other providers,
    )

pub returns : goal.returns
returns c =
    let config = c.args.config.now in
    subst (λ n. most_rows config ≤ n * (length c.as_slice.result.now + length c.as_slice-2.result.now)) (ap length (sym c.as_slice-3.ensures.value))
    (times_least (length config.currencies) (length (parties config)) (length c.as_slice.result.now + length c.as_slice-2.result.now)
    (let few = few_parties config in omega (arith, few, ap length c.as_slice.ensures.value, ap length c.as_slice-2.ensures.value)))
