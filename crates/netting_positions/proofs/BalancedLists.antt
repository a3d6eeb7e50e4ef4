-- The list of all net positions is balanced.
use Rattle.std.proofs.Common.{◌≡◌, ℕ, ℤ, pos, Bool, true, false, cond, List, [], ◌∷◌, ◌++◌, map, filter, refl, sym, ap, ap₂, ◌∙◌, arith}
use Rattle.std.specs.Prelude.{◌+ℤ◌}
use Rattle.std.proofs.lemmas.Int.{ints}
use Rattle.std.proofs.lemmas.List.Elements.{filter-append}
use Rattle.std.proofs.Math.IntN.{+ℤ_idl}
use Rattle.ocpi_types.specs.declared.party.Party.{Party}
use Rattle.ocpi_types.specs.Currency.{same_currency}
use Rattle.ocpi_types.specs.Different.{all_different}
use Rattle.ocpi_types.specs.Party.{same_party}
use Rattle.netting_positions.specs.declared.obligation.Obligation.{Obligation}
use Rattle.netting_positions.specs.declared.positions.NetPosition.{NetPosition}
use Rattle.netting_positions.specs.Laws.{NetPositionsAreBalanced}
use Rattle.netting_positions.specs.Netting.{are_among, net_position, net_positions, position, total}
use Rattle.netting_positions.proofs.BalanceLemmas.{balance}

abbrev net_of : NetPosition → ℤ
net_of row = row.net

regroup : (a b s : ℤ) → a +ℤ (b +ℤ s) ≡ (a +ℤ b) +ℤ s
regroup a b s = omega (arith, ints)

total_joined : (xs ys : List NetPosition) → total (map net_of (xs ++ ys)) ≡ total (map net_of xs) +ℤ total (map net_of ys)
total_joined [] ys = sym (+ℤ_idl (total (map net_of ys)))
total_joined (x ∷ xs) ys = ap (λ (z : ℤ). x.net +ℤ z) (total_joined xs ys) ∙ regroup x.net (total (map net_of xs)) (total (map net_of ys))

module _ (parties : List Party) (obligations : List Obligation) (different : all_different same_party parties ≡ true) (among : are_among parties obligations ≡ true) (wanted : List ℕ) where
  abbrev is_wanted : NetPosition → Bool
  is_wanted row = same_currency row.currency wanted

  -- the rows of one currency are all wanted, or none is
  of_currency : (currency : List ℕ) (is : Bool) → same_currency currency wanted ≡ is → (ps : List Party)
      → map net_of (filter is_wanted (map (position obligations currency) ps)) ≡ cond is (map (λ party. net_position party currency obligations) ps) []
  of_currency currency true e [] = refl
  of_currency currency false e [] = refl
  of_currency currency true e (p ∷ ps) =
      ap (λ (b : Bool). map net_of (cond b (position obligations currency p ∷ filter is_wanted (map (position obligations currency) ps)) (filter is_wanted (map (position obligations currency) ps)))) e
      ∙ ap (λ (l : List ℤ). net_position p currency obligations ∷ l) (of_currency currency true e ps)
  of_currency currency false e (p ∷ ps) =
      ap (λ (b : Bool). map net_of (cond b (position obligations currency p ∷ filter is_wanted (map (position obligations currency) ps)) (filter is_wanted (map (position obligations currency) ps)))) e
      ∙ of_currency currency false e ps

  currency_balances : (currency : List ℕ) → total (map net_of (filter is_wanted (map (position obligations currency) parties))) ≡ pos 0
  currency_balances currency = by (same_currency currency wanted) refl
    where
      by : (is : Bool) → same_currency currency wanted ≡ is → total (map net_of (filter is_wanted (map (position obligations currency) parties))) ≡ pos 0
      by true e = ap total (of_currency currency true e parties) ∙ balance parties obligations currency different among
      by false e = ap total (of_currency currency false e parties)

  list_balances : (currencies : List (List ℕ)) → total (map net_of (filter is_wanted (net_positions parties currencies obligations))) ≡ pos 0
  list_balances [] = refl
  list_balances (currency ∷ currencies) =
      let first = map (position obligations currency) parties in
      let rest = net_positions parties currencies obligations in
      ap (λ (l : List NetPosition). total (map net_of l)) (filter-append is_wanted first rest)
      ∙ total_joined (filter is_wanted first) (filter is_wanted rest)
      ∙ ap₂ (λ (a b : ℤ). a +ℤ b) (currency_balances currency) (list_balances currencies)

pub are_balanced : NetPositionsAreBalanced
are_balanced parties currencies obligations different among = λ currency. list_balances parties obligations different among currency currencies
