use Rattle.std.proofs.Common.{rules, subst, map, List}
use Rattle.std.proofs.lemmas.List.Sorted.{IsNonDecreasingBy-from_sort_by, IsPermutation-map}
use Rattle.std.specs.List.Sorted.{IsPermutation}
use Rattle.shared_house.specs.Inner.Turns.{PlainTurn, plain_turn, rank}
use Rattle.shared_house.proofs.ReplayLemmas.{in_order_map}
use Rattle.shared_house.proofs.certifying.turns.turns_in_order.Goals as goal

pub returns : goal.returns
returns c = record {
  same =
      subst (λ (l : List PlainTurn). IsPermutation l (map plain_turn c.sort_by.new.self.items)) c.in_ok-turns.ensures
      (IsPermutation-map plain_turn _ _ c.sort_by.ensures.permutation);
  in_order =
      in_order_map plain_turn rank _
      (IsNonDecreasingBy-from_sort_by (λ turn. rank (plain_turn turn)) _ c.in_ok-sort_by.ensures.sorted (λ a r q k. search rules));
}
