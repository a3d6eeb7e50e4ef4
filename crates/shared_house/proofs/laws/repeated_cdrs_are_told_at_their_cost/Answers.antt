use Rattle.shared_house.proofs.RepeatedLemmas.{repeated_at_cost}
use Rattle.shared_house.proofs.laws.repeated_cdrs_are_told_at_their_cost.Goals as goal

pub returns : goal.returns
returns c =
    repeated_at_cost c.same_cdrs_are_equal_folded.ensures c.same_cdrs_cost_the_same.ensures c.posts_are_checked.ensures c.legal_books_are_charged.ensures c.legal_books_are_taken_back.ensures
