use Rattle.tariff_elements.specs.Support.{bound_of}
use Rattle.tariff_elements.proofs.FirstLemmas.{finds_first}
use Rattle.tariff_elements.proofs.laws.finds_the_first_bound.Goals as goal

pub returns : goal.returns
returns c tariff = finds_first bound_of tariff.elements
