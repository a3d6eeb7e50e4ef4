use Rattle.std.proofs.Common.{◌≡◌, drop}
use Rattle.tariff_elements.specs.FirstOf.{first_from}
use Rattle.tariff_elements.specs.Support.{bound_of, unsupported}
use Rattle.tariff_elements.proofs.support.unsupported.Given as goal

abbrev pub invariant-loop-element : goal.invariant-loop-element
invariant-loop-element l = record {
  rest : unsupported l.fn.tariff ≡ first_from bound_of l.index (drop l.element-index l.elements);
  number : l.index ≡ l.element-index;
}
