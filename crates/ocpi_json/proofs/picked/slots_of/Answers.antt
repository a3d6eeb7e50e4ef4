use Rattle.std.proofs.Common.{◌<◌, refl, sym, subst, arith}
use Rattle.ocpi_json.proofs.Noting.{zeros_at}
use Rattle.ocpi_json.proofs.picked.slots_of.Goals as goal

pub loop-at-init : goal.loop-at-init
loop-at-init c = record {
  long = refl;
  few = λ k. subst (λ n. n < 17) (sym (zeros_at 128 k)) (omega arith);
}
