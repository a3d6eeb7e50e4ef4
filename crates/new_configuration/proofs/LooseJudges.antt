-- Each configuration may judge in a house of the loosest one beside it.
use Rattle.std.proofs.Common.{refl, sym}
use Rattle.cdr_checks.specs.Admission.{IsAdmitted}
use Rattle.cdr_checks.specs.declared.request.Command.{Command}
use Rattle.cdr_checks.specs.declared.request.Request.{Request}
use Rattle.new_configuration.specs.Loosened.{LoosenedJudgesWider}
use Rattle.new_configuration.proofs.LooseAdmission.{admitted_wider}
use Rattle.new_configuration.proofs.LooseLemmas.{hub_name, same_names}
use Rattle.new_configuration.proofs.LooseVerdict.{adds_wider}

pub judges_wider : LoosenedJudgesWider
unfolding IsAdmitted
judges_wider config = record {
  adds = λ now e given.
      let told : Command = given.0 in
      let request : Request = given.1.0 in
      (told, (record { platform = hub_name; ask = request.ask }, admitted_wider config request told given.1.1), adds_wider config now told e given.2);
  operators = refl;
  providers = sym (same_names config.currencies config.providers);
  currencies = refl;
}
