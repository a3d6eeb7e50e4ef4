use Rattle.std.proofs.Common.{ap, sym, ◌∙◌}
use Rattle.std.proofs.lemmas.Slice.Eq.{bytes_eq-Decides}
use Rattle.ocpi_json.specs.Name.{key_text}
use Rattle.ocpi_json.proofs.NameLemmas.{same_name}
use Rattle.ocpi_json.proofs.same.NameSame.is_same.Goals as goal

pub returns : goal.returns
returns c =
    let spelled = bytes_eq-Decides c.key.result.now c.key-2.result.now in (
      λ h. same_name c.args.self.now c.args.other.now (sym c.key.ensures ∙ spelled.0 (sym c.eq.ensures ∙ h) ∙ c.key-2.ensures),
      λ e. c.eq.ensures ∙ spelled.1 (c.key.ensures ∙ ap key_text e ∙ sym c.key-2.ensures),
    )
