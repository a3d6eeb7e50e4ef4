use Rattle.std.proofs.Common.{◌≡◌, true, Bool, Ok, Err, ap, ◌∙◌, if◌then◌else◌, map}
use Rattle.std.proofs.lemmas.List.{take_all}
use Rattle.ocpi_json.specs.declared.name.Name.TheVariants.{Providers}
use Rattle.ocpi_types.specs.Config.{alike_providers}
use Rattle.ocpi_types.specs.Different.{all_different, doubled}
use Rattle.new_configuration.specs.Loosened.{with_highest_limits}
use Rattle.new_configuration.proofs.LooseLemmas.{still_different}
use Rattle.new_configuration.proofs.loosening.providers.Goals as goal

pub unreachable-requires : goal.unreachable-requires
unreachable-requires c =
    let given = c.as_slice-given.result.now in
    let loose = with_highest_limits c.as_slice-currencies.result.now in
    let whole : c.loop-provider.providers ≡ map loose given =
    c.loop-provider.invariant ∙ ap (map loose) (take_all c.loop-provider.provider-index given c.loop-provider-test.false) in
    let different : all_different alike_providers c.loop-provider.providers ≡ true =
    ap (all_different alike_providers) whole ∙ still_different c.as_slice-currencies.result.now given ∙ c.as_slice-given.ensures.different in
    c.in_default.not-Ok c.loop-provider.providers (c.new.ensures ∙ ap (λ (b : Bool). if b then Ok c.loop-provider.providers else Err (doubled Providers)) different)
