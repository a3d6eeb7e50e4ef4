use Rattle.std.proofs.Common.{◌∙◌, ap, ap₂, Some, None, length, if◌then◌else◌}
use Rattle.std.specs.Option.{option_or}
use Rattle.ocpi_types.specs.declared.tariff.Tariff.{Tariff}
use Rattle.operator_book.specs.Inner.Versions.{same_version_key}
use Rattle.operator_book.specs.declared.keys.VersionKey.{VersionKey}
use Rattle.operator_book.proofs.VersionsLemmas.{none_added, stored_once, version_added}
use Rattle.operator_book.proofs.versions.Versions.add.Goals as goal

abbrev key_for : Tariff → VersionKey
key_for tariff = record { operator = tariff.operator; id = tariff.id; last_updated = tariff.last_updated }

pub returns-in-Some-clause-kept : goal.returns-in-Some-clause-kept
returns-in-Some-clause-kept c key =
    let entries = c.args.entries.now in
    c.put.ensures key
    ∙ ap₂ (λ before (version : VersionKey). option_or before (if same_version_key version key then Some (length entries) else None)) (c.requires.kept key) (c.key_of.ensures ∙ ap key_for c.deref.ensures)
    ∙ version_added key entries c.args.entry.now c.in-Some.tariff.now c.in-Some.ensures

pub returns-in-Some-clause-once : goal.returns-in-Some-clause-once
returns-in-Some-clause-once c = stored_once c.same_tariffs_are_equal_folded.ensures c.args.entries.now c.args.entry.now c.requires.fresh c.requires.once

pub returns-in_default-clause-kept : goal.returns-in_default-clause-kept
returns-in_default-clause-kept c key = c.requires.kept key ∙ none_added key c.args.entries.now c.args.entry.now c.in_default.ensures

pub returns-in_default-clause-once : goal.returns-in_default-clause-once
returns-in_default-clause-once c = stored_once c.same_tariffs_are_equal_folded.ensures c.args.entries.now c.args.entry.now c.requires.fresh c.requires.once
