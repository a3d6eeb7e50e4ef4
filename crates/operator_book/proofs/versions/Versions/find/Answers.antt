use Rattle.std.proofs.Common.{◌<◌, ◌≤◌, ◌∙◌, sym, ap, arith, length, option_copied}
use Rattle.indexmap.specs.IndexMap.{get}
use Rattle.operator_book.specs.Inner.Versions.{same_version_key}
use Rattle.operator_book.proofs.VersionsLemmas.{key_of, no_version, version_at, version_within}
use Rattle.operator_book.proofs.versions.Versions.find.Goals as goal

pub returns-in_err-place : goal.returns-in_err-place
returns-in_err-place c =
    let tariff = c.args.tariff.now in
    let firsts = c.args.self.now.places.firsts in
    ap option_copied c.from_residual.ensures
    ∙ sym (no_version tariff c.args.entries.now (sym (c.requires (key_of tariff)) ∙ ap (get same_version_key firsts) (sym c.key_of.ensures) ∙ sym c.get.ensures ∙ c.in_err-place.was))

pub returns-in_err-get : goal.returns-in_err-get
returns-in_err-get c =
    let tariff = c.args.tariff.now in
    let firsts = c.args.self.now.places.firsts in
    let within : c.in_ok-place.place < length c.args.entries.now =
    version_within tariff c.args.entries.now c.in_ok-place.place (sym (c.requires (key_of tariff)) ∙ ap (get same_version_key firsts) (sym c.key_of.ensures) ∙ sym c.get.ensures ∙ c.in_ok-place.was) in
    let past : length c.args.entries.now ≤ c.in_ok-place.place = c.in_err-get.ensures.lookup.3 in
    absurd (omega arith)

pub returns : goal.returns
returns c =
    let tariff = c.args.tariff.now in
    let firsts = c.args.self.now.places.firsts in
    version_at tariff c.args.entries.now c.in_ok-place.place c.in_ok-get.field-0.now (option_copied c.version_in.result)
    (sym (c.requires (key_of tariff)) ∙ ap (get same_version_key firsts) (sym c.key_of.ensures) ∙ sym c.get.ensures ∙ c.in_ok-place.was)
    (c.in_ok-get.ensures.lookup.4 (omega arith) c.in_ok-get.field-0.now) c.version_in.ensures
