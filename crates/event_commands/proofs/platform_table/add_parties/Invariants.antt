use Rattle.std.proofs.Common.{◌≡◌, take}
use Rattle.std.specs.List.{list_any}
use Rattle.indexmap.specs.IndexMap.{get}
use Rattle.ocpi_types.specs.declared.party.Party.{Party}
use Rattle.ocpi_types.specs.Party.{same_party}
use Rattle.event_commands.proofs.TableLemmas.{named}
use Rattle.event_commands.proofs.platform_table.add_parties.Given as goal

abbrev pub invariant-loop-party : goal.invariant-loop-party
invariant-loop-party l =
    (asked : Party) → get same_party l.acting asked
    ≡ named (get same_party l.initial.acting asked) (list_any (λ other. same_party other asked) (take l.party-index l.parties)) l.platform.name
