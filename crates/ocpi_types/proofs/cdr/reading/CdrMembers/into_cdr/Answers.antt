use Rattle.std.proofs.Common.{◌∙◌, sym}
use Rattle.ocpi_json.specs.MemberFaults.{fault_at, member_of}
use Rattle.ocpi_json.specs.declared.expected.Expected.TheVariants as expected
use Rattle.ocpi_json.specs.declared.name.Name.TheVariants as name
use Rattle.ocpi_types.specs.Cdr.{fault_of_volume}
use Rattle.ocpi_types.proofs.TestedMembers.{passed, failed, all_passed}
use Rattle.ocpi_types.proofs.cdr.reading.CdrMembers.into_cdr.Goals as goal

pub returns-then-not-has_id_in_range : goal.returns-then-not-has_id_in_range
returns-then-not-has_id_in_range c = rw c.at.ensures (sym (failed (fault_at (member_of name.Id) expected.CdrId) _ _ (sym c.if-not-has_id_in_range.ensures)))

pub returns-then-not-has_volumes_in_range : goal.returns-then-not-has_volumes_in_range
returns-then-not-has_volumes_in_range c = rw (c.fault_of_volume.ensures, c.as_slice.ensures.value)
    (sym (passed (fault_at (member_of name.Id) expected.CdrId) _ _ (sym c.if-not-has_id_in_range.ensures) ∙ failed (fault_of_volume c.args.self.charging_periods) _ _ (sym c.if-not-has_volumes_in_range.ensures)))

pub returns-then-not-has_energy_in_range : goal.returns-then-not-has_energy_in_range
returns-then-not-has_energy_in_range c = rw c.at-then-not-has_energy_in_range.ensures
    (sym (passed (fault_at (member_of name.Id) expected.CdrId) _ _ (sym c.if-not-has_id_in_range.ensures) ∙
    (passed (fault_of_volume c.args.self.charging_periods) _ _ (sym c.if-not-has_volumes_in_range.ensures) ∙ failed (fault_at (member_of name.TotalEnergy) expected.CdrNumber) _ _ (sym c.if-not-has_energy_in_range.ensures))))

pub returns : goal.returns
returns c = sym (all_passed c.args.self _ _ _)
