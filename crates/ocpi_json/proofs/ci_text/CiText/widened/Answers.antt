use Rattle.std.proofs.Common.{arith, ◌∙◌}
use Rattle.ocpi_json.proofs.Printable.{laid, widened_cells, written_fits, written_laid}
use Rattle.ocpi_json.proofs.ci_text.CiText.widened.Goals as goal

pub invariant_of-result : goal.invariant_of-result
invariant_of-result g c =
    let fits = written_fits _ _ c.self.invariant in
    rw (c.copy_from_slice.ensures.after, widened_cells _ _ _ c.requires c.self.invariant) (laid _ _ (omega (arith, c.requires, fits)) c.self.invariant.printable)

pub returns : goal.returns
returns g c =
    rw (c.copy_from_slice.ensures.after, widened_cells _ _ _ c.requires c.self.invariant) (written_laid _ _ c.self.invariant.printable ∙ c.self.view_is)
