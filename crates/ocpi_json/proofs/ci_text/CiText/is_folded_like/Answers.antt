use Rattle.std.proofs.Common.{sym, ap₂, ◌∙◌}
use Rattle.ocpi_json.specs.Folded.{same_folded}
use Rattle.ocpi_json.specs.Inner.Cells.{written}
use Rattle.ocpi_json.proofs.Printable.{cells_folded, told_alike}
use Rattle.ocpi_json.proofs.ci_text.CiText.is_folded_like.Goals as goal

pub returns : goal.returns
returns g c =
    let ours = cells_folded g.row.MOST c.self.inside.cells c.self.invariant in
    let theirs = cells_folded g.row.MOST c.other.inside.cells c.other.invariant in
    let test = c.eq_ignore_ascii_case.ensures.test in
    told_alike g.row.MOST (written c.self.inside.cells) (written c.other.inside.cells) c.self.invariant.printable c.other.invariant.printable c.eq_ignore_ascii_case.result
    (λ told. sym ours ∙ test.0 told ∙ theirs) (λ same. test.1 (ours ∙ same ∙ sym theirs))
    ∙ ap₂ same_folded c.self.view_is c.other.view_is
