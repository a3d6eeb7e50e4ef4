use Rattle.std.proofs.Common.{◌≡◌, ap, sym, subst, ◌∙◌}
use Rattle.std.specs.Str.{IsUtf8}
use Rattle.netting_positions.specs.StatementKeys.{capitals}
use Rattle.netting_positions.proofs.Capitals.{capitals_fit, ok_if, printable_capitals, printable_utf8}
use Rattle.netting_positions.proofs.row.capitals.Goals as goal

pub unwrap-requires : goal.unwrap-requires
unwrap-requires g c =
    let is : c.make_ascii_uppercase.new.self ≡ capitals c.args.text.now =
    c.make_ascii_uppercase.ensures.after ∙ ap capitals (c.copy_from_slice.ensures.after ∙ c.as_bytes-text.ensures.value ∙ c.as_str.ensures.value) in
    let utf8 : IsUtf8 c.make_ascii_uppercase.new.self =
    subst IsUtf8 (sym is) (printable_utf8 (capitals c.args.text.now) (printable_capitals c.args.text.now c.as_str.ensures.printable)) in
    ok_if c.from_utf8.result _ _ c.from_utf8.ensures.cases (λ e h. h.0 utf8)

pub unwrap-requires-2 : goal.unwrap-requires-2
unwrap-requires-2 g c =
    let is : c.make_ascii_uppercase.new.self ≡ capitals c.args.text.now =
    c.make_ascii_uppercase.ensures.after ∙ ap capitals (c.copy_from_slice.ensures.after ∙ c.as_bytes-text.ensures.value ∙ c.as_str.ensures.value) in
    let given = rw c.unwrap.ensures at c.from_utf8.ensures.cases in
    c.new.ensures.fits.1 (capitals_fit c.args.text.now c.unwrap.result.now g.row.MOST (given.0 ∙ is) c.as_str.ensures.printable c.as_str.ensures.fits)
