use Rattle.std.proofs.Common.{◌≡◌, ◌≤◌, false, sym, ap, ◌∙◌, below_more}
use Rattle.std.specs.Str.{bytes_eq}
use Rattle.ocpi_json.specs.Inner.Picked.{name_at}
use Rattle.ocpi_json.specs.Name.{key_text}
use Rattle.ocpi_json.proofs.picked.index_between.Goals as goal

pub loop-at-preserved : goal.loop-at-preserved
loop-at-preserved c =
    let other : bytes_eq c.args.key.now (key_text (name_at c.args.names.now c.loop-at.at)) ≡ false =
    ap (bytes_eq c.args.key.now) (sym c.key.ensures) ∙ sym c.eq.ensures ∙ c.if-eq.false in
    let before = below_more (λ i. c.args.from ≤ i → bytes_eq c.args.key.now (key_text (name_at c.args.names.now i)) ≡ false) c.loop-at.at (λ i lt h. c.loop-at.invariant i h lt) (λ h. other) in
    λ i h lt. before i lt h
