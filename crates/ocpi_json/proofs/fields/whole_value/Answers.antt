use Rattle.std.proofs.Common.{sym, ap, arith, ◌≡◌, ◌∙◌, true}
use Rattle.std.specs.Char.{is_ascii_digit}
use Rattle.std.specs.List.{list_all}
use Rattle.ocpi_json.proofs.Wholes.{whole_value-parsed}
use Rattle.ocpi_json.proofs.fields.whole_value.Goals as goal

pub returns : goal.returns
returns c =
    let all : list_all is_ascii_digit c.args.token.now ≡ true =
    ap (list_all is_ascii_digit) (sym c.as_bytes.ensures.value) ∙ sym c.are_digits.ensures ∙ c.if-not-are_digits.false in
    c.ok.ensures.value ∙ whole_value-parsed c.args.token.now c.parse.result c.parse.ensures.value.0 (omega arith) all
