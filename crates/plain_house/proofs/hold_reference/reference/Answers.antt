use Rattle.std.proofs.Common.{◌<◌, ◌^◌, refl, arith, codes}
use Rattle.plain_house.proofs.PrintableLemmas.{printable_number, printable_pushed, printable_same, fits_printable}
use Rattle.plain_house.proofs.hold_reference.reference.Goals as goal

pub unwrap-requires : goal.unwrap-requires
unwrap-requires c =
    let small : c.args.number < 2 ^ 64 = omega arith in
    let country_code = c.as_str.result.now in
    let party_id = c.as_str-2.result.now in
    let number = c.format.result.now in
    let none = c.new-text.result.bytes in
    let one = c.push_str.new.self.bytes in
    let two = c.push_str-2.new.self.bytes in
    let three = c.push_str-3.new.self.bytes in
    let four = c.push_str-4.new.self.bytes in
    let all = c.as_str-3.result.now in
    let at_none = printable_same _ none c.new-text.ensures refl in
    let at_one = printable_pushed none country_code one c.push_str.ensures.bytes at_none (printable_same _ country_code c.as_str.ensures.value c.as_str.ensures.printable) in
    let at_two = printable_pushed one party_id two c.push_str-2.ensures.bytes at_one (printable_same _ party_id c.as_str-2.ensures.value c.as_str-2.ensures.printable) in
    let at_three = printable_pushed two (codes "-") three c.push_str-3.ensures.bytes at_two refl in
    let at_four = printable_pushed three number four c.push_str-4.ensures.bytes at_three (printable_number number c.args.number c.format.ensures.text small) in
    c.new.ensures.fits.1 (fits_printable all 36 (printable_same four all c.as_str-3.ensures.value at_four) c.as_str-3.ensures.fits)
