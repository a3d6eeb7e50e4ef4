use Rattle.std.proofs.Common.{◌≡◌, ◌-◌, ◌++◌, ℕ, List, length, take, drop, ◌∙◌, ap, append_assoc, arith, rules, length-drop}
use Rattle.std.proofs.lemmas.List.{take_at}
use Rattle.kept_batches.specs.File.{header, shut_mark}
use Rattle.kept_batches.proofs.Batches.{grown}
use Rattle.kept_batches.proofs.batch.seal.Goals as goal

pub returns-clause-sealed : goal.returns-clause-sealed
returns-clause-sealed c =
    let items = c.args.bytes.now.items in
    let text = drop 75 items in
    let given = c.put_header.new.text in
    let all : c.args.bytes.now.len ≡ length items = search rules in
    let same : length given ≡ length items = omega (arith, c.put_header.auto.text, ap length c.deref_mut.ensures.value) in
    let back : take c.args.bytes.now.len (given ++ drop (length given) items) ≡ given = take_at given (drop (length given) items) c.args.bytes.now.len (omega (arith, same, all)) in
    let size : c.len-size.result - 75 ≡ length text = omega (arith, c.len-size.ensures, all, length-drop 75 items) in
    grown c.extend_from_slice-fits.result c.extend_from_slice-fits.new.self.items (take c.args.bytes.now.len (given ++ drop (length given) items)) shut_mark c.extend_from_slice-fits.ensures.items
    (c.extend_from_slice-fits.ensures.succeeds (omega (arith, c.requires.mark_fits)))
    ∙ ap (λ (l : List ℕ). l ++ shut_mark) (back ∙ c.put_header.ensures ∙ ap (λ (n : ℕ). header n c.args.head.now ++ drop 75 c.deref_mut.result.now) size ∙ ap (λ (l : List ℕ). header (length text) c.args.head.now ++ drop 75 l) c.deref_mut.ensures.value)
    ∙ append_assoc (header (length text) c.args.head.now) text shut_mark
