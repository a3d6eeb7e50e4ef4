use Rattle.std.proofs.Common.{rules, arith, ◌≡◌, ◌+◌, ◌∷◌, ◌++◌, ◌∙◌, [], List, map, length, sym, ap, subst, string_bytes, append_assoc, length-append}
use Rattle.std.proofs.lemmas.Grind.{common_steps}
use Rattle.std.proofs.lemmas.List.{append-nil, length-map, map-append, nil_from_length}
use Rattle.clear_cli.specs.Folder.{folder_words}
use Rattle.clear_cli.specs.Inner.Making.{AreMade}
use Rattle.clear_cli.specs.Opening.{GivenFile, given_file}
use Rattle.clear_cli.proofs.OpeningLemmas.{made_more}
use Rattle.clear_cli.proofs.opening.add_all.Goals as goal

pub loop-path-preserved : goal.loop-path-preserved
loop-path-preserved g c =
    let words = folder_words g.O.Folder.making g.O.File.Sink.writing in
    let many = length-map {B = GivenFile g.row.I.Denot} c.loop-path.yielded given_file in
    let more = made_more words g.F.Sink.writing (map given_file c.loop-path.yielded)
    (record { path = string_bytes c.in-Some.path; reader = c.in-Some.reader }) (c.loop-path.number + 1)
    c.args.folder.now c.loop-path.folder c.add_file.new.folder c.loop-path.opened.named.items c.add_file.new.opened.named.items c.loop-path.opened.pairs.items c.add_file.new.opened.pairs.items
    c.args.faults.now c.loop-path.faults c.add_file.new.faults (omega (arith, many, c.loop-path.invariant.number)) c.loop-path.invariant.made c.add_file.ensures.added in
    record {
      left = c.loop-path.invariant.left ∙ ap (λ l. c.loop-path.yielded ++ l) c.in-Some.ensures.steps.0
          ∙ sym (append_assoc c.loop-path.yielded ((c.in-Some.path, c.in-Some.reader) ∷ []) c.next.new.self.rest.items);
      count = omega (arith, length-append c.loop-path.yielded ((c.in-Some.path, c.in-Some.reader) ∷ []), c.loop-path.invariant.count, c.in-Some.ensures.steps.1);
      number = grind (arith, common_steps);
      named_few = grind (arith, common_steps);
      pairs_few = grind (arith, common_steps);
      even = search rules;
      named_places = search rules;
      pairs_places = search rules;
      made = subst (λ (l : List (GivenFile g.row.I.Denot)). AreMade words g.F.Sink.writing l c.args.folder.now c.add_file.new.folder c.add_file.new.opened.named.items c.add_file.new.opened.pairs.items c.args.faults.now c.add_file.new.faults)
          (sym (map-append given_file c.loop-path.yielded ((c.in-Some.path, c.in-Some.reader) ∷ []))) more;
    }

pub returns-clause-made : goal.returns-clause-made
returns-clause-made g c =
    let left = c.loop-path.invariant.left in
    let nothing : c.loop-path.path-iterator.rest.items ≡ [] =
    nil_from_length c.loop-path.path-iterator.rest.items
    (omega (arith, ap length left, length-append c.loop-path.yielded c.loop-path.path-iterator.rest.items, c.loop-path.invariant.count, c.in-None.ensures.steps.0)) in
    let all : c.loop-path.yielded ≡ c.args.files.items = sym (left ∙ ap (λ l. c.loop-path.yielded ++ l) nothing ∙ append-nil c.loop-path.yielded) in
    subst (λ (l : List (GivenFile g.row.I.Denot)). AreMade (folder_words g.O.Folder.making g.O.File.Sink.writing) g.F.Sink.writing l c.args.folder.now c.loop-path.folder c.loop-path.opened.named.items c.loop-path.opened.pairs.items c.args.faults.now c.loop-path.faults)
    (ap (map given_file) all) c.loop-path.invariant.made
