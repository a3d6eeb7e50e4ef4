use Rattle.std.proofs.Common.{◌≡◌, ◌≤◌, ◌+◌, ◌++◌, map, length, vec_len, vec_capacity}
use Rattle.clear_cli.specs.Folder.{folder_words}
use Rattle.clear_cli.specs.Inner.Making.{AreMade}
use Rattle.clear_cli.specs.Opening.{given_file}
use Rattle.clear_cli.proofs.opening.add_all.Given as goal

abbrev pub invariant-loop-path : goal.invariant-loop-path
invariant-loop-path g l = record {
  left : l.fn.files.items ≡ l.yielded ++ l.path-iterator.rest.items;
  count : length l.yielded + l.path-iterator.rest.len ≡ length l.fn.files.items;
  number : l.number ≡ length l.yielded;
  named_few : vec_len l.opened.named ≤ length l.yielded;
  pairs_few : vec_len l.opened.pairs ≤ length l.yielded;
  even : vec_len l.opened.named ≡ vec_len l.opened.pairs;
  named_places : vec_capacity l.opened.named ≡ vec_capacity l.fn.opened.named;
  pairs_places : vec_capacity l.opened.pairs ≡ vec_capacity l.fn.opened.pairs;
  made : let words = folder_words g.O.Folder.making g.O.File.Sink.writing in AreMade words g.F.Sink.writing (map given_file l.yielded)
      l.fn.folder l.folder l.opened.named.items l.opened.pairs.items l.fn.faults l.faults;
}
