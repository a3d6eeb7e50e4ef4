use Rattle.operator_book.proofs.index.Index.make_room.Goals as goal

pub returns-clause-index : goal.returns-clause-index
returns-clause-index c entries is = record {
  cdrs = c.reserve.ensures.places entries is.cdrs;
  versions = is.versions;
  once = is.once;
  credited = is.credited;
  cdr_counts = is.cdr_counts;
  version_counts = is.version_counts;
  sums = is.sums;
}
