use Rattle.operator_book.proofs.index.Index.reserve.Goals as goal

pub returns-in_err-reserve-clause-index : goal.returns-in_err-reserve-clause-index
returns-in_err-reserve-clause-index c entries is = record {
  cdrs = c.reserve.ensures.places entries is.cdrs;
  versions = is.versions;
  once = is.once;
  credited = is.credited;
  cdr_counts = is.cdr_counts;
  version_counts = is.version_counts;
  sums = is.sums;
}

pub returns-in_err-reserve-2-clause-index : goal.returns-in_err-reserve-2-clause-index
returns-in_err-reserve-2-clause-index c entries is = record {
  cdrs = c.reserve.ensures.places entries is.cdrs;
  versions = c.reserve-2.ensures.places entries is.versions;
  once = is.once;
  credited = is.credited;
  cdr_counts = is.cdr_counts;
  version_counts = is.version_counts;
  sums = is.sums;
}

pub returns-in_err-reserve-3-clause-index : goal.returns-in_err-reserve-3-clause-index
returns-in_err-reserve-3-clause-index c entries is = record {
  cdrs = c.reserve.ensures.places entries is.cdrs;
  versions = c.reserve-2.ensures.places entries is.versions;
  once = is.once;
  credited = c.reserve-3.ensures.keys entries is.credited;
  cdr_counts = is.cdr_counts;
  version_counts = is.version_counts;
  sums = is.sums;
}

pub returns-in_err-reserve-4-clause-index : goal.returns-in_err-reserve-4-clause-index
returns-in_err-reserve-4-clause-index c entries is = record {
  cdrs = c.reserve.ensures.places entries is.cdrs;
  versions = c.reserve-2.ensures.places entries is.versions;
  once = is.once;
  credited = c.reserve-3.ensures.keys entries is.credited;
  cdr_counts = c.reserve-4.ensures.cdrs entries is.cdr_counts;
  version_counts = c.reserve-4.ensures.versions entries is.version_counts;
  sums = is.sums;
}

pub returns-clause-index : goal.returns-clause-index
returns-clause-index c entries is = record {
  cdrs = c.reserve.ensures.places entries is.cdrs;
  versions = c.reserve-2.ensures.places entries is.versions;
  once = is.once;
  credited = c.reserve-3.ensures.keys entries is.credited;
  cdr_counts = c.reserve-4.ensures.cdrs entries is.cdr_counts;
  version_counts = c.reserve-4.ensures.versions entries is.version_counts;
  sums = c.reserve-5.ensures.rows entries is.sums;
}
