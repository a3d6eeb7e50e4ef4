mod AheadLemmas
