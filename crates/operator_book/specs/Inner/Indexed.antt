-- What an index knows of entries.
use Rattle.std.specs.Prelude.{◌<◌, List}
use Rattle.indexmap.specs.IndexMap.{spare}
use Rattle.indexmap.specs.IndexSet.{spare as spare_keys}
use Rattle.plain_house.specs.declared.entry.BookEntry.{BookEntry}
use Rattle.operator_book.specs.Inner.Counts.{CountsCdrs, CountsVersions}
use Rattle.operator_book.specs.Inner.Credited.{KnowsCredited}
use Rattle.operator_book.specs.Inner.Ids.{FindsCdrs}
use Rattle.operator_book.specs.Inner.Sums.{SumsUp}
use Rattle.operator_book.specs.Inner.Versions.{FindsVersions, StoresEachOnce}
use Rattle.operator_book.specs.declared.index.Index.{Index}

-- each part is that of these entries, in which no version is stored twice
pub record IsIndexOf (index : Index) (entries : List BookEntry) : Type 0 where
  pub cdrs : FindsCdrs index.ids entries
  pub versions : FindsVersions index.versions entries
  pub once : StoresEachOnce entries
  pub credited : KnowsCredited index.credited entries
  pub cdr_counts : CountsCdrs index.counts.cdrs entries
  pub version_counts : CountsVersions index.counts.versions entries
  pub sums : SumsUp index.sums entries

-- each part takes one entry more without memory
pub record HasRoom (index : Index) : Type 0 where
  pub cdrs : 0 < spare index.ids.places.firsts
  pub versions : 0 < spare index.versions.places.firsts
  pub credited : 0 < spare_keys index.credited.keys
  pub cdr_counts : 0 < spare index.counts.cdrs.counts
  pub version_counts : 0 < spare index.counts.versions.counts
  pub sums : 0 < spare index.sums.rows
