-- What the chain over the records gives.
use Rattle.std.proofs.Common.{◌≡◌, ◌∙◌, ap, ◌^◌, ◌<◌, List, map, length, Option, Bor, arith}
use Rattle.std.specs.List.{AllZip, enumerate_from, filter_map}
use Rattle.jiff.specs.Types.{TimeZone as PlainZone}
use Rattle.rayon.specs.Lists.{enumerate_from as wrapping_from}
use Rattle.rayon.proofs.ToStd.{slice-length}
use Rattle.re_rating.specs.declared.records.Record.{Record}
use Rattle.re_rating.specs.declared.records.Difference.{Difference}
use Rattle.re_rating.specs.Differences.{differs, difference_of, differences}
use Rattle.re_rating.specs.Inner.OneDifference.{difference_at}
use Rattle.re_rating.proofs.Chains.{Answers, filter_map-filter, kept}

-- what the chain keeps, where it asks of each record at its place
pub found : (zone : PlainZone) (records : List Record) (items : List (Bor Record)) (answers : List (Option Difference)) → length records < 2 ^ 64 → map (λ (x : Bor Record). x.now) items ≡ records → AllZip (Answers (difference_at zone)) (wrapping_from 0 items) answers → filter_map (λ o. o) answers ≡ differences zone records
unfolding differences
found zone records items answers few shown each =
    let long = slice-length items records shown in
    kept (difference_at zone) 0 items answers (omega (arith, long, few)) each
    ∙ ap (λ xs. filter_map (difference_at zone) (enumerate_from 0 xs)) shown
    ∙ filter_map-filter (λ p. differs zone p.1) (difference_of zone) (enumerate_from 0 records)
