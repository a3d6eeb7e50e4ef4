-- What is read of a batch, or the thread that reads it.
use Rattle.std.specs.Prelude.{◌≡◌}
use Rattle.lines_ahead.specs.ReadLines.{AreRead}
use Rattle.lines_ahead.specs.declared.begun.Work.{Work}
use Rattle.lines_ahead.specs.declared.begun.Work.TheVariants.{Read, Reading as ByThread}
use Rattle.lines_ahead.specs.declared.read_batch.ReadBatch.{ReadBatch}
use Rattle.lines_ahead.specs.declared.reader.Reading.{Reading}
use Rattle.ocpi_types.specs.declared.config.Config.{Config}

-- it is read under this configuration, or its thread promises that
abbrev pub IsUnder : Config → Work → Type 0
IsUnder config work =
    ((batch : ReadBatch) → work ≡ Read batch → AreRead config batch)
    × ((reading : Reading) → work ≡ ByThread reading → reading.thread.promise.0.value ≡ config)
