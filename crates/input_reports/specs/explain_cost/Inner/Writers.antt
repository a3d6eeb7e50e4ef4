-- Writers of records.
use Rattle.std.specs.Prelude.{◌≡◌, false}
use Rattle.csv.specs.Writing.{default_writer, fields_written, has_written, writer_setup}
use Rattle.csv.specs.declared.writer.Writer.{Writer}

-- with the settings of the table's text, and no record begun
pub record IsBetweenRecords {W : Type 0} (writer : Writer W) : Type 0 where
  pub setup : writer_setup writer ≡ default_writer
  pub no_field : fields_written writer ≡ 0
  pub no_byte : has_written writer ≡ false
