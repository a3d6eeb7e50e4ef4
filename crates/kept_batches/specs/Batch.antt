-- The lines of a batch.
use Rattle.std.specs.Prelude.{ℕ, List, drop}
use Rattle.kept_batches.specs.Text.{lines_in}
use Rattle.kept_batches.specs.declared.batch.Batch.{Batch}

abbrev pub text_of : Batch → List ℕ
text_of batch = drop 75 batch.bytes.items

abbrev pub lines_of : Batch → List (List ℕ)
lines_of batch = lines_in (text_of batch)
