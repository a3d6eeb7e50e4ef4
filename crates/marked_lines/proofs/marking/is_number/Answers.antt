use Rattle.std.proofs.lemmas.Str.{IsUtf8-from_ascii}
use Rattle.marked_lines.proofs.Pieces.{ascii_token}
use Rattle.marked_lines.proofs.marking.is_number.Goals as goal

-- a number token is ASCII, so it is text
pub returns-in-Err : goal.returns-in-Err
returns-in-Err c = absurd (c.in-Err.ensures.cases.0 (IsUtf8-from_ascii _ (ascii_token _ c.requires)))
