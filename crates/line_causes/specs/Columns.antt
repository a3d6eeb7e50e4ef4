-- The columns of a refused line, as texts.
use Rattle.std.specs.Prelude.{ℕ, List, [], Option, Some, None, decimal, string_bytes}
use Rattle.line_causes.specs.Against.{against_of}
use Rattle.line_causes.specs.Event.{event_of}
use Rattle.line_causes.specs.Found.{found_of}
use Rattle.line_causes.specs.LinePlace.{place_of, place_text}
use Rattle.line_causes.specs.Value.{value_text}
use Rattle.line_causes.specs.Words.{words_of}
use Rattle.line_causes.specs.declared.column_texts.ColumnTexts.{ColumnTexts}
use Rattle.line_causes.specs.declared.line_cause.LineCause.{LineCause}

pub record Columns : Type 0 where
  pub place : List ℕ
  pub cause : List ℕ
  pub found : List ℕ
  pub against : List ℕ
  pub event : List ℕ

-- the number of the event; empty if there is none
abbrev pub event_text : Option ℕ → List ℕ
event_text None = []
event_text (Some event) = decimal event

abbrev pub columns_of : LineCause → Columns
columns_of cause = record {
  place = place_text (place_of cause);
  cause = words_of cause;
  found = value_text (found_of cause);
  against = value_text (against_of cause);
  event = event_text (event_of cause);
}

-- what the strings hold
abbrev pub column_texts : ColumnTexts → Columns
column_texts texts = record {
  place = string_bytes texts.place;
  cause = string_bytes texts.cause;
  found = string_bytes texts.found;
  against = string_bytes texts.against;
  event = string_bytes texts.event;
}
