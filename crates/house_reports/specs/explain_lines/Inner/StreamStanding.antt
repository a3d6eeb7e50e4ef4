-- How far an explainer of a stream is.
use Rattle.line_streams.specs.State.{state_of}
use Rattle.house_reports.specs.declared.explain_lines.streamed.explainer.StreamExplainer.{StreamExplainer}
use Rattle.house_reports.specs.explain_lines.Inner.StreamTelling.{StreamStanding}

abbrev pub stream_standing : StreamExplainer → StreamStanding
stream_standing explainer = record {
  state = state_of explainer.stream;
  kept = explainer.events;
  lines = explainer.lines;
  any = explainer.is_any_refused;
}
