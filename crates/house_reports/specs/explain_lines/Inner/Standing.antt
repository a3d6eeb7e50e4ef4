-- How far an explainer is.
use Rattle.house_reports.specs.declared.explain_lines.explainer.Explainer.{Explainer}
use Rattle.house_reports.specs.explain_lines.Inner.Telling.{Standing}

abbrev pub standing : Explainer → Standing
standing explainer = record {
  config = explainer.config.now;
  events = explainer.house.events;
  kept = explainer.events;
  lines = explainer.lines;
  any = explainer.is_any_refused;
}
