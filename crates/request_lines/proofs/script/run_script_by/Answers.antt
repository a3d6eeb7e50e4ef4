use Rattle.std.proofs.Common.{◌≡◌, ◌∙◌, refl, rules, sym}
use Rattle.request_lines.specs.declared.script.Scripted.{Scripted}
use Rattle.request_lines.specs.Script.{script_rule}
use Rattle.request_lines.proofs.SeenRuns.{Shows, stays, told_seen, in_turn_at, at_fault_at}
use Rattle.request_lines.proofs.script.run_script_by.Goals as goal

pub returns-clause-told : goal.returns-clause-told
returns-clause-told g c =
    let t = c.run_lines.ensures.told in
    let config = c.args.config.now in
    let Stays : Scripted g.row.S.Denot g.row.A.Denot g.S.Sequential → Scripted g.row.S.Denot g.row.A.Denot g.S.Sequential → Type 0 =
    λ s a. (a.house.ghost_name ≡ s.house.ghost_name) × (a.config.now ≡ config) in
    let shows : (s : Scripted g.row.S.Denot g.row.A.Denot g.S.Sequential) → Shows _ (script_rule config) (λ a. g.S.Sequential.events a.house.now) (Stays s) =
    λ s. record {
      answers = λ a b lines text k h.
          let step = in_turn_at config a.config.now b.config.now (g.S.Sequential.events a.house.now) lines text (g.S.Sequential.events b.house.now) k.1 h.1 in
          ((h.0 ∙ k.0, step.0), step.1);
      gives_up = λ a b line k h.
          let step = at_fault_at config a.config.now b.config.now (g.S.Sequential.events a.house.now) line (g.S.Sequential.events b.house.now) k.1 h.1 h.2 in
          ((h.0 ∙ k.0, step.0), step.1);
    } in
    let kept = stays _ _ _ Stays shows c.run_lines.result t.0 t.1 _ _ _ _ t.2 t.6 (refl, refl) in
    (t.0, t.1, t.2, t.3, t.4, t.5, told_seen _ _ _ Stays shows c.run_lines.result t.0 t.1 _ _ _ _ t.2 _ t.6 (refl, refl) (search (rules, sym kept.0)))
