-- The answers of a script, line by line.
use Rattle.std.proofs.Common.{◌≡◌, ℕ, List, [], ◌∷◌, ◌++◌, refl, sym, ◌∙◌, ap, append_assoc}
use Rattle.ocpi_types.specs.declared.config.Config.{Config}
use Rattle.plain_house.specs.declared.event.Event.{Event}
use Rattle.request_lines.specs.Script.{after, answer_of, answers_to, list_after}
use Rattle.kept_answers.specs.Runs.{ScriptsAreDetermined}

more_answers : (config : Config) (events : List Event) (some others : List (List ℕ)) → answers_to config events (some ++ others) ≡ answers_to config events some ++ answers_to config (list_after config events some) others
more_answers config events [] others = refl
more_answers config events (line ∷ some) others =
    ap (λ (l : List ℕ). answer_of config events line ++ l) (more_answers config (after config events line) some others)
    ∙ sym (append_assoc (answer_of config events line) (answers_to config (after config events line) some) (answers_to config (list_after config (after config events line) some) others))

more_left : (config : Config) (events : List Event) (some others : List (List ℕ)) → list_after config events (some ++ others) ≡ list_after config (list_after config events some) others
more_left config events [] others = refl
more_left config events (line ∷ some) others = more_left config (after config events line) some others

pub scripts_are_determined : ScriptsAreDetermined
scripts_are_determined config = record {
  one_way = λ start lines text other end last told again. (told.0 ∙ sym again.0, told.1 ∙ sym again.1);
  no_lines = λ start. (refl, refl);
  more_lines = λ start middle end some others text more told then. (
    ap (λ (l : List ℕ). l ++ more) told.0 ∙ ap (λ (l : List ℕ). answers_to config start some ++ l) (then.0 ∙ ap (λ (e : List Event). answers_to config e others) told.1) ∙ sym (more_answers config start some others),
    then.1 ∙ ap (λ (e : List Event). list_after config e others) told.1 ∙ sym (more_left config start some others),
  );
}
