use Rattle.std.proofs.Common.{[], ◌∷◌, ◌++◌, Ok, flat_map}
use Rattle.std.specs.Prelude.{codes}
use Rattle.json.specs.Token.{begin_array, end_array, key}
use Rattle.request_lines.specs.TableText.{array_member, position_object}
use Rattle.request_lines.proofs.AddsLemmas.{adds_more}
use Rattle.request_lines.proofs.tables.put_positions.Goals as goal

pub returns : goal.returns
unfolding array_member
returns c =
    let opening = key (codes "positions") ∷ begin_array ∷ [] in
    let items = flat_map (position_object c.args.config.now) c.args.positions.now in
    let before = adds_more (Ok c.in_ok-put_each_position.field-0) c.args.out.now c.begin_list.new.out c.put_each_position.new.out opening items
    c.in_ok-begin_list.ensures.tokens_are c.begin_list.ensures.before_is c.in_ok-put_each_position.ensures in
    adds_more c.end_list.result c.args.out.now c.put_each_position.new.out c.end_list.new.out (opening ++ items) (end_array ∷ []) before.tokens_are before.before_is c.end_list.ensures
