use Rattle.std.proofs.Common.{rules}
use Rattle.clear_cli.proofs.RecordLemmas.{none_at, put_at}
use Rattle.clear_cli.proofs.differences.add_record.Goals as goal

pub returns-in_ok-push : goal.returns-in_ok-push
returns-in_ok-push c =
    put_at (λ list. list.items) c.args.record c.args.lists.now.items c.args.number c.in-Some.list.now c.push.new.self (search rules) (search rules) (search rules)

pub returns-in_default : goal.returns-in_default
returns-in_default c = none_at (λ list. list.items) c.args.record c.args.lists.now.items c.args.number (search rules)
