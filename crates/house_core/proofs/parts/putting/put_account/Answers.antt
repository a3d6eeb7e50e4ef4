use Rattle.std.proofs.Common.{rules}
use Rattle.house_core.proofs.parts.putting.put_account.Goals as goal

pub put_in_account-requires-clause-room : goal.put_in_account-requires-clause-room
put_in_account-requires-clause-room c = (c.requires.ready c.in-Some.carried.now c.in-Some-event.event (search rules) (search rules)).0
