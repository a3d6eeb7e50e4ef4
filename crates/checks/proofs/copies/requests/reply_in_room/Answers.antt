use Rattle.checks.proofs.copies.requests.reply_in_room.Goals as goal

pub fill-filled-requires : goal.fill-filled-requires
fill-filled-requires c =
    let config = c.args.house.now.config in
    let events = c.args.house.now.events in
    c.replies_fit.ensures config events c.args.command c.do_command-reply.result c.do_command-reply.new.self.events c.args.room c.requires.room
    (c.legal_lists_can_be_netted.ensures config events c.requires.operators c.requires.cdrs c.has_legal_list.ensures) c.do_command-reply.ensures.does
